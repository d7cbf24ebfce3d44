use Rattle.dms_status.specs.declared.status.Status.{Status}
use Rattle.dms_top.specs.Words.{IsOfTry}
use Rattle.std.proofs.Common.{rules, subst, ◌≡◌, ap, sym, refl, List, ℕ, arith}
use Rattle.dms_desc.specs.Shape.{Described, as_described}
use Rattle.dms_feed.specs.Lines.{raw_lines}
use Rattle.dms_model.specs.Db.{empty_db}
use Rattle.dms_runner.specs.Answers.{answers_text, script_events}
use Rattle.dms_top.specs.TryLimits.{PassesLimit, SaidIf}
use Rattle.dms_top.proofs.Printing.{told_front, told_prints, told_whole, limits_kept, stands_at, nothing_part, part_moved, printed_moved, front_none, printed_front, passes_described, passes_said, too_many_bytes, too_many_held, too_many_lines, within_moved, on_ok}
use Rattle.dms_top.proofs.Counting.{say_counted, counted_moved}
use Rattle.dms_top.proofs.Carried.{whole_part}
use Rattle.dms_top.proofs.Cutting.{cut_lines, cut_lines_described, cut_said}
use Rattle.dms_feed.specs.Feeds.{Remains}
use Rattle.dms_status.specs.declared.status.Status.TheVariants.{Limit}
use Rattle.dms_status.specs.declared.status.LimitKind.{LimitKind}
use Rattle.dms_status.specs.declared.status.LimitKind.TheVariants.{AuditFile, Lines, Bytes, Held}
use Rattle.dms_top.proofs.try_run.try_lines.Given.{Over}
use Rattle.dms_top.proofs.try_run.try_lines.Goals as goal

pub returns-in-Ok-new-clause-part : goal.returns-in-Ok-new-clause-part
returns-in-Ok-new-clause-part g c = λ tells all remains.
    let p = whole_part _ _ _ _ empty_db 1 all (c.run_lines-ran.ensures.carried empty_db 1 all (stands_at _ _ 1 c.in-Ok.ensures.starts.next_is (c.in-Ok-new.ensures.stands empty_db c.in-Ok.ensures.starts.db_is)) (omega arith) remains) in
    part_moved _ _ _ (g.S.Site.said c.in-Ok-new.engine.store.site.now) (g.S.Site.said c.run_lines-ran.new.engine.store.site.now) _ (script_events (as_described c.in-Ok-new.engine.desc) empty_db 1 (raw_lines all)) (search rules) (search rules) (ap (λ (d : Described). script_events d empty_db 1 (raw_lines all)) (sym c.in-Ok-new.ensures.described)) (record {
      text = told_front g.S.Site.tells_said _ _ _ tells p.text;
      whole = λ printed. told_whole g.S.Site.tells_said _ _ _ tells (p.said_whole (λ cut. printed (c.status_after.ensures.cut cut)));
    })

pub returns-in-Err-clause-part : goal.returns-in-Err-clause-part
returns-in-Err-clause-part g c = λ tells all remains. nothing_part _ _ _ _ (search rules)

pub returns-in-Err-new-clause-part : goal.returns-in-Err-new-clause-part
returns-in-Err-new-clause-part g c = λ tells all remains. nothing_part _ _ _ _ (search rules)

pub returns-in-Ok-new-clause-front : goal.returns-in-Ok-new-clause-front
returns-in-Ok-new-clause-front g c = λ tells all remains.
    let k = c.run_lines-ran.ensures.carried empty_db 1 all (stands_at _ _ 1 c.in-Ok.ensures.starts.next_is (c.in-Ok-new.ensures.stands empty_db c.in-Ok.ensures.starts.db_is)) (omega arith) remains in
    printed_front _ _ (as_described c.in-Ok-new.engine.desc) _ (raw_lines all) _ _ (g.S.Site.said c.in-Ok-new.engine.store.site.now) (g.S.Site.said c.run_lines-ran.new.engine.store.site.now) (search rules) (search rules) (sym c.in-Ok-new.ensures.described) refl (record {
      n = k.n;
      events = k.events;
      front = k.front;
      are = k.are;
      part = record {
        text = told_front g.S.Site.tells_said _ _ _ tells k.part.text;
        whole = λ printed. told_whole g.S.Site.tells_said _ _ _ tells (k.part.said_whole (λ cut. printed (c.status_after.ensures.cut cut)));
      };
    })

pub returns-in-Err-clause-front : goal.returns-in-Err-clause-front
returns-in-Err-clause-front g c = λ tells all remains. front_none _ (as_described c.args.desc.now) (raw_lines all) _ _ (search rules)

pub returns-in-Err-new-clause-front : goal.returns-in-Err-new-clause-front
returns-in-Err-new-clause-front g c = λ tells all remains. front_none _ (as_described c.args.desc.now) (raw_lines all) _ _ (search rules)

pub returns-in-Ok-new-clause-answers : goal.returns-in-Ok-new-clause-answers
returns-in-Ok-new-clause-answers g c = λ ok is all remains.
    let a = (on_ok _ _ (c.status_after.ensures.ok ok) c.run_lines-ran.ensures.answers) empty_db 1 all (stands_at _ _ 1 c.in-Ok.ensures.starts.next_is (c.in-Ok-new.ensures.stands empty_db c.in-Ok.ensures.starts.db_is)) (omega arith) remains in
    printed_moved _ _ _ (g.S.Site.said c.in-Ok-new.engine.store.site.now) (g.S.Site.said c.run_lines-ran.new.engine.store.site.now) (answers_text (as_described c.in-Ok-new.engine.desc) empty_db 1 (raw_lines all)) (search rules) (search rules) (ap (λ (d : Described). answers_text d empty_db 1 (raw_lines all)) (sym c.in-Ok-new.ensures.described)) (told_prints g.S.Site.tells_said _ _ _ is a.text)

pub returns-in-Ok-new-clause-within : goal.returns-in-Ok-new-clause-within
returns-in-Ok-new-clause-within g c = λ ok all remains.
    within_moved _ _ _ (sym c.in-Ok-new.ensures.described) (limits_kept _ _ _ _ ((on_ok _ _ (c.status_after.ensures.ok ok) c.run_lines-ran.ensures.answers) empty_db 1 all (stands_at _ _ 1 c.in-Ok.ensures.starts.next_is (c.in-Ok-new.ensures.stands empty_db c.in-Ok.ensures.starts.db_is)) (omega arith) remains))

pub returns-in-Ok-new-clause-input_cut : goal.returns-in-Ok-new-clause-input_cut
returns-in-Ok-new-clause-input_cut g c = λ is all remains.
    cut_said _ _ _ (g.S.Site.said c.in-Ok-new.engine.store.site.now) (g.S.Site.said c.run_lines-ran.new.engine.store.site.now) _ all _ (search rules) (search rules)
    (cut_lines_described _ _ (as_described c.in-Ok-new.engine.desc) all _ (sym c.in-Ok-new.ensures.described)
    (cut_lines g.S.Site.tells_said (g.S.Site.said c.in-Ok-new.engine.store.site.now) (g.S.Site.said c.run_lines-ran.new.engine.store.site.now) _ all _ ((c.run_lines-ran.ensures.carried empty_db 1 all (stands_at _ _ 1 c.in-Ok.ensures.starts.next_is (c.in-Ok-new.ensures.stands empty_db c.in-Ok.ensures.starts.db_is)) (omega arith) remains).failed (c.status_after.ensures.input is)).0))

pub returns-in-Ok-new-clause-limit : goal.returns-in-Ok-new-clause-limit
returns-in-Ok-new-clause-limit g c = λ k is all remains.
    passes_said k _ _ _ (g.S.Site.said c.in-Ok-new.engine.store.site.now) (g.S.Site.said c.run_lines-ran.new.engine.store.site.now) _ _ (search rules) (search rules)
    (passes_described _ k _ (as_described c.in-Ok-new.engine.desc) _ (sym c.in-Ok-new.ensures.described) (passes g c k is all remains))
  where
    passes : (g : Over) (c : goal.After-status_after g) (k : LimitKind) → c.status_after.result ≡ Limit k → (all : List ℕ) → Remains c.args.feed.now (g.I.Source.left c.args.source.now) all → PassesLimit (SaidIf g.S.Site.tells_said (g.S.Site.said c.in-Ok-new.engine.store.site.now) (g.S.Site.said c.run_lines-ran.new.engine.store.site.now)) k (as_described c.in-Ok-new.engine.desc) (raw_lines all)
    passes g c (AuditFile f) is all remains = absurd (subst (λ (s : Status). IsOfTry s) is c.status_after.ensures.statuses)
    passes g c Lines is all remains =
        record { by = too_many_lines _ _ _ _ _ ((c.run_lines-ran.ensures.carried empty_db 1 all (stands_at _ _ 1 c.in-Ok.ensures.starts.next_is (c.in-Ok-new.ensures.stands empty_db c.in-Ok.ensures.starts.db_is)) (omega arith) remains).lines (c.status_after.ensures.lines is)).0 }
    passes g c Bytes is all remains =
        record { by = too_many_bytes _ _ _ _ _ ((c.run_lines-ran.ensures.carried empty_db 1 all (stands_at _ _ 1 c.in-Ok.ensures.starts.next_is (c.in-Ok-new.ensures.stands empty_db c.in-Ok.ensures.starts.db_is)) (omega arith) remains).bytes (c.status_after.ensures.bytes is)).0 }
    passes g c Held is all remains =
        record { by = too_many_held _ _ _ _ _ ((c.run_lines-ran.ensures.carried empty_db 1 all (stands_at _ _ 1 c.in-Ok.ensures.starts.next_is (c.in-Ok-new.ensures.stands empty_db c.in-Ok.ensures.starts.db_is)) (omega arith) remains).full_list (c.status_after.ensures.waiting is)).0 }

pub returns-in-Ok-new-clause-input : goal.returns-in-Ok-new-clause-input
returns-in-Ok-new-clause-input g c = record {
  later = c.run_lines-ran.ensures.taken;
  failed = λ is. c.run_lines-ran.ensures.input (c.status_after.ensures.input is);
  once = c.run_lines-ran.ensures.once;
  clean = λ not_so. c.run_lines-ran.ensures.clean (λ is. not_so (c.status_after.ensures.took is));
}

pub returns-in-Ok-new-clause-say : goal.returns-in-Ok-new-clause-say
returns-in-Ok-new-clause-say g c =
    counted_moved _ _ _ (g.S.Site.say_faults c.in-Ok-new.engine.store.site.now) (g.S.Site.say_faults c.run_lines-ran.new.engine.store.site.now) (search rules) (search rules)
    (say_counted _ c.run_lines-ran.result _ _ c.status_after.ensures.say c.status_after.ensures.said c.run_lines-ran.ensures.lasts.cause)
