use Rattle.std.proofs.Common.{◌≡◌, ◌∙◌, sym, subst}
use Rattle.dms_site.specs.Files.{Files, Only}
use Rattle.dms_opening.specs.Openings.{IsTrailFound}
use Rattle.dms_opening.specs.Plans.{Plans}
use Rattle.dms_dumping.specs.Refusing.{IsOpenDump, JudgesDump}
use Rattle.dms_opening.specs.Short.{NoneShort}
use Rattle.dms_opening.specs.Whole.{StaysRead}
use Rattle.dms_opening.proofs.Reading.{looked_still, reads_stay, stays_on}
use Rattle.dms_dumping.proofs.Looks.{judged_refuses, not_full, judged_room}
use Rattle.dms_dumping.proofs.looking.look_to_dump.Goals as goal

pub returns-in-Ok-judge_dump-clause-looked : goal.returns-in-Ok-judge_dump-clause-looked
returns-in-Ok-judge_dump-clause-looked g c = λ tells.
    let l = c.in-Ok.ensures in
    let r = c.judge_dump.ensures.reads in
    looked_still g.S.Site c.in-Ok.planned c.args.site c.judge_dump.new.site (l.files tells) (r.files_stay tells) r.moments (l.starts tells) (l.trail tells) (l.plans tells)

pub returns-in-Ok-judge_dump-clause-stays : goal.returns-in-Ok-judge_dump-clause-stays
returns-in-Ok-judge_dump-clause-stays g c =
    let l = c.in-Ok.ensures in
    stays_on g.S.Site g.met.S.Site.same_then c.args.site c.in-Ok.planned.log.site c.judge_dump.new.site (record { files = l.files; moments = l.moments; said = l.said; say_faults = l.say_faults; same = l.same })
    (reads_stay g.S.Site c.in-Ok.planned.log.site c.judge_dump.new.site c.judge_dump.ensures.reads c.judge_dump.ensures.same_site)

pub returns-in-Err-judge_dump-clause-refused : goal.returns-in-Err-judge_dump-clause-refused
returns-in-Err-judge_dump-clause-refused g c = λ tells.
    let l = c.in-Ok.ensures in
    judged_refuses c.args.dump c.in-Ok.planned.log.end.total c.in-Ok.planned.log.first (g.S.Site.files c.args.site) c.in-Ok.planned.plan c.in-Err-judge_dump.refusal (l.trail tells) (l.plans tells)
    (subst (λ (x : Files). JudgesDump c.args.dump x c.in-Ok.planned.plan c.in-Err-judge_dump.refusal) (l.files tells) (c.in-Err-judge_dump.ensures.refused tells))

pub returns-in-Err-judge_dump-clause-stays_then : goal.returns-in-Err-judge_dump-clause-stays_then
returns-in-Err-judge_dump-clause-stays_then g c =
    let l = c.in-Ok.ensures in
    stays_on g.S.Site g.met.S.Site.same_then c.args.site c.in-Ok.planned.log.site c.judge_dump.new.site (record { files = l.files; moments = l.moments; said = l.said; say_faults = l.say_faults; same = l.same })
    (reads_stay g.S.Site c.in-Ok.planned.log.site c.judge_dump.new.site c.judge_dump.ensures.reads c.judge_dump.ensures.same_site)

pub returns-in-Err-clause-room : goal.returns-in-Err-clause-room
returns-in-Err-clause-room g c = λ tells is. not_full c.in-Err.fault (c.in-Err.ensures.room tells) is

pub returns-in-Err-judge_dump-clause-room : goal.returns-in-Err-judge_dump-clause-room
returns-in-Err-judge_dump-clause-room g c = λ tells is. judged_room c.args.dump (g.S.Site.files c.in-Ok.planned.log.site) c.in-Ok.planned.plan c.in-Err-judge_dump.refusal (c.in-Err-judge_dump.ensures.refused tells) is

pub returns-in-Ok-judge_dump-clause-can : goal.returns-in-Ok-judge_dump-clause-can
returns-in-Ok-judge_dump-clause-can g c = λ tells.
    let l = c.in-Ok.ensures in
    let p = c.in-Ok.planned in
    record {
      opens = record { total = p.log.end.total; first = p.log.first; trail = l.trail tells; plan = p.plan; plans = l.plans tells };
      shut = subst (λ (x : Files). IsOpenDump c.args.dump x → ⊥) (l.files tells) (c.in-Ok-judge_dump.ensures.shut tells);
      none = subst (λ (x : Files). NoneShort x p.plan.counts.items p.plan.table) (l.files tells) (c.in-Ok-judge_dump.ensures.none tells);
    }
