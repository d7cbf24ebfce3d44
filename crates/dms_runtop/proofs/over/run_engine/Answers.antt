use Rattle.std.proofs.Common.{◌≡◌, ◌∙◌, ℕ, IsTrue, List, inr, refl, sym, ap, subst}
use Rattle.dms_audfile.specs.Counting.{not_counted}
use Rattle.dms_block.specs.Counts.{Faults}
use Rattle.dms_status.specs.declared.status.Status.TheVariants.{DiskFault, SayFault}
use Rattle.dms_runner.specs.declared.run.RunFault.TheVariants.{Bytes, Input, Lines}
use Rattle.dms_wal.specs.declared.running.Running.{Running}
use Rattle.dms_runtop.specs.Faults.{run_status}
use Rattle.dms_runtop.specs.Statuses.{IsOfScript}
use Rattle.dms_runtop.proofs.Counted.{within_disk, within_say, within_input, input_within, left_nothing, held_nothing, on_upto, on_status, no_error, an_error, error_is}
use Rattle.dms_runtop.proofs.Endings.{closing_say, closing_input, run_not_ok, run_of_script, run_input}
use Rattle.dms_desc.specs.Shape.{as_described}
use Rattle.dms_run.specs.Starting.{BeginsWith, StopsLeave}
use Rattle.dms_run.proofs.Ending.{script_closes}
use Rattle.dms_run.proofs.Running.{numbers_used, part_leaves, script_ends}
use Rattle.dms_runtop.specs.Over.{ClosesOver, GrowsOver}
use Rattle.dms_runtop.proofs.Ran.{all_durable, carried_all, carried_of, db_under, state_under}
use Rattle.dms_runtop.proofs.Engine.{no_damage, within_over, closed_over}
use Rattle.dms_feed.specs.Lines.{raw_lines}
use Rattle.dms_restore.specs.Logging.{FilesGrew, telling_of}
use Rattle.dms_restore.specs.Views.{view_of}
use Rattle.dms_runner.specs.Answers.{script_events}
use Rattle.dms_runner.specs.Events.{RunEvent}
use Rattle.dms_storeverbs.specs.View.{engine_view}
use Rattle.dms_wal.specs.Database.{running_held}
use Rattle.dms_runner.proofs.Counting.{counted_law}
use Rattle.dms_runner.proofs.ValidSizes.{valid_size}
use Rattle.dms_runner.specs.EventLaws.{AreCounted}
use Rattle.dms_runtop.proofs.Bounds.{closed_bound, failed_bound}
use Rattle.dms_runtop.proofs.Grows.{grows_left, grows_over}
use Rattle.dms_runtop.proofs.Inputs.{blames_closing, blames_script}
use Rattle.dms_runtop.proofs.over.run_engine.Goals as goal

pub returns-in-Ok-clause-ran : goal.returns-in-Ok-clause-ran
returns-in-Ok-clause-ran g c = λ total first ps n db all b left.
    let e = c.args.engine in
    let e' = c.run_lines.new.engine in
    let r = e.store.over.below in
    let r' = e'.store.over.below in
    let pace = c.in-Ok.ensures.lasts.same.1 in
    let fed = held_nothing _ _ all c.new-feed.ensures left in
    let stands = c.requires.fresh db (db_under (as_described e.desc) (as_described e.store.desc) g.S.Site.tells (running_held g.S.Site r).content db e.under b.tells b.spells) in
    let starts : BeginsWith e n db r.next = record {
      stands = stands;
      room = b.room;
      tells = b.tells;
      state = state_under (as_described e.desc) (as_described e.store.desc) (running_held g.S.Site r) ps n db e.under b.points_are b.state;
      durable = all_durable (as_described e.store.desc) (running_held g.S.Site r) b.durable;
    } in
    let carried = c.in-Ok.ensures.carried db r.next all stands b.room fed in
    let ran = c.in-Ok.ensures.ran db r.next all stands b.room fed in
    let said = c.in-Ok.ensures.answers db r.next all stands b.room fed in
    closed_over g.S.Site (as_described e.desc) (as_described e.store.desc) (as_described e'.store.desc) r r' e.under (c.in-Ok.ensures.lasts.desc ∙ e.under) c.in-Ok.ensures.lasts.same.1 total first ps n db all b
    (g.I.Source.left c.run_lines.new.source) c.close_over.result.status c.close_over.result.site c.close_over.ensures.statuses
    (subst (λ (x : Running g.row.S.Denot). ClosesOver g.S.Site x c.close_over.result.status c.close_over.result.site) c.running_under-running.ensures c.close_over.ensures.closes)
    (subst (λ (x : Running g.row.S.Denot). IsTrue g.S.Site.tells_said → g.S.Site.said c.close_over.result.site ≡ g.S.Site.said x.log.site) c.running_under-running.ensures c.close_over.ensures.said)
    (carried_all (g.I.Source.left c.run_lines.new.source) e e' db r.next all c.in-Ok.field-0 carried)
    (subst (λ (es : List RunEvent). StopsLeave e e' n db r.next es) carried.whole (part_leaves e e' n db r.next starts carried.events (carried.part.moments b.tells)))
    (script_closes e e' n db r.next starts (raw_lines all) ran)
    (script_ends e e' n db r.next starts (raw_lines all) ran)
    said.text
    (record { few = said.few; short = said.short; room = said.room })
    (c.in-Ok.ensures.ended db r.next all stands b.room fed).next
    (closed_bound g.S.Site (as_described e.desc) r r' (telling_of total first) (λ i. telling_of (b.total_is i) (b.first_is i)) (λ i. telling_of ((pace.total ∙ b.total_is) i) ((pace.first ∙ b.first_is) i)) b.nothing b.every b.unused.0 b.unused.1 b.unused.2 b.tells c.in-Ok.ensures.lasts.same.2
    (script_events (as_described e.desc) db r.next (raw_lines all)) (engine_view e) (engine_view e') refl refl refl refl e.under
    (subst (λ (es : List RunEvent). (i : ℕ) → AreCounted (as_described e.desc) es i) carried.whole (counted_law (as_described e.desc) e.formed db (valid_size (as_described e.desc) e.formed db b.valid) r.next (raw_lines all) carried.n carried.events carried.front carried.are)) ran.effort (numbers_used (script_events (as_described e.desc) db r.next (raw_lines all)) ran) c.close_over.result.status (g.S.Site.files c.close_over.result.site) _
    c.in-Ok.ensures.lasts.sound.sound.unbroken
    (subst (λ (x : Running g.row.S.Denot). FilesGrew 18 (view_of g.S.Site x.log) (g.S.Site.files c.close_over.result.site)) c.running_under-running.ensures (c.close_over.ensures.closes.grown b.tells).few)
    said.text)

pub returns-in-Err-clause-ran : goal.returns-in-Err-clause-ran
returns-in-Err-clause-ran g c = λ total first ps n db all b left.
    let e = c.args.engine in
    let e' = c.run_lines.new.engine in
    let r = e.store.over.below in
    let r' = e'.store.over.below in
    let pace = c.in-Err.ensures.lasts.same.1 in
    let fed = held_nothing _ _ all c.new-feed.ensures left in
    let stands = c.requires.fresh db (db_under (as_described e.desc) (as_described e.store.desc) g.S.Site.tells (running_held g.S.Site r).content db e.under b.tells b.spells) in
    let starts : BeginsWith e n db r.next = record {
      stands = stands;
      room = b.room;
      tells = b.tells;
      state = state_under (as_described e.desc) (as_described e.store.desc) (running_held g.S.Site r) ps n db e.under b.points_are b.state;
      durable = all_durable (as_described e.store.desc) (running_held g.S.Site r) b.durable;
    } in
    let carried = c.in-Err.ensures.carried db r.next all stands b.room fed in
    within_over g.S.Site (as_described e.desc) (as_described e.store.desc) (as_described e'.store.desc) r r' e.under (c.in-Err.ensures.lasts.desc ∙ e.under) c.in-Err.ensures.lasts.same.1 total first ps n db all b
    (g.I.Source.left c.run_lines.new.source) c.running_under-running-in-Err.result.log.end.limit c.in-Err.fault c.fault_within-fault.result c.status_of_run.result c.into_site.result c.fault_within-fault.ensures
    (ap (λ (x : Running g.row.S.Denot). x.log.end.limit) c.running_under-running-in-Err.ensures) c.status_of_run.ensures
    (c.into_site.ensures ∙ ap (λ (x : Running g.row.S.Denot). x.log.site) c.running_under-running-in-Err.ensures)
    (carried_of (g.I.Source.left c.run_lines.new.source) e e' db r.next all c.in-Err.fault carried)
    (part_leaves e e' n db r.next starts carried.events (carried.part.moments b.tells))
    (no_damage c.in-Err.fault _ _ c.requires.found (carried.part.undamaged (record { db = db; mark = db; db_is = stands.db; mark_is = stands.mark })) c.in-Err.ensures.lasts.cause)
    (failed_bound g.S.Site (as_described e.desc) r r' (telling_of total first) (λ i. telling_of (b.total_is i) (b.first_is i)) (λ i. telling_of ((pace.total ∙ b.total_is) i) ((pace.first ∙ b.first_is) i)) b.nothing b.every b.unused.0 b.unused.1 b.unused.2 b.tells c.in-Err.ensures.lasts.same.2
    carried.events (engine_view e) (engine_view e') refl refl refl refl e.under (counted_law (as_described e.desc) e.formed db (valid_size (as_described e.desc) e.formed db b.valid) r.next (raw_lines all) carried.n carried.events carried.front carried.are) c.running_under-running-in-Err.result.log.end.limit c.in-Err.fault c.fault_within-fault.result c.fault_within-fault.ensures carried.part.took)

pub returns-in-Ok-clause-grown : goal.returns-in-Ok-clause-grown
returns-in-Ok-clause-grown g c =
    let same = c.in-Ok.ensures.lasts.same in
    grows_over g.S.Site c.args.engine.store.over.below c.run_lines.new.engine.store.over.below c.close_over.result.site same.1 same.2
    (subst (λ (x : Running g.row.S.Denot). GrowsOver g.S.Site x c.close_over.result.site) c.running_under-running.ensures (λ tells. (c.close_over.ensures.closes.grown tells).stays))

pub returns-in-Err-clause-grown : goal.returns-in-Err-clause-grown
returns-in-Err-clause-grown g c =
    let same = c.in-Err.ensures.lasts.same in
    let r' = c.run_lines.new.engine.store.over.below in
    grows_over g.S.Site c.args.engine.store.over.below r' c.into_site.result same.1 same.2
    (grows_left g.S.Site r' c.into_site.result (c.into_site.ensures ∙ ap (λ (x : Running g.row.S.Denot). x.log.site) c.running_under-running-in-Err.ensures))

pub returns-in-Ok-clause-say : goal.returns-in-Ok-clause-say
returns-in-Ok-clause-say g c =
    not_counted _ _ _ (closing_say c.close_over.result.status c.close_over.ensures.statuses)
    (c.close_over.ensures.say_faults ∙ ap (λ (r : Running g.row.S.Denot). g.S.Site.say_faults r.log.site) c.running_under-running.ensures ∙ ap (λ (f : Faults). f.say) c.in-Ok.ensures.lasts.cause)

pub returns-in-Ok-clause-same : goal.returns-in-Ok-clause-same
returns-in-Ok-clause-same g c =
    g.met.S.Site.same_then c.args.engine.store.over.below.log.site c.run_lines.new.engine.store.over.below.log.site c.close_over.result.site c.in-Ok.ensures.lasts.same.0
    (subst (λ (r : Running g.row.S.Denot). g.S.Site.same_site r.log.site c.close_over.result.site) c.running_under-running.ensures c.close_over.ensures.same)

pub returns-in-Err-clause-statuses : goal.returns-in-Err-clause-statuses
returns-in-Err-clause-statuses g c = inr (subst IsOfScript (sym c.status_of_run.ensures) (run_of_script c.fault_within-fault.result))

pub returns-in-Err-clause-disk : goal.returns-in-Err-clause-disk
returns-in-Err-clause-disk g c =
    on_status _ _ DiskFault _ _ c.status_of_run.ensures
    (on_upto _ _ _ _ (ap g.S.Site.disk_faults c.into_site.ensures ∙ ap (λ (r : Running g.row.S.Denot). g.S.Site.disk_faults r.log.site) c.running_under-running-in-Err.ensures)
    (within_disk _ c.in-Err.fault c.fault_within-fault.result _ _ c.fault_within-fault.ensures c.in-Err.ensures.lasts.cause))

pub returns-in-Err-clause-say : goal.returns-in-Err-clause-say
returns-in-Err-clause-say g c =
    on_status _ _ SayFault _ _ c.status_of_run.ensures
    (on_upto _ _ _ _ (ap g.S.Site.say_faults c.into_site.ensures ∙ ap (λ (r : Running g.row.S.Denot). g.S.Site.say_faults r.log.site) c.running_under-running-in-Err.ensures)
    (within_say _ c.in-Err.fault c.fault_within-fault.result _ _ c.fault_within-fault.ensures c.in-Err.ensures.lasts.cause))

pub returns-in-Ok-clause-takes : goal.returns-in-Ok-clause-takes
returns-in-Ok-clause-takes g c = record {
  end = λ ok all is. left_nothing _ _ (c.in-Ok.ensures.end all (held_nothing _ _ all c.new-feed.ensures is));
  blames = blames_closing c.close_over.result.status c.close_over.ensures.statuses (λ all rest. c.in-Ok.ensures.fits all (held_nothing _ _ all c.new-feed.ensures rest));
  faults = not_counted _ _ _ (closing_input c.close_over.result.status c.close_over.ensures.statuses) (c.in-Ok.ensures.clean (no_error c.in-Ok.field-0 Input));
  same = c.in-Ok.ensures.same_source;
}

pub returns-in-Err-clause-takes : goal.returns-in-Err-clause-takes
returns-in-Err-clause-takes g c =
    let then = c.fault_within-fault.result in
    let within = c.fault_within-fault.ensures in
    let last = c.running_under-running-in-Err.result.log.end.limit in
    record {
      end = λ ok. absurd (run_not_ok then (sym c.status_of_run.ensures ∙ ok));
      blames = blames_script last c.in-Err.fault then c.status_of_run.result within c.status_of_run.ensures (λ is all rest. c.in-Err.ensures.too_many_lines (an_error c.in-Err.fault Lines is) all (held_nothing _ _ all c.new-feed.ensures rest))
          (λ is all rest. c.in-Err.ensures.too_many_bytes (an_error c.in-Err.fault Bytes is) all (held_nothing _ _ all c.new-feed.ensures rest))
          (λ is all rest. c.in-Err.ensures.breaks (an_error c.in-Err.fault Input is) all (held_nothing _ _ all c.new-feed.ensures rest));
      faults = record {
        later = c.in-Err.ensures.taken;
        failed = λ is. c.in-Err.ensures.input (an_error c.in-Err.fault Input (within_input _ c.in-Err.fault then within (run_input then (sym c.status_of_run.ensures ∙ is))));
        once = c.in-Err.ensures.once;
        clean = λ none. c.in-Err.ensures.clean (λ is. none (c.status_of_run.ensures ∙ ap run_status (input_within _ c.in-Err.fault then within (error_is c.in-Err.fault Input is))));
      };
      same = c.in-Err.ensures.same_source;
    }
