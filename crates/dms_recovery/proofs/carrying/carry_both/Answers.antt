use Rattle.dms_recovery.proofs.Rounds.{writes_behind}
use Rattle.dms_recovery.proofs.Marked.{marks_twice}
use Rattle.std.proofs.Common.{◌∙◌, refl, sym, subst, arith}
use Rattle.dms_site.specs.Files.{stored_of}
use Rattle.dms_history.specs.Entries.{Kind}
use Rattle.dms_opening.specs.Carrying.{MayBegin, RunsTo}
use Rattle.dms_recovery.proofs.Behind.{planned_before, first_writes, begins_behind, ends_behind, leaves_behind, leaves_first}
use Rattle.dms_recovery.proofs.First.{begins_mending, ends_mending, leaves_mending, pending_leaves, pending_writes, right_counted}
use Rattle.dms_restore.specs.GrowLaws.{log_grows_more}
use Rattle.dms_restore.specs.Logging.{view}
use Rattle.dms_restore.specs.Views.{view_of}
use Rattle.dms_restore.proofs.Results.{one_if_ok, two_if_ok, one_if_err}
use Rattle.dms_opening.proofs.Opens.{counted_on}
use Rattle.dms_recovery.proofs.Twice.{second_writes, full_back, grows_twice}
use Rattle.dms_recovery.proofs.carrying.carry_both.Goals as goal

pub returns-in-Err-clause-only : goal.returns-in-Err-clause-only
returns-in-Err-clause-only g c tells ready = c.in-Err.ensures.only ready.pending tells ready.first_writes

pub returns-in-Err-clause-full : goal.returns-in-Err-clause-full
returns-in-Err-clause-full g c tells ready full = c.in-Err.ensures.full ready.pending tells ready.first_writes full

pub returns-in-Err-clause-grown_then : goal.returns-in-Err-clause-grown_then
returns-in-Err-clause-grown_then g c tells ready =
    let v = view_of g.S.Site c.args.log in
    log_grows_more 19 38 v (view v.end v.first (g.S.Site.files c.in-Err.refused.1) (g.S.Site.clock c.in-Err.refused.1)) (omega arith) (c.in-Err.ensures.grown_then ready.pending tells ready.first_writes)

pub returns-clause-only : goal.returns-clause-only
returns-clause-only g c = one_if_err c.carry_out-2.result c.carry_out-2.ensures.only (λ e only tells ready.
    let r = c.in-Ok.ensures in
    only ready.restore tells (second_writes (view_of g.S.Site c.args.log) (view_of g.S.Site c.in-Ok.opened.log) c.args.before c.args.own ready r.kind.0 r.kind.2 (r.starts ready.pending tells ready.first_writes) (r.grown ready.pending tells ready.first_writes) (r.dumps ready.pending tells ready.first_writes)))

pub returns-clause-full : goal.returns-clause-full
returns-clause-full g c = one_if_err c.carry_out-2.result c.carry_out-2.ensures.full (λ e full tells ready is.
    let r = c.in-Ok.ensures in
    let v = view_of g.S.Site c.args.log in
    let w = view_of g.S.Site c.in-Ok.opened.log in
    let starts = r.starts ready.pending tells ready.first_writes in
    let grown = r.grown ready.pending tells ready.first_writes in
    let dumps = r.dumps ready.pending tells ready.first_writes in
    full_back v w c.args.before c.args.own ready r.kind.0 r.kind.2 starts grown dumps (g.S.Site.files e.1)
    (full ready.restore tells (second_writes v w c.args.before c.args.own ready r.kind.0 r.kind.2 starts grown dumps) is))

pub returns-clause-grown : goal.returns-clause-grown
returns-clause-grown g c = one_if_ok c.carry_out-2.result c.carry_out-2.ensures.grown (λ o more tells ready.
    let r = c.in-Ok.ensures in
    let v = view_of g.S.Site c.args.log in
    let w = view_of g.S.Site c.in-Ok.opened.log in
    let starts = r.starts ready.pending tells ready.first_writes in
    let grown = r.grown ready.pending tells ready.first_writes in
    let dumps = r.dumps ready.pending tells ready.first_writes in
    grows_twice v w c.args.before c.args.own ready r.kind.0 r.kind.2 starts grown dumps (view_of g.S.Site o.log) (more ready.restore tells (second_writes v w c.args.before c.args.own ready r.kind.0 r.kind.2 starts grown dumps)))

pub returns-clause-grown_then : goal.returns-clause-grown_then
returns-clause-grown_then g c = one_if_err c.carry_out-2.result c.carry_out-2.ensures.grown_then (λ e more tells ready.
    let r = c.in-Ok.ensures in
    let v = view_of g.S.Site c.args.log in
    let w = view_of g.S.Site c.in-Ok.opened.log in
    let starts = r.starts ready.pending tells ready.first_writes in
    let grown = r.grown ready.pending tells ready.first_writes in
    let dumps = r.dumps ready.pending tells ready.first_writes in
    let twice = grows_twice v w c.args.before c.args.own ready r.kind.0 r.kind.2 starts grown dumps (view w.end w.first (g.S.Site.files e.1) (g.S.Site.clock e.1)) (more ready.restore tells (second_writes v w c.args.before c.args.own ready r.kind.0 r.kind.2 starts grown dumps)) in
    record { stays = record { kept = twice.stays.kept; left = twice.stays.left }; few = twice.few })

pub returns-clause-kind : goal.returns-clause-kind
returns-clause-kind g c = one_if_ok c.carry_out-2.result c.carry_out-2.ensures.kind (λ o kind. let was = c.in-Ok.ensures.kind in (kind.0 ∙ was.0, kind.1 ∙ was.1, kind.2 ∙ was.2))

pub returns-clause-same : goal.returns-clause-same
returns-clause-same g c = one_if_ok c.carry_out-2.result c.carry_out-2.ensures.same (λ o same. g.met.S.Site.same_then _ _ _ c.in-Ok.ensures.same same)

pub returns-clause-same_then : goal.returns-clause-same_then
returns-clause-same_then g c = one_if_err c.carry_out-2.result c.carry_out-2.ensures.same_then (λ e same. g.met.S.Site.same_then _ _ _ c.in-Ok.ensures.same same)

pub returns-clause-said : goal.returns-clause-said
returns-clause-said g c = one_if_ok c.carry_out-2.result c.carry_out-2.ensures.said (λ o said. said ∙ c.in-Ok.ensures.said)

pub returns-clause-said_then : goal.returns-clause-said_then
returns-clause-said_then g c = one_if_err c.carry_out-2.result c.carry_out-2.ensures.said_then (λ e said. said ∙ c.in-Ok.ensures.said)

pub returns-clause-clean : goal.returns-clause-clean
returns-clause-clean g c = one_if_ok c.carry_out-2.result c.carry_out-2.ensures.clean (λ o clean. clean ∙ c.in-Ok.ensures.clean)

pub returns-clause-say_faults : goal.returns-clause-say_faults
returns-clause-say_faults g c = one_if_ok c.carry_out-2.result c.carry_out-2.ensures.say_faults (λ o same. same ∙ c.in-Ok.ensures.say_faults)

pub returns-clause-say_faults_then : goal.returns-clause-say_faults_then
returns-clause-say_faults_then g c = one_if_err c.carry_out-2.result c.carry_out-2.ensures.say_faults_then (λ e same. same ∙ c.in-Ok.ensures.say_faults)

pub returns-clause-disk : goal.returns-clause-disk
returns-clause-disk g c = one_if_err c.carry_out-2.result c.carry_out-2.ensures.disk (λ e counted. counted_on _ _ _ _ c.in-Ok.ensures.clean counted)

pub returns-clause-point : goal.returns-clause-point
returns-clause-point g c = one_if_ok c.carry_out-2.result c.carry_out-2.ensures.plan (λ o plan. plan.0)

pub returns-in-Err-clause-rolls_then : goal.returns-in-Err-clause-rolls_then
returns-in-Err-clause-rolls_then g c asked tells kind r =
    let v = view_of g.S.Site c.args.log in
    leaves_first v asked c.args.before c.args.own r c.requires.first_fits _ _ (c.in-Err.ensures.stopped tells refl (planned_before v asked c.args.before c.args.own r c.requires.first_fits) r.whole)

pub returns-clause-rolled : goal.returns-clause-rolled
returns-clause-rolled g c = two_if_ok c.carry_out-2.result c.carry_out-2.ensures.runs_to c.carry_out-2.ensures.kind (λ o runs_to kind asked tells is r.
    let one = c.in-Ok.ensures in
    let v = view_of g.S.Site c.args.log in
    let w = view_of g.S.Site c.in-Ok.opened.log in
    let x = view_of g.S.Site o.log in
    let before = c.args.before in
    let own = c.args.own in
    let fits = c.requires.first_fits in
    let runs = one.runs tells refl (planned_before v asked before own r fits) r.whole in
    let read = g.met.S.Site.may_stay c.in-Ok.opened.log.site tells in
    let writes = first_writes v asked before own r fits in
    let begin = begins_behind v asked before own r fits w one.kind.0 one.kind.2 runs read (one.grown _ tells writes).stays.kept.grown (one.dumps _ tells writes) in
    let to = runs_to (stored_of (g.S.Site.files c.in-Ok.opened.log.site)) tells (subst (λ (k : Kind). MayBegin w (stored_of w.files) k own) (sym is) begin) in
    ends_behind v asked before own r fits w one.kind.0 one.kind.2 runs read x kind.0 kind.2 (subst (λ (k : Kind). RunsTo w (stored_of w.files) k own x) is to) (g.met.S.Site.may_stay o.log.site tells))

pub returns-clause-rolls : goal.returns-clause-rolls
returns-clause-rolls g c = one_if_ok c.carry_out-2.result c.carry_out-2.ensures.leaves (λ o leaves asked tells is r.
    let one = c.in-Ok.ensures in
    let v = view_of g.S.Site c.args.log in
    let w = view_of g.S.Site c.in-Ok.opened.log in
    let before = c.args.before in
    let own = c.args.own in
    let fits = c.requires.first_fits in
    let planned = planned_before v asked before own r fits in
    let runs = one.runs tells refl planned r.whole in
    let read = g.met.S.Site.may_stay c.in-Ok.opened.log.site tells in
    let writes = first_writes v asked before own r fits in
    let begin = begins_behind v asked before own r fits w one.kind.0 one.kind.2 runs read (one.grown _ tells writes).stays.kept.grown (one.dumps _ tells writes) in
    leaves_behind v asked before own r fits w one.kind.0 one.kind.2 runs read _ _ (one.moments tells refl planned r.whole)
    (leaves (stored_of (g.S.Site.files c.in-Ok.opened.log.site)) tells (subst (λ (k : Kind). MayBegin w (stored_of w.files) k own) (sym is) begin)))

pub returns-clause-rolls_then : goal.returns-clause-rolls_then
returns-clause-rolls_then g c = one_if_err c.carry_out-2.result c.carry_out-2.ensures.leaves_then (λ e leaves asked tells is r.
    let one = c.in-Ok.ensures in
    let v = view_of g.S.Site c.args.log in
    let w = view_of g.S.Site c.in-Ok.opened.log in
    let before = c.args.before in
    let own = c.args.own in
    let fits = c.requires.first_fits in
    let planned = planned_before v asked before own r fits in
    let runs = one.runs tells refl planned r.whole in
    let read = g.met.S.Site.may_stay c.in-Ok.opened.log.site tells in
    let writes = first_writes v asked before own r fits in
    let begin = begins_behind v asked before own r fits w one.kind.0 one.kind.2 runs read (one.grown _ tells writes).stays.kept.grown (one.dumps _ tells writes) in
    leaves_behind v asked before own r fits w one.kind.0 one.kind.2 runs read _ _ (one.moments tells refl planned r.whole)
    (leaves (stored_of (g.S.Site.files c.in-Ok.opened.log.site)) tells (subst (λ (k : Kind). MayBegin w (stored_of w.files) k own) (sym is) begin)))

pub returns-in-Err-clause-mends_then : goal.returns-in-Err-clause-mends_then
returns-in-Err-clause-mends_then g c u d rows tells kind r =
    let v = view_of g.S.Site c.args.log in
    let writes = pending_writes v u d rows c.args.before c.args.own r c.requires.first_fits in
    pending_leaves v u d rows c.args.before c.args.own r c.requires.first_fits _ (c.in-Err.ensures.over_stopped _ tells r.plans.goes_on writes)

pub returns-clause-mended : goal.returns-clause-mended
returns-clause-mended g c = two_if_ok c.carry_out-2.result c.carry_out-2.ensures.runs_to c.carry_out-2.ensures.kind (λ o runs_to kind u d rows tells is r.
    let one = c.in-Ok.ensures in
    let v = view_of g.S.Site c.args.log in
    let w = view_of g.S.Site c.in-Ok.opened.log in
    let before = c.args.before in
    let own = c.args.own in
    let fits = c.requires.first_fits in
    let writes = pending_writes v u d rows before own r fits in
    let over = one.over _ tells r.plans.goes_on writes in
    let starts = one.starts _ tells writes in
    let kept = (one.grown _ tells writes).stays.kept in
    let dumps = one.dumps _ tells writes in
    let right = right_counted v u d rows before own r fits w over one.kind.0 one.kind.2 starts kept dumps in
    let begin = begins_mending v u d rows before own r fits w over one.kind.0 one.kind.2 starts kept dumps in
    let x = view_of g.S.Site o.log in
    let to = runs_to right tells (subst (λ (k : Kind). MayBegin w right k own) (sym is) begin) in
    ends_mending v u d rows before own r fits w over one.kind.0 one.kind.2 starts kept dumps x kind.0 kind.2 (subst (λ (k : Kind). RunsTo w right k own x) is to) (g.met.S.Site.may_stay o.log.site tells))

pub returns-clause-mends : goal.returns-clause-mends
returns-clause-mends g c = one_if_ok c.carry_out-2.result c.carry_out-2.ensures.leaves (λ o leaves u d rows tells is r.
    let one = c.in-Ok.ensures in
    let v = view_of g.S.Site c.args.log in
    let w = view_of g.S.Site c.in-Ok.opened.log in
    let before = c.args.before in
    let own = c.args.own in
    let fits = c.requires.first_fits in
    let writes = pending_writes v u d rows before own r fits in
    let over = one.over _ tells r.plans.goes_on writes in
    let starts = one.starts _ tells writes in
    let kept = (one.grown _ tells writes).stays.kept in
    let dumps = one.dumps _ tells writes in
    let right = right_counted v u d rows before own r fits w over one.kind.0 one.kind.2 starts kept dumps in
    let begin = begins_mending v u d rows before own r fits w over one.kind.0 one.kind.2 starts kept dumps in
    leaves_mending v u d rows before own r fits w over one.kind.0 one.kind.2 starts kept dumps _ (one.over_moments _ tells r.plans.goes_on writes)
    (leaves right tells (subst (λ (k : Kind). MayBegin w right k own) (sym is) begin)))

pub returns-clause-mends_then : goal.returns-clause-mends_then
returns-clause-mends_then g c = one_if_err c.carry_out-2.result c.carry_out-2.ensures.leaves_then (λ e leaves u d rows tells is r.
    let one = c.in-Ok.ensures in
    let v = view_of g.S.Site c.args.log in
    let w = view_of g.S.Site c.in-Ok.opened.log in
    let before = c.args.before in
    let own = c.args.own in
    let fits = c.requires.first_fits in
    let writes = pending_writes v u d rows before own r fits in
    let over = one.over _ tells r.plans.goes_on writes in
    let starts = one.starts _ tells writes in
    let kept = (one.grown _ tells writes).stays.kept in
    let dumps = one.dumps _ tells writes in
    let right = right_counted v u d rows before own r fits w over one.kind.0 one.kind.2 starts kept dumps in
    let begin = begins_mending v u d rows before own r fits w over one.kind.0 one.kind.2 starts kept dumps in
    leaves_mending v u d rows before own r fits w over one.kind.0 one.kind.2 starts kept dumps _ (one.over_moments _ tells r.plans.goes_on writes)
    (leaves right tells (subst (λ (k : Kind). MayBegin w right k own) (sym is) begin)))

pub returns-clause-marked : goal.returns-clause-marked
returns-clause-marked g c = one_if_ok c.carry_out-2.result c.carry_out-2.ensures.marked (λ o marked q p tells one two.
    let was = c.in-Ok.ensures in
    let v = view_of g.S.Site c.args.log in
    let w = view_of g.S.Site c.in-Ok.opened.log in
    marks_twice q p v.files w.files (g.S.Site.files o.log.site) (was.marked q tells one.writes one.counts_are)
    (marked p tells (writes_behind v w p c.args.own was.kind.0 was.kind.2 (was.starts q tells one.writes) (was.grown q tells one.writes).stays.kept.grown (was.dumps q tells one.writes) two.writes) two.counts_are))
