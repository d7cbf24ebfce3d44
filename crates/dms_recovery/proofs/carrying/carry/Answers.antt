use Rattle.dms_recovery.specs.Marks.{WritesAll}
use Rattle.dms_recovery.proofs.Marked.{marks_alone, marks_both}
use Rattle.std.proofs.Common.{Option, sym, ◌∙◌, subst, arith}
use Rattle.std.proofs.lemmas.Option.{none-some}
use Rattle.dms_opening.specs.declared.plan.OpeningPlan.{OpeningPlan}
use Rattle.dms_restore.specs.GrowLaws.{log_grows_more}
use Rattle.dms_restore.specs.Logging.{view}
use Rattle.dms_restore.specs.Views.{view_of}
use Rattle.dms_restore.proofs.Results.{one_if_ok, one_if_err}
use Rattle.dms_recovery.specs.Mending.{MendsAll}
use Rattle.dms_recovery.specs.Planned.{AreFit}
use Rattle.dms_recovery.specs.Ready.{AreReady}
use Rattle.dms_recovery.specs.Rolling.{RollsAll}
use Rattle.dms_recovery.proofs.carrying.carry.Goals as goal

pub returns-in-None-clause-runs_to : goal.returns-in-None-clause-runs_to
returns-in-None-clause-runs_to g c = one_if_ok c.carry_out.result c.carry_out.ensures.runs_to (λ o runs right tells none may. runs right tells may)

pub returns-in-None-clause-leaves : goal.returns-in-None-clause-leaves
returns-in-None-clause-leaves g c = one_if_ok c.carry_out.result c.carry_out.ensures.leaves (λ o leaves right tells none may. leaves right tells may)

pub returns-in-None-clause-leaves_then : goal.returns-in-None-clause-leaves_then
returns-in-None-clause-leaves_then g c = one_if_err c.carry_out.result c.carry_out.ensures.leaves_then (λ e leaves right tells none may. leaves right tells may)

pub returns-in-None-clause-only : goal.returns-in-None-clause-only
returns-in-None-clause-only g c = one_if_err c.carry_out.result c.carry_out.ensures.only (λ e only tells ready.
    let r = subst (λ (b : Option OpeningPlan). AreReady (view_of g.S.Site c.args.planned.log) b c.args.planned.own) c.in-None.is ready in
    only r.restore tells r.writes)

pub returns-in-None-clause-full : goal.returns-in-None-clause-full
returns-in-None-clause-full g c = one_if_err c.carry_out.result c.carry_out.ensures.full (λ e full tells ready.
    let r = subst (λ (b : Option OpeningPlan). AreReady (view_of g.S.Site c.args.planned.log) b c.args.planned.own) c.in-None.is ready in
    full r.restore tells r.writes)

pub returns-in-None-clause-grown : goal.returns-in-None-clause-grown
returns-in-None-clause-grown g c = one_if_ok c.carry_out.result c.carry_out.ensures.grown (λ o grown tells ready.
    let v = view_of g.S.Site c.args.planned.log in
    let r = subst (λ (b : Option OpeningPlan). AreReady v b c.args.planned.own) c.in-None.is ready in
    log_grows_more 19 38 v (view_of g.S.Site o.log) (omega arith) (grown r.restore tells r.writes))

pub returns-in-None-clause-grown_then : goal.returns-in-None-clause-grown_then
returns-in-None-clause-grown_then g c = one_if_err c.carry_out.result c.carry_out.ensures.grown_then (λ e grown tells ready.
    let v = view_of g.S.Site c.args.planned.log in
    let r = subst (λ (b : Option OpeningPlan). AreReady v b c.args.planned.own) c.in-None.is ready in
    log_grows_more 19 38 v (view v.end v.first (g.S.Site.files e.1) (g.S.Site.clock e.1)) (omega arith) (grown r.restore tells r.writes))

pub returns-in-None-clause-point : goal.returns-in-None-clause-point
returns-in-None-clause-point g c = one_if_ok c.carry_out.result c.carry_out.ensures.plan (λ o plan. plan.0)

pub returns-in-Some-clause-runs_to : goal.returns-in-Some-clause-runs_to
returns-in-Some-clause-runs_to g c = one_if_ok c.carry_both.result c.carry_both.ensures.point (λ o is right tells none. absurd (none-some _ (sym none ∙ c.in-Some.is)))

pub returns-in-Some-clause-leaves : goal.returns-in-Some-clause-leaves
returns-in-Some-clause-leaves g c = one_if_ok c.carry_both.result c.carry_both.ensures.point (λ o is right tells none. absurd (none-some _ (sym none ∙ c.in-Some.is)))

pub returns-in-Some-clause-leaves_then : goal.returns-in-Some-clause-leaves_then
returns-in-Some-clause-leaves_then g c = one_if_err c.carry_both.result c.carry_both.ensures.said_then (λ e is right tells none. absurd (none-some _ (sym none ∙ c.in-Some.is)))

pub returns-in-Some-clause-only : goal.returns-in-Some-clause-only
returns-in-Some-clause-only g c = one_if_err c.carry_both.result c.carry_both.ensures.only (λ e only tells ready.
    only tells (subst (λ (b : Option OpeningPlan). AreReady (view_of g.S.Site c.args.planned.log) b c.args.planned.own) c.in-Some.is ready))

pub returns-in-Some-clause-full : goal.returns-in-Some-clause-full
returns-in-Some-clause-full g c = one_if_err c.carry_both.result c.carry_both.ensures.full (λ e full tells ready.
    full tells (subst (λ (b : Option OpeningPlan). AreReady (view_of g.S.Site c.args.planned.log) b c.args.planned.own) c.in-Some.is ready))

pub returns-in-Some-clause-grown : goal.returns-in-Some-clause-grown
returns-in-Some-clause-grown g c = one_if_ok c.carry_both.result c.carry_both.ensures.grown (λ o grown tells ready.
    grown tells (subst (λ (b : Option OpeningPlan). AreReady (view_of g.S.Site c.args.planned.log) b c.args.planned.own) c.in-Some.is ready))

pub returns-in-Some-clause-grown_then : goal.returns-in-Some-clause-grown_then
returns-in-Some-clause-grown_then g c = one_if_err c.carry_both.result c.carry_both.ensures.grown_then (λ e grown tells ready.
    grown tells (subst (λ (b : Option OpeningPlan). AreReady (view_of g.S.Site c.args.planned.log) b c.args.planned.own) c.in-Some.is ready))

pub carry_out-requires-clause-ready : goal.carry_out-requires-clause-ready
carry_out-requires-clause-ready g c = subst (λ (b : Option OpeningPlan). AreFit b c.args.planned.own) c.in-None.is c.requires.fit

pub carry_both-requires-clause-first_fits : goal.carry_both-requires-clause-first_fits
carry_both-requires-clause-first_fits g c = (subst (λ (b : Option OpeningPlan). AreFit b c.args.planned.own) c.in-Some.is c.requires.fit).0

pub carry_both-requires-clause-own_fits : goal.carry_both-requires-clause-own_fits
carry_both-requires-clause-own_fits g c = (subst (λ (b : Option OpeningPlan). AreFit b c.args.planned.own) c.in-Some.is c.requires.fit).1

pub returns-in-None-clause-rolled : goal.returns-in-None-clause-rolled
returns-in-None-clause-rolled g c = one_if_ok c.carry_out.result c.carry_out.ensures.plan (λ o is asked tells kind r. absurd (subst (λ (b : Option OpeningPlan). RollsAll (view_of g.S.Site c.args.planned.log) asked b c.args.planned.own) c.in-None.is r))

pub returns-in-Some-clause-rolled : goal.returns-in-Some-clause-rolled
returns-in-Some-clause-rolled g c = one_if_ok c.carry_both.result c.carry_both.ensures.rolled (λ o done asked tells kind r.
    done asked tells kind (subst (λ (b : Option OpeningPlan). RollsAll (view_of g.S.Site c.args.planned.log) asked b c.args.planned.own) c.in-Some.is r))

pub returns-in-None-clause-rolls : goal.returns-in-None-clause-rolls
returns-in-None-clause-rolls g c = one_if_ok c.carry_out.result c.carry_out.ensures.plan (λ o is asked tells kind r. absurd (subst (λ (b : Option OpeningPlan). RollsAll (view_of g.S.Site c.args.planned.log) asked b c.args.planned.own) c.in-None.is r))

pub returns-in-Some-clause-rolls : goal.returns-in-Some-clause-rolls
returns-in-Some-clause-rolls g c = one_if_ok c.carry_both.result c.carry_both.ensures.rolls (λ o done asked tells kind r.
    done asked tells kind (subst (λ (b : Option OpeningPlan). RollsAll (view_of g.S.Site c.args.planned.log) asked b c.args.planned.own) c.in-Some.is r))

pub returns-in-None-clause-rolls_then : goal.returns-in-None-clause-rolls_then
returns-in-None-clause-rolls_then g c = one_if_err c.carry_out.result c.carry_out.ensures.said_then (λ e is asked tells kind r. absurd (subst (λ (b : Option OpeningPlan). RollsAll (view_of g.S.Site c.args.planned.log) asked b c.args.planned.own) c.in-None.is r))

pub returns-in-Some-clause-rolls_then : goal.returns-in-Some-clause-rolls_then
returns-in-Some-clause-rolls_then g c = one_if_err c.carry_both.result c.carry_both.ensures.rolls_then (λ e done asked tells kind r.
    done asked tells kind (subst (λ (b : Option OpeningPlan). RollsAll (view_of g.S.Site c.args.planned.log) asked b c.args.planned.own) c.in-Some.is r))

pub returns-in-None-clause-mended : goal.returns-in-None-clause-mended
returns-in-None-clause-mended g c = one_if_ok c.carry_out.result c.carry_out.ensures.plan (λ o is u d rows tells kind r. absurd (subst (λ (b : Option OpeningPlan). MendsAll (view_of g.S.Site c.args.planned.log) u d rows b c.args.planned.own) c.in-None.is r))

pub returns-in-Some-clause-mended : goal.returns-in-Some-clause-mended
returns-in-Some-clause-mended g c = one_if_ok c.carry_both.result c.carry_both.ensures.mended (λ o done u d rows tells kind r.
    done u d rows tells kind (subst (λ (b : Option OpeningPlan). MendsAll (view_of g.S.Site c.args.planned.log) u d rows b c.args.planned.own) c.in-Some.is r))

pub returns-in-None-clause-mends : goal.returns-in-None-clause-mends
returns-in-None-clause-mends g c = one_if_ok c.carry_out.result c.carry_out.ensures.plan (λ o is u d rows tells kind r. absurd (subst (λ (b : Option OpeningPlan). MendsAll (view_of g.S.Site c.args.planned.log) u d rows b c.args.planned.own) c.in-None.is r))

pub returns-in-Some-clause-mends : goal.returns-in-Some-clause-mends
returns-in-Some-clause-mends g c = one_if_ok c.carry_both.result c.carry_both.ensures.mends (λ o done u d rows tells kind r.
    done u d rows tells kind (subst (λ (b : Option OpeningPlan). MendsAll (view_of g.S.Site c.args.planned.log) u d rows b c.args.planned.own) c.in-Some.is r))

pub returns-in-None-clause-mends_then : goal.returns-in-None-clause-mends_then
returns-in-None-clause-mends_then g c = one_if_err c.carry_out.result c.carry_out.ensures.said_then (λ e is u d rows tells kind r. absurd (subst (λ (b : Option OpeningPlan). MendsAll (view_of g.S.Site c.args.planned.log) u d rows b c.args.planned.own) c.in-None.is r))

pub returns-in-Some-clause-mends_then : goal.returns-in-Some-clause-mends_then
returns-in-Some-clause-mends_then g c = one_if_err c.carry_both.result c.carry_both.ensures.mends_then (λ e done u d rows tells kind r.
    done u d rows tells kind (subst (λ (b : Option OpeningPlan). MendsAll (view_of g.S.Site c.args.planned.log) u d rows b c.args.planned.own) c.in-Some.is r))

pub returns-in-None-clause-marked : goal.returns-in-None-clause-marked
returns-in-None-clause-marked g c = one_if_ok c.carry_out.result c.carry_out.ensures.marked (λ o marked first p tells all.
    let v = view_of g.S.Site c.args.planned.log in
    marks_alone v first p c.args.planned.own (g.S.Site.files o.log.site) (subst (λ (b : Option OpeningPlan). WritesAll v first p b c.args.planned.own) c.in-None.is all) (λ writes counts. marked p tells writes counts))

pub returns-in-Some-clause-marked : goal.returns-in-Some-clause-marked
returns-in-Some-clause-marked g c = one_if_ok c.carry_both.result c.carry_both.ensures.marked (λ o marked first p tells all.
    let v = view_of g.S.Site c.args.planned.log in
    marks_both v first p _ c.args.planned.own (g.S.Site.files o.log.site) (subst (λ (b : Option OpeningPlan). WritesAll v first p b c.args.planned.own) c.in-Some.is all) (λ q one two. marked q p tells one two))
