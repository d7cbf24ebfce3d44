use Rattle.std.proofs.Common.{ℕ, ◌∙◌, inl, length, sym, subst, arith}
use Rattle.dms_audfile.specs.Counting.{not_counted}
use Rattle.dms_status.specs.declared.status.Status.TheVariants.{DiskFault}
use Rattle.dms_guard.specs.Bare.{bare}
use Rattle.dms_guard.specs.Guard.{StaysBut}
use Rattle.dms_guard.specs.GuardLaws.{but_on}
use Rattle.dms_guard.proofs.Besides.{beside_within}
use Rattle.dms_runtop.specs.Statuses.{IsOfRun}
use Rattle.dms_guard.specs.Statuses.{IsRefusal}
use Rattle.dms_runtop.proofs.Counted.{on_from, on_status}
use Rattle.dms_runtop.proofs.Does.{opens_of}
use Rattle.dms_runtop.proofs.Entered.{keeps_found, keeps_refused, opened_known, runs_found}
use Rattle.dms_runtop.proofs.Fulls.{full_entered}
use Rattle.dms_runtop.proofs.Opening.{opened_files, unopened}
use Rattle.dms_runtop.proofs.Refused.{of_run, script_no_refusal}
use Rattle.dms_runtop.proofs.Turned.{turned_counts, turned_full, turned_opens, turned_ran, turned_status, turned_takes, turned_unsaid}
use Rattle.dms_runtop.proofs.command.run_found.Goals as goal

pub returns-in-Ok-clause-statuses : goal.returns-in-Ok-clause-statuses
returns-in-Ok-clause-statuses g c = of_run c.run_confirmed.result.status c.run_confirmed.ensures.statuses

pub returns-in-Ok-clause-disk : goal.returns-in-Ok-clause-disk
returns-in-Ok-clause-disk g c = on_from _ _ _ _ c.in-Ok.ensures.clean.0 c.run_confirmed.ensures.disk

pub returns-in-Ok-clause-say : goal.returns-in-Ok-clause-say
returns-in-Ok-clause-say g c = on_from _ _ _ _ c.in-Ok.ensures.clean.1 c.run_confirmed.ensures.say

pub returns-in-Ok-clause-same : goal.returns-in-Ok-clause-same
returns-in-Ok-clause-same g c = g.met.S.Site.same_then c.args.site c.in-Ok.opened.log.site.site c.run_confirmed.result.site.site c.in-Ok.ensures.same c.run_confirmed.ensures.same.same

pub returns-in-Ok-clause-counted : goal.returns-in-Ok-clause-counted
returns-in-Ok-clause-counted g c = omega (arith, c.in-Ok.ensures.counted, c.run_confirmed.ensures.same.counted)

pub returns-in-Ok-clause-beside : goal.returns-in-Ok-clause-beside
returns-in-Ok-clause-beside g c =
    let o = c.in-Ok.opened in
    let k = length o.counts.items in
    beside_within g.S.Site k c.args.site c.run_confirmed.result.site.site c.in-Ok.ensures.fit.1.few (λ tells s within. within o.log.end.total o.log.first o.point o.next o.schema.items o.counts.items (c.in-Ok.ensures.opens tells))
    (but_on k c.args.site o.log.site.site c.run_confirmed.result.site.site c.in-Ok.ensures.within.1 (subst (λ (j : ℕ). StaysBut g.S.Site j o.log.site.site c.run_confirmed.result.site.site) c.in-Ok.ensures.within.0 c.run_confirmed.ensures.same.beside))

pub run_confirmed-requires-clause-known : goal.run_confirmed-requires-clause-known
run_confirmed-requires-clause-known g c = λ tells knows.
    opened_known g.S.Site c.args.site g.state c.states_law.ensures (bare c.in-Ok.opened) (c.in-Ok.ensures.opens tells) (c.in-Ok.ensures.runs tells) knows (c.requires.1.1 tells)

pub returns-in-Ok-clause-ran : goal.returns-in-Ok-clause-ran
returns-in-Ok-clause-ran g c =
    runs_found g.S.Site c.args.site g.state c.states_law.ensures c.held_law.ensures.next c.requires.1.1 (bare c.in-Ok.opened) c.in-Ok.ensures.opens c.in-Ok.ensures.runs c.in-Ok.ensures.moments
    c.in-Ok.ensures.grows c.in-Ok.ensures.said _ _ c.run_confirmed.result.status c.run_confirmed.result.site.site c.run_confirmed.ensures.ran

pub returns-in-Ok-clause-trail : goal.returns-in-Ok-clause-trail
returns-in-Ok-clause-trail g c =
    keeps_found g.S.Site c.args.site g.state (bare c.in-Ok.opened) c.run_confirmed.result.site.site c.in-Ok.ensures.opens c.in-Ok.ensures.grows c.run_confirmed.ensures.grown

pub returns-in-Ok-clause-full : goal.returns-in-Ok-clause-full
returns-in-Ok-clause-full g c =
    full_entered g.S.Site c.args.site c.run_confirmed.result.site.site c.run_confirmed.result.status c.in-Ok.opened.log.end.total c.in-Ok.opened.log.first (λ tells. (c.in-Ok.ensures.opens tells).trail) c.run_confirmed.ensures.passes

pub returns-in-Ok-clause-opens : goal.returns-in-Ok-clause-opens
returns-in-Ok-clause-opens g c =
    let status = c.run_confirmed.result.status in
    let never : IsRefusal status → ⊥ = script_no_refusal status c.run_confirmed.ensures.statuses in
    opens_of g.S.Site g.I.Source c.args.site c.run_confirmed.result.site.site c.args.source.now c.run_confirmed.new.source status c.states_law.ensures
    (λ tells. inl (opened_files (bare c.in-Ok.opened) (c.in-Ok.ensures.opens tells) c.in-Ok.ensures.fit.0, c.in-Ok.ensures.whole tells)) (λ refusal. absurd (never refusal)) (λ refusal. absurd (never refusal)) (λ f b is high tells. inl (c.in-Ok.ensures.whole tells)) (λ tells total first openable refusal. never refusal)

pub returns-in-Err-clause-statuses : goal.returns-in-Err-clause-statuses
returns-in-Err-clause-statuses g c = subst IsOfRun (sym c.status_of_refusal.ensures) (turned_status c.in-Err.refusal)

pub returns-in-Err-clause-disk : goal.returns-in-Err-clause-disk
returns-in-Err-clause-disk g c = on_status _ _ DiskFault _ _ c.status_of_refusal.ensures (turned_counts c.in-Err.refusal _ _ c.in-Err.ensures.disk)

pub returns-in-Err-clause-say : goal.returns-in-Err-clause-say
returns-in-Err-clause-say g c = not_counted _ _ _ (λ is. turned_unsaid c.in-Err.refusal (sym c.status_of_refusal.ensures ∙ is)) c.in-Err.ensures.say_faults

pub returns-in-Err-clause-takes : goal.returns-in-Err-clause-takes
returns-in-Err-clause-takes g c = turned_takes g.I.Source g.met.I.Source.same_again c.args.source.now c.in-Err.refusal c.status_of_refusal.result c.status_of_refusal.ensures

pub returns-in-Err-clause-trail : goal.returns-in-Err-clause-trail
returns-in-Err-clause-trail g c = keeps_refused g.S.Site c.args.site g.state c.in-Err.site.site c.in-Err.ensures.grows_then

pub returns-in-Err-clause-ran : goal.returns-in-Err-clause-ran
returns-in-Err-clause-ran g c =
    turned_ran g.S.Site c.args.site c.in-Err.site.site g.state c.states_law.ensures c.held_law.ensures.next c.requires.1.1 c.in-Err.refusal c.in-Err.ensures.complete
    c.in-Err.ensures.grows_then c.in-Err.ensures.stopped c.in-Err.ensures.said_then _ _ c.status_of_refusal.result c.status_of_refusal.ensures

pub returns-in-Err-clause-full : goal.returns-in-Err-clause-full
returns-in-Err-clause-full g c = turned_full g.S.Site c.args.site c.in-Err.site.site c.in-Err.refusal c.status_of_refusal.result c.status_of_refusal.ensures c.in-Err.ensures.refused c.in-Err.ensures.full

pub returns-in-Err-clause-opens : goal.returns-in-Err-clause-opens
returns-in-Err-clause-opens g c =
    let status = c.status_of_refusal.result in
    let old = c.args.site in
    let new = c.in-Err.site.site in
    turned_opens g.S.Site old new g.I.Source c.args.source.now c.states_law.ensures c.in-Err.refusal status c.status_of_refusal.ensures
    (λ tells. unopened g.S.Site old new c.in-Err.refusal status c.status_of_refusal.ensures (c.in-Err.ensures.refused tells) (c.in-Err.ensures.begun tells))
    c.in-Err.ensures.refused c.in-Err.ensures.files_then c.in-Err.ensures.moments_then c.in-Err.ensures.complete
