use Rattle.std.proofs.Common.{◌≡◌, ◌≤◌, ◌<◌, ◌+◌, ℕ, sym, ◌∙◌, subst, arith}
use Rattle.dms_audfile.specs.Counting.{CountedAt, not_counted}
use Rattle.dms_dumping.proofs.Fills.{open_full}
use Rattle.dms_guard.specs.Faults.{open_status}
use Rattle.dms_guard.specs.Statuses.{IsRefusal}
use Rattle.dms_guard.proofs.Guarding.{refused_counts}
use Rattle.dms_guard.proofs.Refused.{counts_open, not_written}
use Rattle.dms_status.specs.declared.status.Status.TheVariants.{DiskFault}
use Rattle.dms_goback.proofs.RestoreStatuses.{counted_status, of_restoring}
use Rattle.dms_goback.proofs.looking.unguarded.Goals as goal

pub returns-then-refused-gt0-clause-none : goal.returns-then-refused-gt0-clause-none
returns-then-refused-gt0-clause-none g c = λ may refusal. refusal

pub returns-then-refused-gt0-clause-full : goal.returns-then-refused-gt0-clause-full
returns-then-refused-gt0-clause-full g c = λ k is. absurd cc

pub returns-then-refused-gt0-clause-disk : goal.returns-then-refused-gt0-clause-disk
returns-then-refused-gt0-clause-disk g c = λ before later counted.
    let r = c.args.guarded in
    let one = refused_counts (open_status c.args.fault) before (g.S.Site.disk_faults r.site) r.refused later c.if-refused-gt0.true (counts_open c.args.fault before (g.S.Site.disk_faults r.site + r.refused) counted) in
    not_counted _ before (g.S.Site.disk_faults r.site) (λ is. absurd cc) one.1

pub returns-clause-statuses : goal.returns-clause-statuses
returns-clause-statuses g c = of_restoring c.status_of_open.result c.args.fault c.status_of_open.ensures

pub returns-clause-none : goal.returns-clause-none
returns-clause-none g c = λ may refusal. not_written c.args.fault (subst IsRefusal c.status_of_open.ensures refusal) may

pub returns-clause-full : goal.returns-clause-full
returns-clause-full g c = λ k is. open_full c.args.fault k (sym c.status_of_open.ensures ∙ is)

pub returns-clause-disk : goal.returns-clause-disk
returns-clause-disk g c = λ before later counted.
    let r = c.args.guarded in
    let none : g.S.Site.disk_faults r.site + r.refused ≡ g.S.Site.disk_faults r.site = omega (arith, c.if-refused-gt0.false) in
    counted_status _ _ _ _ c.status_of_open.ensures (subst (λ n. CountedAt (open_status c.args.fault ≡ DiskFault) before n) none (counts_open c.args.fault before (g.S.Site.disk_faults r.site + r.refused) counted))
