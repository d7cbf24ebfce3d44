-- A restore over a guarded site.
use Rattle.std.proofs.Common.{ℕ, ◌≡◌, ◌≤◌, ◌∙◌, IsTrue, inl, inr, List, Option, Some, None, sym, subst, arith}
use Rattle.dms_audfile.specs.declared.fault.AudFault.TheVariants as aud
use Rattle.dms_dumping.specs.Filling.{FillsTrail}
use Rattle.dms_dumping.proofs.Fills.{same_limit}
use Rattle.dms_guard.specs.Guard.{SameGuarded, StaysBut}
use Rattle.dms_guard.specs.GuardLaws.{but_fewer, but_looked, but_on}
use Rattle.dms_history.specs.declared.event.Row.{Row}
use Rattle.dms_opening.specs.declared.choosing.OpenFault.{OpenFault}
use Rattle.dms_opening.specs.declared.choosing.OpenFault.TheVariants.{Audit}
use Rattle.dms_opening.specs.Openings.{HasFullTrail, IsFullFault, IsTrailFound, MayHaveWritten}
use Rattle.dms_opening.specs.Whole.{StaysRead}
use Rattle.dms_recovery.specs.Claims.{PlansWanted}
use Rattle.dms_recovery.specs.Looked.{GoesWithin}
use Rattle.dms_recovery.specs.Planned.{AreNamed, AreWithin}
use Rattle.dms_recovery.specs.declared.wanted.Wanted.{Wanted}
use Rattle.dms_site.specs.declared.site.Site.{Ghosts}
use Rattle.dms_site.specs.Files.{Files}
use Rattle.dms_status.specs.declared.status.LimitKind.TheVariants.{AuditFile}
use Rattle.dms_status.specs.declared.status.Status.{Status}
use Rattle.dms_status.specs.declared.status.Status.TheVariants.{Limit}
use Rattle.dms_goback.specs.Restores.{StaysFor}

full_same : (k : ℕ) → Audit aud.Disk ≡ Audit (aud.Full k) → ⊥
full_same k e = absurd cc

-- what may have written and is a full audit is one of the last file
pub last_full : (fault : OpenFault) (k : ℕ) → MayHaveWritten fault → fault ≡ Audit (aud.Full k) → IsFullFault fault
last_full fault k (inl disk) is = absurd (full_same k (sym disk ∙ is))
last_full fault k (inr full) is = full

module _ {S : Type 0} (g : Ghosts S) where
  pub looked_for : (wanted : Wanted) (a b : S) → StaysRead g a b → StaysFor g wanted a b
  looked_for wanted a b st s has = but_looked s a b st.files st.moments

  -- behind a look no more files changed than those that are let through
  pub stays_for : (wanted : Wanted) (n m : ℕ) (a b c : S) → n ≤ 200 → (IsTrue g.tells → (s : ℕ) → GoesWithin s wanted (g.files a) → n ≤ s) → StaysRead g a b → SameGuarded g n b m c → StaysFor g wanted a c
  stays_for wanted n m a b c few within st same s (inl most) = but_fewer n s a c (omega (arith, few, most)) (but_on n a b c (but_looked n a b st.files st.moments) same.beside)
  stays_for wanted n m a b c few within st same s (inr has) = but_fewer n s a c (within has.0 s has.1) (but_on n a b c (but_looked n a b st.files st.moments) same.beside)

  -- where the audit has no room
  pub full_written : (old new : S) (fault : OpenFault) (status : Status) → ((k : ℕ) → status ≡ Limit (AuditFile k) → fault ≡ Audit (aud.Full k)) → (IsTrue g.tells → MayHaveWritten fault) → (IsTrue g.tells → IsFullFault fault → HasFullTrail (g.files old) (g.files new))
      → FillsTrail g old new status
  full_written old new fault status named only full k at tells =
      let is = named k at in
      let last : fault ≡ Audit (aud.Full 9999) = last_full fault k (only tells) is in
      (same_limit k 9999 (sym is ∙ last), full tells last)
