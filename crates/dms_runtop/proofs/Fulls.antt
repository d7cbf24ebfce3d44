-- Why the audit of a run has no room.
use Rattle.std.proofs.Common.{ℕ, ◌≡◌, ◌+◌, ◌<◌, ◌≤◌, ◌⊎◌, ◌∙◌, inl, inr, true, IsTrue, sym, ap, subst, arith}
use Rattle.std.specs.Prelude.{nat_le}
use Rattle.std.proofs.lemmas.Bool.{cases_lt}
use Rattle.dms_audfile.specs.Gates.{is_full}
use Rattle.dms_audfile.specs.declared.fault.AudFault.TheVariants as aud
use Rattle.dms_opening.specs.declared.choosing.OpenFault.{OpenFault}
use Rattle.dms_opening.specs.declared.choosing.OpenFault.TheVariants.{Audit, NoSuchPoint, Voided, DumpMissing, DumpUnsealed, DumpDamaged, DumpForeign, DumpLater}
use Rattle.dms_opening.specs.Openings.{IsFullFault, HasFullTrail, IsTrailFound, RefusesFiles}
use Rattle.dms_opening.proofs.Rooms.{plan_has_room, scan_has_room}
use Rattle.dms_site.specs.declared.site.Site.{Ghosts}
use Rattle.dms_site.specs.Files.{Files}
use Rattle.dms_status.specs.declared.status.LimitKind.TheVariants.{AuditFile}
use Rattle.dms_status.specs.declared.status.Status.{Status}
use Rattle.dms_status.specs.declared.status.Status.TheVariants.{Limit}
use Rattle.dms_guard.specs.Faults.{open_status}
use Rattle.dms_runtop.specs.Full.{HasNoRoom, IsFullAt, PassesAtFull, TrailPasses}
use Rattle.dms_guard.proofs.Refused.{damage_is}

-- ---- it was opened

pub full_entered : {S : Type 0} (g : Ghosts S) (old new : S) (status : Status) (total first : ℕ) → (IsTrue g.tells → IsTrailFound total first (g.files old)) → PassesAtFull g total first status new → HasNoRoom g old new status
full_entered g old new status total first trail passes k is tells = record { total = total; first = first; trail = trail tells; passes = passes k is tells }

-- ---- it wasn't

-- the fault behind that status
open_full : (fault : OpenFault) (k : ℕ) → open_status fault ≡ Limit (AuditFile k) → fault ≡ Audit (aud.Full k)
open_full (Audit aud.NoDatabase) k e = absurd cc
open_full (Audit aud.Disk) k e = absurd cc
open_full (Audit (aud.Full n)) k e = ap (λ m. Audit (aud.Full m)) (same_file e)
  where
    same_file : Limit (AuditFile n) ≡ Limit (AuditFile k) → n ≡ k
    same_file is = cc
open_full (Audit (aud.Missing n)) k e = absurd cc
open_full (Audit (aud.Unsealed n)) k e = absurd cc
open_full (Audit (aud.Foreign n)) k e = absurd cc
open_full (Audit (aud.Damaged f b)) k e = absurd (damage_is (nat_le f 30000) f b (λ x. x ≡ Limit (AuditFile k) → ⊥) (λ e. absurd cc) (λ e. absurd cc) e)
open_full (Audit aud.Memory) k e = absurd cc
open_full (NoSuchPoint n) k e = absurd cc
open_full (Voided n) k e = absurd cc
open_full (DumpMissing d) k e = absurd cc
open_full (DumpUnsealed d) k e = absurd cc
open_full (DumpDamaged d) k e = absurd (damage_is (nat_le (20000 + d) 30000) (20000 + d) 0 (λ x. x ≡ Limit (AuditFile k) → ⊥) (λ e. absurd cc) (λ e. absurd cc) e)
open_full (DumpForeign d) k e = absurd cc
open_full (DumpLater d n) k e = absurd cc

-- no refusal of files is a full audit, but that of file 9,999
is_last : (files : Files) (fault : OpenFault) (k : ℕ) → RefusesFiles files fault → fault ≡ Audit (aud.Full k) → IsFullFault fault
is_last files fault k (inl found) is = absurd (scan_has_room files found.0 k found.2 (sym found.1 ∙ is))
is_last files fault k (inr (inl trail)) is = absurd (plan_has_room trail.total trail.first k files fault trail.why is)
is_last files fault k (inr (inr last)) is = last

same_limit : (k n : ℕ) → Audit (aud.Full k) ≡ Audit (aud.Full n) → k ≡ n
same_limit k n is = cc

-- each file up to the last one is full
passes_last : (total first : ℕ) (now : Files) → ((g : ℕ) → first ≤ g → g ≤ 19999 → is_full total (now g) ≡ true) → TrailPasses total first 9999 now
passes_last total first now full = by (cases_lt (10000 + 9999) first)
  where
    by : (10000 + 9999 < first) ⊎ (first ≤ 10000 + 9999) → TrailPasses total first 9999 now
    by (inl behind) = inl behind
    by (inr before) = inr (full 19999 (omega (arith, before)) (omega arith))

full_at : (k : ℕ) (files now : Files) → k ≡ 9999 → HasFullTrail files now → IsFullAt k files now
full_at k files now is f = subst (λ n. IsFullAt n files now) (sym is) (record { total = f.total; first = f.first; trail = f.trail; passes = passes_last f.total f.first now f.full })

pub full_opening : {S : Type 0} (g : Ghosts S) (old new : S) (fault : OpenFault) (status : Status) → status ≡ open_status fault → (IsTrue g.tells → RefusesFiles (g.files old) fault)
    → (IsTrue g.tells → IsFullFault fault → HasFullTrail (g.files old) (g.files new)) → HasNoRoom g old new status
full_opening g old new fault status status_is refused full k is tells =
    let at : fault ≡ Audit (aud.Full k) = open_full fault k (sym status_is ∙ is) in
    let last : fault ≡ Audit (aud.Full 9999) = is_last (g.files old) fault k (refused tells) at in
    full_at k (g.files old) (g.files new) (same_limit k 9999 (sym at ∙ last)) (full tells last)
