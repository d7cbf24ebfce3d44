-- What an opening's refusal leaves.
use Rattle.std.proofs.Common.{ℕ, ◌+◌, ◌<◌, ◌≤◌, ◌≡◌, ◌⊎◌, inl, inr, Bool, true, false, cond, refl, sym, ap, subst, arith}
use Rattle.std.specs.Prelude.{◌&&◌, nat_lt, nat_le}
use Rattle.std.proofs.lemmas.Bool.Decides.{nat_tests}
use Rattle.dms_audfile.specs.Counting.{CountedAt}
use Rattle.dms_audfile.specs.declared.fault.AudFault.TheVariants as aud
use Rattle.dms_opening.specs.declared.choosing.OpenFault.{OpenFault}
use Rattle.dms_opening.specs.declared.choosing.OpenFault.TheVariants.{Audit, NoSuchPoint, Voided, DumpMissing, DumpUnsealed, DumpDamaged, DumpForeign, DumpLater}
use Rattle.dms_opening.specs.Openings.{MayHaveWritten, IsNoRefusal}
use Rattle.dms_status.specs.declared.status.Status.{Status}
use Rattle.dms_status.specs.declared.status.Status.TheVariants.{Ok, BadWords, SchemaRefused, NoDatabase, Needed, InputFault, Memory, Limit, Damaged, SayFault, DiskFault, Exists, BadStatement, Reorganization, BadStream, Diverged, Flaw}
use Rattle.dms_opening.specs.declared.whole.OpenRefusal.TheVariants.{Fault, Short}
use Rattle.dms_guard.specs.Faults.{audit_damaged_status, damaged_status, is_structure_file, open_status}
use Rattle.dms_guard.specs.Statuses.{IsRefusal}
use Rattle.dms_runtop.specs.Statuses.{IsOfScript, IsOfRun}
use Rattle.dms_guard.proofs.Refused.{damage_is}

-- ---- the statuses

script_refuses : (s : Status) → IsOfScript s → IsRefusal s → ⊥
script_refuses Ok of is = of
script_refuses BadWords of is = of
script_refuses (SchemaRefused f) of is = of
script_refuses NoDatabase of is = of
script_refuses (Needed n) of is = of
script_refuses InputFault of is = is
script_refuses Memory of is = is
script_refuses (Limit k) of is = is
script_refuses (Damaged f b) of is = absurd (omega (arith, of.0, is))
script_refuses SayFault of is = is
script_refuses DiskFault of is = is
script_refuses Exists of is = of
script_refuses (BadStatement p) of is = of
script_refuses (Reorganization why) of is = of
script_refuses (BadStream place) of is = of
script_refuses (Diverged file block) of is = of
script_refuses (Flaw flaw) of is = of

-- what a script ends with is no refusal
pub script_no_refusal : (s : Status) → (s ≡ Ok) ⊎ IsOfScript s → IsRefusal s → ⊥
script_no_refusal s (inl ok) is = subst IsRefusal ok is
script_no_refusal s (inr of) is = script_refuses s of is

script_of_run : (s : Status) → IsOfScript s → IsOfRun s
script_of_run Ok of = tt
script_of_run BadWords of = of
script_of_run (SchemaRefused f) of = of
script_of_run NoDatabase of = tt
script_of_run (Needed n) of = absurd of
script_of_run InputFault of = tt
script_of_run Memory of = tt
script_of_run (Limit k) of = tt
script_of_run (Damaged f b) of = of.1
script_of_run SayFault of = tt
script_of_run DiskFault of = tt
script_of_run Exists of = of
script_of_run (BadStatement p) of = of
script_of_run (Reorganization why) of = of
script_of_run (BadStream place) of = of
script_of_run (Diverged file block) of = of
script_of_run (Flaw flaw) of = of

ok_of_run : IsOfRun Ok
ok_of_run = tt

pub of_run : (s : Status) → (s ≡ Ok) ⊎ IsOfScript s → IsOfRun s
of_run s (inl ok) = subst IsOfRun (sym ok) ok_of_run
of_run s (inr of) = script_of_run s of

damaged_of_run : (f b : ℕ) → IsOfRun (open_status (Audit (aud.Damaged f b)))
damaged_of_run f b = by_test (nat_le f 30000) refl
  where
    by_test : (t : Bool) → nat_le f 30000 ≡ t → IsOfRun (cond t (Damaged f b) Memory)
    by_test true is = grind (arith, nat_tests)
    by_test false is = tt

pub open_of_run : (fault : OpenFault) → IsOfRun (open_status fault)
open_of_run (Audit aud.NoDatabase) = tt
open_of_run (Audit aud.Disk) = tt
open_of_run (Audit (aud.Full k)) = tt
open_of_run (Audit (aud.Missing k)) = tt
open_of_run (Audit (aud.Unsealed k)) = tt
open_of_run (Audit (aud.Foreign k)) = tt
open_of_run (Audit (aud.Damaged f b)) = damaged_of_run f b
open_of_run (Audit aud.Memory) = tt
open_of_run (NoSuchPoint n) = tt
open_of_run (Voided n) = tt
open_of_run (DumpMissing d) = tt
open_of_run (DumpUnsealed d) = tt
open_of_run (DumpDamaged d) = damaged_of_run (20000 + d) 0
open_of_run (DumpForeign d) = tt
open_of_run (DumpLater d n) = tt

-- ---- a block of a structure file that isn't there

pub short_of_run : (f b : ℕ) → IsOfRun (damaged_status f b)
short_of_run f b = by (is_structure_file f) refl
  where
    by : (t : Bool) → is_structure_file f ≡ t → IsOfRun (cond t (Damaged f b) Memory)
    by true is = within (nat_lt 30000 f) (nat_le f 30200) refl is
      where
        within : (one two : Bool) → nat_le f 30200 ≡ two → (one && two) ≡ true → f ≤ 30200
        within true true e h = grind (arith, nat_tests)
        within true false e h = absurd cc
        within false two e h = absurd cc
    by false is = tt
