-- What an opening's refusal leaves.
use Rattle.std.proofs.Common.{ℕ, ◌+◌, ◌<◌, ◌≤◌, ◌≡◌, ◌⊎◌, inl, inr, Bool, true, false, cond, refl, sym, ap, subst, arith}
use Rattle.std.specs.Prelude.{◌&&◌, nat_lt, nat_le}
use Rattle.std.proofs.lemmas.Bool.Decides.{nat_tests}
use Rattle.dms_audfile.specs.Counting.{CountedAt}
use Rattle.dms_audfile.specs.declared.fault.AudFault.TheVariants as aud
use Rattle.dms_opening.specs.declared.choosing.OpenFault.{OpenFault}
use Rattle.dms_opening.specs.declared.choosing.OpenFault.TheVariants.{Audit, NoSuchPoint, Voided, DumpMissing, DumpUnsealed, DumpDamaged, DumpForeign, DumpLater}
use Rattle.dms_opening.specs.Openings.{MayHaveWritten, IsNoRefusal}
use Rattle.dms_status.specs.declared.status.Status.{Status}
use Rattle.dms_status.specs.declared.status.Status.TheVariants.{Ok, BadWords, SchemaRefused, NoDatabase, Needed, InputFault, Memory, Limit, Damaged, SayFault, DiskFault, Exists, BadStatement, Reorganization, BadStream, Diverged, Flaw}
use Rattle.dms_opening.specs.declared.whole.OpenRefusal.TheVariants.{Fault, Short}
use Rattle.dms_guard.specs.Faults.{audit_damaged_status, damaged_status, is_structure_file, open_status}
use Rattle.dms_guard.specs.Statuses.{IsRefusal}

-- by cases of the test
pub damage_is : (b : Bool) (f k : ℕ) (P : Status → Type 0) → P (Damaged f k) → P Memory → P (cond b (Damaged f k) Memory)
damage_is true f k P one two = one
damage_is false f k P one two = two

-- a refusal is none of what may have written
pub not_written : (fault : OpenFault) → IsRefusal (open_status fault) → MayHaveWritten fault → ⊥
not_written fault is (inl disk) = subst (λ (f : OpenFault). IsRefusal (open_status f)) disk is
not_written fault is (inr full) = subst (λ (f : OpenFault). IsRefusal (open_status f)) full is

-- what says nothing of the files is no refusal
pub no_refusal : (fault : OpenFault) → IsNoRefusal fault → IsRefusal (open_status fault) → ⊥
no_refusal fault (inl (inl disk)) is = subst (λ (f : OpenFault). IsRefusal (open_status f)) disk is
no_refusal fault (inl (inr memory)) is = subst (λ (f : OpenFault). IsRefusal (open_status f)) memory is
no_refusal fault (inr full) is = subst (λ (f : OpenFault). IsRefusal (open_status f)) full is

pub open_disk : (fault : OpenFault) → open_status fault ≡ DiskFault → fault ≡ Audit aud.Disk
open_disk (Audit aud.NoDatabase) e = absurd cc
open_disk (Audit aud.Disk) e = refl
open_disk (Audit (aud.Full k)) e = absurd cc
open_disk (Audit (aud.Missing k)) e = absurd cc
open_disk (Audit (aud.Unsealed k)) e = absurd cc
open_disk (Audit (aud.Foreign k)) e = absurd cc
open_disk (Audit (aud.Damaged f b)) e = absurd (damage_is (nat_le f 30000) f b (λ x. x ≡ DiskFault → ⊥) (λ e. absurd cc) (λ e. absurd cc) e)
open_disk (Audit aud.Memory) e = absurd cc
open_disk (NoSuchPoint n) e = absurd cc
open_disk (Voided n) e = absurd cc
open_disk (DumpMissing d) e = absurd cc
open_disk (DumpUnsealed d) e = absurd cc
open_disk (DumpDamaged d) e = absurd (damage_is (nat_le (20000 + d) 30000) (20000 + d) 0 (λ x. x ≡ DiskFault → ⊥) (λ e. absurd cc) (λ e. absurd cc) e)
open_disk (DumpForeign d) e = absurd cc
open_disk (DumpLater d n) e = absurd cc

pub counts_open : (fault : OpenFault) (a b : ℕ) → CountedAt (fault ≡ Audit aud.Disk) a b → CountedAt (open_status fault ≡ DiskFault) a b
counts_open fault a b c = record { later = c.later; failed = λ is. c.failed (open_disk fault is); once = c.once; clean = λ none. c.clean (λ is. none (ap open_status is)) }

pub open_say : (fault : OpenFault) → open_status fault ≡ SayFault → ⊥
open_say (Audit aud.NoDatabase) e = absurd cc
open_say (Audit aud.Disk) e = absurd cc
open_say (Audit (aud.Full k)) e = absurd cc
open_say (Audit (aud.Missing k)) e = absurd cc
open_say (Audit (aud.Unsealed k)) e = absurd cc
open_say (Audit (aud.Foreign k)) e = absurd cc
open_say (Audit (aud.Damaged f b)) e = absurd (damage_is (nat_le f 30000) f b (λ x. x ≡ SayFault → ⊥) (λ e. absurd cc) (λ e. absurd cc) e)
open_say (Audit aud.Memory) e = absurd cc
open_say (NoSuchPoint n) e = absurd cc
open_say (Voided n) e = absurd cc
open_say (DumpMissing d) e = absurd cc
open_say (DumpUnsealed d) e = absurd cc
open_say (DumpDamaged d) e = absurd (damage_is (nat_le (20000 + d) 30000) (20000 + d) 0 (λ x. x ≡ SayFault → ⊥) (λ e. absurd cc) (λ e. absurd cc) e)
open_say (DumpForeign d) e = absurd cc
open_say (DumpLater d n) e = absurd cc

pub open_input : (fault : OpenFault) → open_status fault ≡ InputFault → ⊥
open_input (Audit aud.NoDatabase) e = absurd cc
open_input (Audit aud.Disk) e = absurd cc
open_input (Audit (aud.Full k)) e = absurd cc
open_input (Audit (aud.Missing k)) e = absurd cc
open_input (Audit (aud.Unsealed k)) e = absurd cc
open_input (Audit (aud.Foreign k)) e = absurd cc
open_input (Audit (aud.Damaged f b)) e = absurd (damage_is (nat_le f 30000) f b (λ x. x ≡ InputFault → ⊥) (λ e. absurd cc) (λ e. absurd cc) e)
open_input (Audit aud.Memory) e = absurd cc
open_input (NoSuchPoint n) e = absurd cc
open_input (Voided n) e = absurd cc
open_input (DumpMissing d) e = absurd cc
open_input (DumpUnsealed d) e = absurd cc
open_input (DumpDamaged d) e = absurd (damage_is (nat_le (20000 + d) 30000) (20000 + d) 0 (λ x. x ≡ InputFault → ⊥) (λ e. absurd cc) (λ e. absurd cc) e)
open_input (DumpForeign d) e = absurd cc
open_input (DumpLater d n) e = absurd cc

pub open_ok : (fault : OpenFault) → open_status fault ≡ Ok → ⊥
open_ok (Audit aud.NoDatabase) e = absurd cc
open_ok (Audit aud.Disk) e = absurd cc
open_ok (Audit (aud.Full k)) e = absurd cc
open_ok (Audit (aud.Missing k)) e = absurd cc
open_ok (Audit (aud.Unsealed k)) e = absurd cc
open_ok (Audit (aud.Foreign k)) e = absurd cc
open_ok (Audit (aud.Damaged f b)) e = absurd (damage_is (nat_le f 30000) f b (λ x. x ≡ Ok → ⊥) (λ e. absurd cc) (λ e. absurd cc) e)
open_ok (Audit aud.Memory) e = absurd cc
open_ok (NoSuchPoint n) e = absurd cc
open_ok (Voided n) e = absurd cc
open_ok (DumpMissing d) e = absurd cc
open_ok (DumpUnsealed d) e = absurd cc
open_ok (DumpDamaged d) e = absurd (damage_is (nat_le (20000 + d) 30000) (20000 + d) 0 (λ x. x ≡ Ok → ⊥) (λ e. absurd cc) (λ e. absurd cc) e)
open_ok (DumpForeign d) e = absurd cc
open_ok (DumpLater d n) e = absurd cc

-- ---- a block of a structure file that isn't there

-- its status is none but 9 of it, and 7
pub short_not : (f b : ℕ) (s : Status) → (Damaged f b ≡ s → ⊥) → (Memory ≡ s → ⊥) → damaged_status f b ≡ s → ⊥
short_not f b s one two is = damage_is (is_structure_file f) f b (λ x. x ≡ s → ⊥) one two is

pub short_no_refusal : (f b : ℕ) → IsRefusal (damaged_status f b) → ⊥
short_no_refusal f b refusal = by (is_structure_file f) refl refusal
  where
    by : (t : Bool) → is_structure_file f ≡ t → IsRefusal (cond t (Damaged f b) Memory) → ⊥
    by true is r = above (nat_lt 30000 f) (nat_le f 30200) refl is r
      where
        above : (one two : Bool) → nat_lt 30000 f ≡ one → (one && two) ≡ true → f ≤ 30000 → ⊥
        above true two e h low = absurd (grind (arith, nat_tests))
        above false two e h low = absurd cc
    by false is r = r

-- no call failed then
pub short_clean : (f b x y : ℕ) → CountedAt (Short f b ≡ Fault (Audit aud.Disk)) x y → y ≡ x
short_clean f b x y counted = counted.clean (λ is. absurd cc)

-- and 9 of a structure file comes of no fault
IsLow : Status → Type 0
IsLow Ok = Unit {0}
IsLow BadWords = Unit {0}
IsLow (SchemaRefused f) = Unit {0}
IsLow NoDatabase = Unit {0}
IsLow (Needed n) = Unit {0}
IsLow InputFault = Unit {0}
IsLow Memory = Unit {0}
IsLow (Limit k) = Unit {0}
IsLow (Damaged f b) = f ≤ 30000
IsLow SayFault = Unit {0}
IsLow DiskFault = Unit {0}
IsLow Exists = Unit {0}
IsLow (BadStatement p) = Unit {0}
IsLow (Reorganization why) = Unit {0}
IsLow (BadStream place) = Unit {0}
IsLow (Diverged file block) = Unit {0}
IsLow (Flaw flaw) = Unit {0}

low_damage : (f b : ℕ) → IsLow (audit_damaged_status f b)
unfolding IsLow
low_damage f b = by (nat_le f 30000) refl
  where
    by : (t : Bool) → nat_le f 30000 ≡ t → IsLow (cond t (Damaged f b) Memory)
    by true is = grind (arith, nat_tests)
    by false is = tt

low_open : (fault : OpenFault) → IsLow (open_status fault)
unfolding IsLow
low_open (Audit aud.NoDatabase) = tt
low_open (Audit aud.Disk) = tt
low_open (Audit (aud.Full k)) = tt
low_open (Audit (aud.Missing k)) = tt
low_open (Audit (aud.Unsealed k)) = tt
low_open (Audit (aud.Foreign k)) = tt
low_open (Audit (aud.Damaged f b)) = low_damage f b
low_open (Audit aud.Memory) = tt
low_open (NoSuchPoint n) = tt
low_open (Voided n) = tt
low_open (DumpMissing d) = tt
low_open (DumpUnsealed d) = tt
low_open (DumpDamaged d) = low_damage (20000 + d) 0
low_open (DumpForeign d) = tt
low_open (DumpLater d n) = tt

pub fault_low : (fault : OpenFault) (f b : ℕ) → open_status fault ≡ Damaged f b → 30000 < f → ⊥
unfolding IsLow
fault_low fault f b is high = let low : f ≤ 30000 = subst IsLow is (low_open fault) in omega (arith, low, high)
