-- The statuses of a restore.
use Rattle.std.specs.Prelude.{nat_le}
use Rattle.std.proofs.Common.{ℕ, ◌+◌, ◌≡◌, ◌∙◌, ◌⊎◌, inl, inr, Bool, true, false, cond, List, refl, sym, subst, arith}
use Rattle.std.proofs.lemmas.Bool.Decides.{nat_tests}
use Rattle.dms_audfile.specs.Counting.{CountedAt, not_counted}
use Rattle.dms_audfile.specs.declared.fault.AudFault.TheVariants as aud
use Rattle.dms_opening.specs.declared.choosing.OpenFault.{OpenFault}
use Rattle.dms_opening.specs.declared.choosing.OpenFault.TheVariants.{Audit, NoSuchPoint, Voided, DumpMissing, DumpUnsealed, DumpDamaged, DumpForeign, DumpLater}
use Rattle.dms_site.specs.declared.site.Site.{Ghosts}
use Rattle.dms_status.specs.declared.status.Status.{Status}
use Rattle.dms_status.specs.declared.status.Status.TheVariants.{Ok, BadWords, SchemaRefused, NoDatabase, Needed, InputFault, Memory, Limit, Damaged, SayFault, DiskFault, Exists, BadStatement, Reorganization, BadStream, Diverged, Flaw}
use Rattle.dms_guard.specs.Faults.{open_status}
use Rattle.dms_dumping.specs.Filling.{FillsTrail}
use Rattle.dms_guard.specs.Statuses.{IsRefusal}
use Rattle.dms_goback.specs.Restores.{IsOfRestore, IsOfRestored, IsOfRestoring}
use Rattle.dms_dumping.specs.Statuses.{IsOfReading}
use Rattle.dms_status.specs.Saying.{IsSpoken, SaysLine}

-- ---- of a fault

damaged_of : (f b : ℕ) → IsOfRestoring (open_status (Audit (aud.Damaged f b)))
damaged_of f b = by_test (nat_le f 30000) refl
  where
    by_test : (t : Bool) → nat_le f 30000 ≡ t → IsOfRestoring (cond t (Damaged f b) Memory)
    by_test true is = grind (arith, nat_tests)
    by_test false is = tt

of_fault : (fault : OpenFault) → IsOfRestoring (open_status fault)
of_fault (Audit aud.NoDatabase) = tt
of_fault (Audit aud.Disk) = tt
of_fault (Audit (aud.Full k)) = tt
of_fault (Audit (aud.Missing k)) = tt
of_fault (Audit (aud.Unsealed k)) = tt
of_fault (Audit (aud.Foreign k)) = tt
of_fault (Audit (aud.Damaged f b)) = damaged_of f b
of_fault (Audit aud.Memory) = tt
of_fault (NoSuchPoint n) = tt
of_fault (Voided n) = tt
of_fault (DumpMissing d) = tt
of_fault (DumpUnsealed d) = tt
of_fault (DumpDamaged d) = damaged_of (20000 + d) 0
of_fault (DumpForeign d) = tt
of_fault (DumpLater d n) = tt

pub of_restoring : (status : Status) (fault : OpenFault) → status ≡ open_status fault → IsOfRestoring status
of_restoring status fault is = subst IsOfRestoring (sym is) (of_fault fault)

-- ---- where it wasn't restored

pub stopped_of : (s : Status) → IsOfRestoring s → IsOfRestore s
stopped_of Ok of = absurd of
stopped_of BadWords of = of
stopped_of (SchemaRefused f) of = of
stopped_of NoDatabase of = tt
stopped_of (Needed n) of = of
stopped_of InputFault of = absurd of
stopped_of Memory of = tt
stopped_of (Limit k) of = of
stopped_of (Damaged f b) of = of
stopped_of SayFault of = absurd of
stopped_of DiskFault of = tt
stopped_of Exists of = of
stopped_of (BadStatement p) of = of
stopped_of (Reorganization why) of = of
stopped_of (BadStream place) of = of
stopped_of (Diverged file block) of = of
stopped_of (Flaw flaw) of = of

pub not_made : (s : Status) → IsOfRestoring s → IsSpoken s → ⊥
not_made Ok of is = of
not_made BadWords of is = of
not_made (SchemaRefused f) of is = of
not_made NoDatabase of is = is
not_made (Needed n) of is = is
not_made InputFault of is = of
not_made Memory of is = is
not_made (Limit k) of is = is
not_made (Damaged f b) of is = is
not_made SayFault of is = of
not_made DiskFault of is = is
not_made Exists of is = is
not_made (BadStatement p) of is = is
not_made (Reorganization why) of is = is
not_made (BadStream place) of is = is
not_made (Diverged file block) of is = is
not_made (Flaw flaw) of is = is

pub says_nothing : (s : Status) (line old new : List ℕ) → IsOfRestoring s → new ≡ old → SaysLine s line old new
says_nothing Ok line old new of same = absurd of
says_nothing BadWords line old new of same = same
says_nothing (SchemaRefused f) line old new of same = same
says_nothing NoDatabase line old new of same = same
says_nothing (Needed n) line old new of same = same
says_nothing InputFault line old new of same = same
says_nothing Memory line old new of same = same
says_nothing (Limit k) line old new of same = same
says_nothing (Damaged f b) line old new of same = same
says_nothing SayFault line old new of same = absurd of
says_nothing DiskFault line old new of same = same
says_nothing Exists line old new of same = same
says_nothing (BadStatement p) line old new of same = same
says_nothing (Reorganization why) line old new of same = same
says_nothing (BadStream place) line old new of same = same
says_nothing (Diverged file block) line old new of same = same
says_nothing (Flaw flaw) line old new of same = same

-- ---- where it was

pub made_of : (s : Status) → IsSpoken s → IsOfRestored s
made_of Ok of = tt
made_of BadWords of = of
made_of (SchemaRefused f) of = of
made_of NoDatabase of = of
made_of (Needed n) of = of
made_of InputFault of = of
made_of Memory of = absurd of
made_of (Limit k) of = of
made_of (Damaged f b) of = of
made_of SayFault of = tt
made_of DiskFault of = of
made_of Exists of = of
made_of (BadStatement p) of = of
made_of (Reorganization why) of = of
made_of (BadStream place) of = of
made_of (Diverged file block) of = of
made_of (Flaw flaw) of = of

pub restored_of : (s : Status) → IsOfRestored s → IsOfRestore s
restored_of Ok of = tt
restored_of BadWords of = of
restored_of (SchemaRefused f) of = of
restored_of NoDatabase of = absurd of
restored_of (Needed n) of = absurd of
restored_of InputFault of = absurd of
restored_of Memory of = tt
restored_of (Limit k) of = absurd of
restored_of (Damaged f b) of = absurd of
restored_of SayFault of = tt
restored_of DiskFault of = absurd of
restored_of Exists of = of
restored_of (BadStatement p) of = of
restored_of (Reorganization why) of = of
restored_of (BadStream place) of = of
restored_of (Diverged file block) of = of
restored_of (Flaw flaw) of = of

pub restored_no_refusal : (s : Status) → IsOfRestored s → IsRefusal s → ⊥
restored_no_refusal Ok of is = is
restored_no_refusal BadWords of is = is
restored_no_refusal (SchemaRefused f) of is = is
restored_no_refusal NoDatabase of is = of
restored_no_refusal (Needed n) of is = of
restored_no_refusal InputFault of is = is
restored_no_refusal Memory of is = is
restored_no_refusal (Limit k) of is = is
restored_no_refusal (Damaged f b) of is = of
restored_no_refusal SayFault of is = is
restored_no_refusal DiskFault of is = is
restored_no_refusal Exists of is = is
restored_no_refusal (BadStatement p) of is = is
restored_no_refusal (Reorganization why) of is = is
restored_no_refusal (BadStream place) of is = is
restored_no_refusal (Diverged file block) of is = is
restored_no_refusal (Flaw flaw) of is = is

pub restored_room : {S : Type 0} (g : Ghosts S) (old new : S) (s : Status) → IsOfRestored s → FillsTrail g old new s
restored_room g old new s of k is tells = absurd (subst IsOfRestored is of)

pub restored_disk : (s : Status) → IsOfRestored s → s ≡ DiskFault → ⊥
restored_disk s of is = subst IsOfRestored is of

pub said_back : (s : Status) (line old mid new : List ℕ) → mid ≡ old → SaysLine s line mid new → SaysLine s line old new
said_back s line old mid new same says = subst (λ (l : List ℕ). SaysLine s line l new) same says

-- the input was read before
pub restore_unread : (s : Status) → IsOfRestoring s ⊎ IsOfRestored s → IsOfReading s → ⊥
restore_unread Ok of r = r
restore_unread BadWords of r = r
restore_unread (SchemaRefused f) of r = r
restore_unread NoDatabase of r = r
restore_unread (Needed n) of r = r
restore_unread InputFault (inl of) r = of
restore_unread InputFault (inr of) r = of
restore_unread Memory of r = r
restore_unread (Limit k) of r = r
restore_unread (Damaged f b) of r = r
restore_unread SayFault of r = r
restore_unread DiskFault of r = r
restore_unread Exists of r = r
restore_unread (BadStatement p) (inl of) r = of
restore_unread (Reorganization why) (inl of) r = of
restore_unread (BadStream place) (inl of) r = of
restore_unread (Diverged file block) (inl of) r = of
restore_unread (Flaw flaw) (inl of) r = of
restore_unread (BadStatement p) (inr of) r = of
restore_unread (Reorganization why) (inr of) r = of
restore_unread (BadStream place) (inr of) r = of
restore_unread (Diverged file block) (inr of) r = of
restore_unread (Flaw flaw) (inr of) r = of

-- ---- how often calls failed

pub counted_status : (s t : Status) (a b : ℕ) → s ≡ t → CountedAt (t ≡ DiskFault) a b → CountedAt (s ≡ DiskFault) a b
counted_status s t a b is counted = subst (λ (x : Status). CountedAt (x ≡ DiskFault) a b) (sym is) counted

pub counted_done : (s : Status) (a b c : ℕ) → IsOfRestored s → b ≡ a → c ≡ b → CountedAt (s ≡ DiskFault) a c
counted_done s a b c of one two = not_counted (s ≡ DiskFault) a c (restored_disk s of) (two ∙ one)

pub counted_said : (s : Status) (a b c : ℕ) → b ≡ a → CountedAt (s ≡ SayFault) b c → CountedAt (s ≡ SayFault) a c
counted_said s a b c same counted = subst (λ n. CountedAt (s ≡ SayFault) n c) same counted

said_not : (s : Status) → IsOfRestoring s → s ≡ SayFault → ⊥
said_not s of is = subst IsOfRestoring is of

pub counted_stopped : (s : Status) (a b : ℕ) → IsOfRestoring s → b ≡ a → CountedAt (s ≡ SayFault) a b
counted_stopped s a b of same = not_counted (s ≡ SayFault) a b (said_not s of) same

pub said_line : (s : Status) (line text old new : List ℕ) → line ≡ text → SaysLine s line old new → SaysLine s text old new
said_line s line text old new is says = subst (λ (l : List ℕ). SaysLine s l old new) is says
