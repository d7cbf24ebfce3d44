-- The record numbers of data sets that are known to be taken.
use Rattle.std.specs.Prelude.{◌≡◌, ◌-◌, ℕ, List, true, IsTrue, Some, None, ⊤, Bool, min, replicate, slice_index_or, slice_set}
use Rattle.std.specs.declared.option.Option.{Option}
use Rattle.std.specs.declared.result.Result.{Result}
use Rattle.std.specs.declared.result.Result.TheVariants.{Ok, Err}
use Rattle.dms_block.specs.declared.block_fault.BlockFault.{BlockFault}
use Rattle.dms_block.specs.declared.blocks.Blocks.{Ghosts}
use Rattle.dms_block.specs.declared.overlay.Overlay.{Overlay}
use Rattle.dms_block.specs.Content.{Content}
use Rattle.dms_block.specs.View.{overlay_content, under}
use Rattle.dms_desc.specs.Files.{file_of}
use Rattle.dms_desc.specs.Lookups.{structure_of}
use Rattle.dms_desc.specs.Shape.{Shape, Described}
use Rattle.dms_model.specs.Valid.{is_data_set}
use Rattle.dms_model.specs.declared.put.Put.{Put}
use Rattle.dms_model.specs.declared.put.Put.TheVariants.{Stored, Duplicate as Refused, Full}
use Rattle.dms_slots.specs.SlotBlocks.{AreTaken}
use Rattle.dms_spelling.specs.Staying.{TakenStay}

-- how many numbers of a structure, from 1 on, are known to be taken
abbrev pub taken_of : List ℕ → ℕ → ℕ
taken_of known n = slice_index_or known n 0

-- so many numbers of a data set are taken: none of their slots is free
abbrev pub AreTakenIn : Described → ℕ → Content → ℕ → Type 0
AreTakenIn desc n c taken = (s : Shape) → structure_of desc n ≡ Some s → is_data_set (Some s) ≡ true → AreTaken s (c (file_of s.number)) taken

-- the numbers that are known to be taken are
abbrev pub AreKnown : Described → List ℕ → Content → Type 0
AreKnown desc known c = (n : ℕ) → AreTakenIn desc n c (taken_of known n)

-- where a record is stored, this holds of its number
abbrev pub IfStoredAs : Put → (ℕ → Type 0) → Type 0
IfStoredAs (Stored n) P = P n
IfStoredAs (Refused s) P = ⊤
IfStoredAs Full P = ⊤

-- a new record is stored under the number behind those that are taken
abbrev pub TakesNext : Described → ℕ → Option ℕ → Content → ℕ → Type 0
TakesNext desc set number c n = number ≡ None → AreTakenIn desc set c (n - 1)

-- where a record is stored no slot is freed, and a new one has the next number
abbrev pub StoresNext : Described → ℕ → Option ℕ → Content → Content → Put → Type 0
StoresNext desc set number c d p = IfStoredAs p (λ n. TakesNext desc set number c n × TakenStay desc c d)

-- the same of a call over the blocks, where they are told
abbrev pub FreesNone : {B : Type 0} {g : Ghosts B} → Described → Overlay B g → Overlay B g → Type 0
FreesNone desc a b = IsTrue (under a).told → TakenStay desc (overlay_content a) (overlay_content b)

-- nothing is known, of structures up to 200
abbrev pub none_known : List ℕ
none_known = replicate 201 0

-- what is known after an answer: this, or nothing after a fault
abbrev pub StaysKnown : {T : Type 0} → Result T BlockFault → List ℕ → List ℕ → Type 0
StaysKnown (Ok x) old new = new ≡ old
StaysKnown (Err e) old new = new ≡ none_known

-- and after a new record was stored, that the numbers before its own are taken
abbrev pub learned : ℕ → Option ℕ → Put → List ℕ → List ℕ
learned set None (Stored n) known = slice_set known set (n - 1)
learned set None (Refused s) known = known
learned set None Full known = known
learned set (Some m) p known = known

abbrev pub Learns : ℕ → Option ℕ → Result Put BlockFault → List ℕ → List ℕ → Type 0
Learns set number (Ok p) old new = new ≡ learned set number p old
Learns set number (Err e) old new = new ≡ none_known

-- and after a record was to be removed, that those before its own are taken as far as they were
abbrev pub lowered : ℕ → ℕ → List ℕ → List ℕ
lowered set number known = slice_set known set (min (taken_of known set) (number - 1))

abbrev pub Lowers : ℕ → ℕ → Result Bool BlockFault → List ℕ → List ℕ → Type 0
Lowers set number (Ok done) old new = new ≡ lowered set number old
Lowers set number (Err e) old new = new ≡ none_known
