-- The members of sets and automatic subsets, and what an entry of their lists stands for.
use Rattle.std.specs.Prelude.{ℕ, ◌≡◌, ◌<◌, ◌+◌, ◌⊎◌, List, Bool, true, false, Some, None, if◌then◌else◌}
use Rattle.std.specs.declared.option.Option.{Option}
use Rattle.std.specs.declared.result.Result.{Result}
use Rattle.dms_block.specs.declared.block_fault.BlockFault.{BlockFault}
use Rattle.std.specs.FinMap.{get}
use Rattle.std.specs.Str.{bytes_eq}
use Rattle.dms_block.specs.declared.blocks.Blocks.{Ghosts}
use Rattle.dms_block.specs.declared.overlay.Overlay.{Overlay}
use Rattle.dms_block.specs.View.{seen_counts, under}
use Rattle.dms_desc.specs.declared.bound.Bound.{Bound}
use Rattle.dms_desc.specs.declared.record.Record.{Record}
use Rattle.dms_desc.specs.Kinds.{is_set_or_automatic}
use Rattle.dms_desc.specs.Lookups.{set_of, structure_of}
use Rattle.dms_desc.specs.Shape.{Shape, Described}
use Rattle.dms_model.specs.Db.{Db}
use Rattle.dms_model.specs.Fitting.{MayStart, population_of}
use Rattle.dms_model.specs.Members.{first_member, last_member}
use Rattle.dms_model.specs.Stores.{Tells}
use Rattle.dms_model.specs.declared.spot.Spot.{Spot}
use Rattle.dms_model.specs.Valid.{is_data_set}
use Rattle.dms_lists.specs.declared.form.ListForm.{ListForm}
use Rattle.dms_lists.specs.declared.form.ListForm.TheVariants.{Tree, List as OneChain}
use Rattle.dms_lists.specs.Forms.{form_of, look_reads}
use Rattle.dms_sets.specs.Sets.{entries_of, entry_of, kinds_over, place_in_entry}
use Rattle.dms_desc.specs.Files.{file_of}
use Rattle.dms_store.specs.Finding.{BadSlot}
use Rattle.dms_store.specs.Lifted.{db_of, db_under}

-- these bytes are an entry
abbrev pub is_entry : Option (List ℕ) → List ℕ → Bool
is_entry None bytes = false
is_entry (Some own) bytes = bytes_eq own bytes

-- an entry of a set stands for a record of the database
abbrev pub IsEntryOfRecord : Described → Shape → Db → List ℕ → Type 0
IsEntryOfRecord desc s d q = (r : Record) × (get d.records (place_in_entry s q) ≡ Some r) × (entry_of (kinds_over desc s) s (place_in_entry s q) r ≡ Some q)

-- the form of a structure's list
abbrev pub form_at : Option Shape → ListForm
form_at None = OneChain
form_at (Some s) = form_of s

-- Where a database is told, of the entries that it gives an INDEX SEQUENTIAL set or automatic subset.
abbrev pub IfIndexed : Described → ℕ → Option Db → (List (List ℕ) → Type 0) → Type 0
IfIndexed desc path db P = (s : Shape) (d : Db) → structure_of desc path ≡ Some s → is_set_or_automatic s ≡ true → form_of s ≡ Tree → db ≡ Some d → P (entries_of desc d s)

module _ {B : Type 0} {g : Ghosts B} where
  -- a block of the data set isn't one of slots, or an entry of the set stands for no record: then the first block of the set's file is named
  abbrev pub BadEntry : Described → Shape → List ℕ → Overlay B g → ℕ → ℕ → Type 0
  BadEntry desc s q o f b = BadSlot desc s.set o f b
      ⊎ ((f ≡ file_of s.number) × (b ≡ 0) × ((d : Db) → db_of desc (under o).told (under o).content ≡ Some d → IsEntryOfRecord desc s d q → ⊥))

  -- Where members may be asked for so, the answer is the first one behind the bound, or the last one before it.
  abbrev pub FindsFirst : Described → ℕ → ℕ → Bound → Overlay B g → Result (Option Spot) BlockFault → Type 0
  FindsFirst desc path owner bound o result = MayStart desc path owner bound → Tells (db_under desc o) result (λ d. first_member desc d path owner bound)

  abbrev pub FindsLast : Described → ℕ → ℕ → Bound → Overlay B g → Result (Option Spot) BlockFault → Type 0
  FindsLast desc path owner bound o result = MayStart desc path owner bound → Tells (db_under desc o) result (λ d. last_member desc d path owner bound)

  -- how many blocks a look at the members of a structure reads at most
  abbrev pub most_reads : Described → ℕ → Overlay B g → ℕ
  most_reads desc path o = if is_data_set (structure_of desc path) then population_of (structure_of desc path) else 1 + look_reads (form_at (structure_of desc path)) (seen_counts o (file_of path))

-- A block of the structure's file, or of its data set's, of blocks of which no database is told.
pub record BadPath {B : Type 0} {g : Ghosts B} (desc : Described) (path : ℕ) (o : Overlay B g) (f b : ℕ) : Type 0 where
  pub file : (f ≡ file_of path) ⊎ (f ≡ file_of (set_of desc path))
  pub there : b < seen_counts o f
  pub untold : (d : Db) → db_of desc (under o).told (under o).content ≡ Some d → ⊥
