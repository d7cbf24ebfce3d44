-- A new set over a data set that is there, filled from the slots of its file.
use Rattle.std.specs.Prelude.{ℕ, zero, suc, ◌≡◌, ◌≤◌, List, [], false, length, Some, None}
use Rattle.std.specs.declared.option.Option.{Option}
use Rattle.std.specs.FinMap.{entries, get, keys}
use Rattle.dms_base.specs.declared.kind.ItemKind.{ItemKind}
use Rattle.dms_desc.specs.declared.record.Record.{Record}
use Rattle.dms_desc.specs.Kinds.{over}
use Rattle.dms_desc.specs.Shape.{Shape}
use Rattle.dms_layout.specs.declared.slot.Slot.{Slot}
use Rattle.dms_layout.specs.declared.slot.SlotRead.{SlotRead}
use Rattle.dms_layout.specs.declared.slot.SlotRead.TheVariants.{Used}
use Rattle.dms_links.specs.Rows.{rec_opt}
use Rattle.dms_model.specs.Db.{Records}
use Rattle.dms_lists.specs.Forms.{form_of, kept_in}
use Rattle.dms_layout.specs.Slots.{SlotFits}
use Rattle.dms_sets.specs.Changes.{HasEntry, refuses}
use Rattle.dms_sets.specs.Listing.{AllPlaces}
use Rattle.dms_sets.specs.Padded.{entry_width}
use Rattle.dms_sets.specs.Sets.{IsSmall, listed_in}
use Rattle.dms_slots.specs.SlotBlocks.{slot_at}
use Rattle.dms_reorg.specs.Widened.{HasNoneBehind, up_to}

-- the record of the slot with a number, none behind the last one
abbrev pub record_up_to : ℕ → (ℕ → SlotRead) → ℕ → Option Record
record_up_to last read zero = None
record_up_to last read (suc n) = rec_opt (up_to last read (suc n))

-- these are the entries of a set over the records of slots, up to a last one
pub record ListsUpTo (kinds : List ItemKind) (s : Shape) (read : ℕ → SlotRead) (last : ℕ) (xs : List (List ℕ)) : Type 0 where
  pub records : Records
  pub each : (n : ℕ) → get records (over s, n) ≡ record_up_to last read n
  pub small : AllPlaces IsSmall (entries records)
  pub list : xs ≡ keys (listed_in kinds s records)

-- records that are those of the slots of a file
pub record AreRecordsOf (s t : Shape) (bs : List (List ℕ)) (m : Records) : Type 0 where
  pub none : get m (over s, 0) ≡ None
  pub each : (n : ℕ) → get m (over s, suc n) ≡ rec_opt (slot_at t bs (suc n))
  pub small : AllPlaces IsSmall (entries m)

-- each record that fits the data set may have an entry in the set
abbrev pub EachHasEntry : List ItemKind → Shape → Shape → Type 0
EachHasEntry kinds t s = (slot : Slot) → SlotFits t slot → HasEntry kinds s slot.rec.values

-- the set refuses none of the records, each after those before it
abbrev pub RefusesNone : List ItemKind → Shape → (ℕ → SlotRead) → Type 0
RefusesNone kinds s read = (n : ℕ) (slot : Slot) (xs : List (List ℕ)) → read (suc n) ≡ Used slot → ListsUpTo kinds s read n xs → refuses kinds s (Some slot.rec) xs ≡ false

-- A set may be filled from the slots of a file: its own has no block, it refuses no record, and no record stands behind POPULATION.
pub record MayFill (kinds : List ItemKind) (t s : Shape) (bs own : List (List ℕ)) : Type 0 where
  pub none : own ≡ []
  pub keys : RefusesNone kinds s (slot_at t bs)
  pub behind : HasNoneBehind t bs

-- the file of the set holds the entries of all records of the data set
pub record HoldsEntries (kinds : List ItemKind) (t s : Shape) (bs own : List (List ℕ)) : Type 0 where
  pub few : length own ≤ 1048576
  pub kept : (m : Records) → AreRecordsOf s t bs m → kept_in (form_of s) (entry_width kinds s.parts) own ≡ Some (keys (listed_in kinds s m))
