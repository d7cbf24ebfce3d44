-- Equal keys among the records of a data set, in a set or automatic subset that is to be made.
use Rattle.std.specs.Prelude.{ℕ, ◌*◌, ◌<◌, ◌≤◌, ◌≡◌, ◌||◌, Bool, true, false, List, length, Some, None, IsTrue}
use Rattle.std.specs.declared.option.Option.{Option}
use Rattle.std.specs.HashSet.{HashSet, contains_by}
use Rattle.std.specs.Str.{bytes_eq}
use Rattle.dms_base.specs.declared.kind.ItemKind.{ItemKind}
use Rattle.dms_base.specs.declared.value.Value.{Value}
use Rattle.dms_block.specs.declared.blocks.Blocks.{Ghosts}
use Rattle.dms_block.specs.declared.overlay.Overlay.{Overlay}
use Rattle.dms_block.specs.Content.{Content}
use Rattle.dms_block.specs.View.{under}
use Rattle.dms_desc.specs.Kinds.{is_set_or_automatic}
use Rattle.dms_desc.specs.Lookups.{structure_of}
use Rattle.dms_desc.specs.Shape.{Described, Shape}
use Rattle.dms_layout.specs.declared.slot.SlotRead.{SlotRead}
use Rattle.dms_links.specs.Rows.{file_in, rec_opt}
use Rattle.dms_model.specs.Db.{Db}
use Rattle.dms_model.specs.Valid.{is_data_set}
use Rattle.dms_sets.specs.Changes.{entry_opt}
use Rattle.dms_sets.specs.Sets.{kinds_over}
use Rattle.dms_slots.specs.Seen.{blocks_of}
use Rattle.dms_slots.specs.SlotBlocks.{per_block, slot_at}
use Rattle.dms_spelling.specs.Spelled.{database_in}
use Rattle.dms_reorg.specs.Extended.{HasEqualKeys, extended, first_values, further}
use Rattle.dms_reorg.specs.Filled.{RefusesNone}
use Rattle.dms_reorg.specs.Rewritten.{MayBecome}
use Rattle.dms_reorg.specs.Widened.{IsWidenedFile, widened}

-- the owner and the key of the record in a slot, with these values behind its own, as the bytes of an entry that names no record; none where the set doesn't take it
abbrev pub key_at : List ItemKind → Shape → List Value → (ℕ → SlotRead) → ℕ → Option (List ℕ)
key_at kinds s first read n = entry_opt kinds s 0 (rec_opt (widened first (read n)))

-- two of the slots from 1 to the last one have one key
pub record HasTwo (keys : ℕ → Option (List ℕ)) (last : ℕ) : Type 0 where
  pub one : ℕ
  pub two : ℕ
  pub key : List ℕ
  pub low : 1 ≤ one
  pub apart : one < two
  pub high : two ≤ last
  pub here : keys one ≡ Some key
  pub there : keys two ≡ Some key

-- ---- keys that are kept

module _ {V S : Type 0} (bytes : V → List ℕ) where
  -- these bytes are among them
  abbrev pub has_bytes : HashSet V S → List ℕ → Bool
  has_bytes keys q = contains_by (λ k. bytes_eq q (bytes k)) keys

  -- a key is put to them, if there is one; and whether it was there
  abbrev pub AddsKey : Option (List ℕ) → HashSet V S → HashSet V S → Bool → Type 0
  AddsKey None old new was = (was ≡ false) × ((q : List ℕ) → has_bytes new q ≡ has_bytes old q)
  AddsKey (Some key) old new was = (was ≡ has_bytes old key) × ((q : List ℕ) → has_bytes new q ≡ (bytes_eq q key || has_bytes old q))

-- what is told of equal keys among the slots of a data set's file, up to the last one
pub record TellsEqual {B : Type 0} {g : Ghosts B} (kinds : List ItemKind) (t s : Shape) (first : List Value) (last : ℕ) (o : Overlay B g) (equal : Bool) : Type 0 where
  pub some : IsTrue equal → IsTrue (under o).told → HasTwo (key_at kinds s first (slot_at t (blocks_of t o))) last
  pub none : equal ≡ false → IsTrue (under o).told → HasTwo (key_at kinds s first (slot_at t (blocks_of t o))) last → ⊥

-- ---- laws

-- a new set or automatic subset, and the data set that it is over, as that was
pub record IsOverOld (old new : Described) (n : ℕ) (s was : Shape) : Type 0 where
  pub here : structure_of new n ≡ Some s
  pub kept : is_set_or_automatic s ≡ true
  pub there : structure_of old s.set ≡ Some was
  pub data_set : is_data_set (Some was) ≡ true

-- the keys of the slots of its file, each record with the further values
abbrev pub keys_in : Described → Described → Content → Shape → Shape → ℕ → Option (List ℕ)
keys_in old new c s was = key_at (kinds_over new s) s (first_values (further old new s.set)) (slot_at was (file_in c was))

-- two slots have one key exactly where two records of the extended database have equal keys
pub record IsToldByKeys (old new : Described) (db : Db) (c : Content) (s was : Shape) : Type 0 where
  pub equal : (last : ℕ) → HasTwo (keys_in old new c s was) last → HasEqualKeys s (extended old new db)
  pub two : HasEqualKeys s (extended old new db) → HasTwo (keys_in old new c s was) (length (file_in c was) * per_block was.items)

-- So it is where the files spell the database.
abbrev pub ToldByKeys : Type 0
ToldByKeys = (old new : Described) (db : Db) (c : Content) (n : ℕ) (s was : Shape) → MayBecome old new → database_in old c ≡ Some db → IsOverOld old new n s was → IsToldByKeys old new db c s was

-- A set with DUPLICATES, or one in which no records have equal keys, refuses none of the records of the widened file.
abbrev pub RefusesNoRecord : Type 0
RefusesNoRecord = (old new : Described) (db : Db) (c : Content) (bs : List (List ℕ)) (n : ℕ) (s was t : Shape) → MayBecome old new → database_in old c ≡ Some db → IsOverOld old new n s was
    → structure_of new s.set ≡ Some t → IsWidenedFile was t (first_values (further old new s.set)) (file_in c was) bs → (s.duplicates ≡ false → HasEqualKeys s (extended old new db) → ⊥)
    → RefusesNone (kinds_over new s) s (slot_at t bs)
