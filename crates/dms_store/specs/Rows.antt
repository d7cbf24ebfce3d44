-- The records of a content: what stands under a number, and all of them in order.
use Rattle.std.proofs.Common.{◌≡◌, ◌∙◌, ◌≤◌, ℕ}
use Rattle.std.specs.FinMap.{entries, get, get-from_entries}
use Rattle.dms_block.specs.Content.{Content}
use Rattle.dms_desc.specs.Lookups.{structure_of}
use Rattle.dms_desc.specs.Shape.{Described}
use Rattle.dms_links.specs.Rows.{AreNumbered, entries_are, rec_in, rows_get, rows_in}
use Rattle.dms_model.specs.Places.{places_total}
use Rattle.dms_spelling.specs.Spelled.{db_in}
use Rattle.dms_spelling.specs.Stands.{none_whole}

-- What stands under a number in the database of a content is the record in its slot.
pub get_in : (desc : Described) (c : Content) → AreNumbered 1 desc.structures → (set n : ℕ) → 1 ≤ n → get (db_in desc c).records (set, n) ≡ rec_in c (structure_of desc set) n
unfolding db_in
get_in desc c numbered set n low = get-from_entries places_total (rows_in c desc.structures) (set, n) ∙ rows_get desc c numbered set n low

-- The records of the database of a content are those of the slots, in their order.
pub entries_in : (desc : Described) (c : Content) → AreNumbered 1 desc.structures → entries (db_in desc c).records ≡ rows_in c desc.structures
entries_in desc c numbered = entries_are desc c (db_in desc c).records numbered (λ set n low. get_in desc c numbered set n low) (λ set. none_whole desc c set)
