-- What is made of the files of a database, so that they are those of the extended one.
use Rattle.std.specs.Prelude.{ℕ, ◌≡◌, ◌≤◌, ◌&&◌, not, Bool, true, false, is_some, List, [], length, Some, None}
use Rattle.std.specs.List.{list_all}
use Rattle.std.specs.declared.option.Option.{Option}
use Rattle.dms_block.specs.Content.{Content}
use Rattle.dms_desc.specs.Files.{file_of}
use Rattle.dms_desc.specs.Kinds.{is_set_or_automatic}
use Rattle.dms_desc.specs.Lookups.{structure_of}
use Rattle.dms_desc.specs.Shape.{Described, Shape}
use Rattle.dms_desc_bytes.specs.WellFormed.{IsWellFormed}
use Rattle.dms_links.specs.Rows.{file_in}
use Rattle.dms_model.specs.Db.{Db}
use Rattle.dms_model.specs.Valid.{is_data_set}
use Rattle.dms_sets.specs.Sets.{kinds_over}
use Rattle.dms_slots.specs.SlotBlocks.{is_block}
use Rattle.dms_spelling.specs.Serving.{IsServed}
use Rattle.dms_spelling.specs.Spelled.{database_in}
use Rattle.dms_reorg.specs.Extended.{extended, first_values, further}
use Rattle.dms_reorg.specs.Filled.{HoldsEntries}
use Rattle.dms_reorg.specs.Refusals.{Extends}
use Rattle.dms_reorg.specs.Widened.{IsWidenedFile}

-- a set or automatic subset over a data set that was there
abbrev pub is_over_old : Described → Option Shape → Bool
is_over_old old None = false
is_over_old old (Some s) = is_set_or_automatic s && is_data_set (structure_of old s.set)

-- the structure with this number is a new one of these
abbrev pub is_filled : Described → Described → ℕ → Bool
is_filled old new n = not (is_some (structure_of old n)) && is_over_old old (structure_of new n)

-- File by file: that of a data set is widened by the initial values of its further items, that of a new set or automatic subset over a data set that was there
-- has the entries of all its records, and each other one is as it was.
pub record RewritesFiles (old new : Described) (c d : Content) : Type 0 where
  pub few : (n : ℕ) → length (c (file_of n)) ≤ 1048576 → length (d (file_of n)) ≤ 1048576
  pub data_sets : (n : ℕ) (s t : Shape) → structure_of old n ≡ Some s → structure_of new n ≡ Some t → is_data_set (Some s) ≡ true
      → IsWidenedFile s t (first_values (further old new n)) (file_in c s) (file_in d t)
  pub sets : (n : ℕ) (s t : Shape) → structure_of new n ≡ Some s → is_filled old new n ≡ true → structure_of new s.set ≡ Some t
      → HoldsEntries (kinds_over new s) t s (file_in d t) (file_in d s)
  pub others : (n : ℕ) → is_data_set (structure_of old n) ≡ false → is_filled old new n ≡ false → d (file_of n) ≡ c (file_of n)

-- two descriptions that schemas can have, of which the second extends the first
pub record MayBecome (old new : Described) : Type 0 where
  pub well : IsWellFormed old
  pub well_then : IsWellFormed new
  pub served : IsServed old
  pub served_then : IsServed new
  pub extends : Extends old new

-- So the files spell the extended database.
abbrev pub SpellsExtended : Type 0
SpellsExtended = (old new : Described) (db : Db) (c d : Content) → MayBecome old new → database_in old c ≡ Some db → RewritesFiles old new c d → database_in new d ≡ Some (extended old new db)

-- A data set's file is the one of the same data set without further items.
abbrev pub StaysItself : Type 0
StaysItself = (s t : Shape) (bs : List (List ℕ)) → t.items ≡ s.items → t.owner ≡ s.owner → list_all (is_block s) bs ≡ true → IsWidenedFile s t [] bs bs
