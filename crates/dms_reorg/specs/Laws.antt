-- Laws of a database under a description that extends its own.
use Rattle.std.specs.Prelude.{ℕ, ◌≡◌, ◌||◌, not, Bool, true, length, drop, option_map, Some}
use Rattle.std.specs.List.{AllByRecursion, list_all}
use Rattle.std.specs.FinMap.{entries, get}
use Rattle.dms_desc.specs.declared.record.Record.{Record}
use Rattle.dms_desc.specs.declared.structure.Item.{Item}
use Rattle.dms_desc.specs.Conds.{is_null}
use Rattle.dms_desc.specs.Kinds.{is_link}
use Rattle.dms_desc.specs.Lookups.{structure_of, items_of}
use Rattle.dms_desc.specs.Shape.{Shape, Described}
use Rattle.dms_model.specs.Db.{Db, Place, SubsetEntry}
use Rattle.dms_tally.specs.Counts.{counted_in, owned_in}
use Rattle.dms_reorg.specs.Extends.{KeepsStructure}
use Rattle.dms_reorg.specs.Extended.{extended, extended_record}

-- each record of the extended database is that of the database, extended
abbrev pub ExtendsGives : Type 0
ExtendsGives = (old new : Described) (db : Db) (place : Place) → get (extended old new db).records place ≡ option_map (extended_record old new place.0) (get db.records place)

-- an item that is no link, or begins as null
abbrev pub is_unlinked : Item → Bool
is_unlinked i = not (is_link i.kind) || is_null i.initial

-- The structure with this number stands in that of the new description, and its further links begin as null.
pub record StandsIn (old new : Described) (n : ℕ) : Type 0 where
  pub s : Shape
  pub t : Shape
  pub was : structure_of old n ≡ Some s
  pub now : structure_of new n ≡ Some t
  pub keeps : KeepsStructure s t
  pub unlinked : list_all is_unlinked (drop (length s.items) t.items) ≡ true

-- a record of a structure that does, with as many values as that has items
abbrev pub RowStands : Described → Described → Place × Record → Type 0
RowStands old new e = StandsIn old new e.0.0 × (length e.1.values ≡ length (items_of (structure_of old e.0.0)))

-- all records and entries of a database are of structures that do
pub record AllStandIn (old new : Described) (db : Db) : Type 0 where
  pub rows : AllByRecursion (RowStands old new) (entries db.records)
  pub subsets : AllByRecursion (λ (e : SubsetEntry). StandsIn old new e.subset) db.entries

-- each record counts and owns what it did
abbrev pub StaysCounted : Type 0
StaysCounted = (old new : Described) (db : Db) → AllStandIn old new db → (set n : ℕ)
    → (counted_in new (extended old new db) set n ≡ counted_in old db set n) × (owned_in new (extended old new db) set n ≡ owned_in old db set n)
