-- A database under a description that extends its own.
use Rattle.std.specs.Prelude.{ℕ, ◌<◌, ◌≡◌, ◌≢◌, ◌++◌, true, false, List, length, drop, map, Some}
use Rattle.std.specs.FinMap.{from_sorted, entries, get}
use Rattle.dms_base.specs.declared.value.Value.{Value}
use Rattle.dms_desc.specs.declared.structure.Item.{Item}
use Rattle.dms_desc.specs.declared.record.Record.{Record}
use Rattle.dms_desc.specs.Lookups.{structure_of, items_of}
use Rattle.dms_desc.specs.Shape.{Shape, Described}
use Rattle.dms_model.specs.Db.{Db, Place, place_cmp}
use Rattle.dms_model.specs.Valid.{equal_keys, is_set, share_owner}

-- the items of a data set that stand behind those that it had
abbrev pub further : Described → Described → ℕ → List Item
further old new set = drop (length (items_of (structure_of old set))) (items_of (structure_of new set))

-- the initial values of items: null where none is given, and for a link
abbrev pub first_values : List Item → List Value
first_values items = map (λ i. i.initial) items

-- a record with the initial values of the further items of its data set behind its own values
abbrev pub extended_record : Described → Described → ℕ → Record → Record
extended_record old new set r = record { owner = r.owner; values = r.values ++ first_values (further old new set) }

abbrev pub extended_row : Described → Described → Place × Record → Place × Record
extended_row old new e = (e.0, extended_record old new e.0.0 e.1)

-- The database with each record extended. Entries and owners stay.
unfoldable pub extended : Described → Described → Db → Db
extended old new db = record { records = from_sorted {R = place_cmp} (map (extended_row old new) (entries db.records)); entries = db.entries }

-- ---- equal keys in a new structure

-- two records that belong to a structure for one owner have equal keys there
pub record HasEqualKeys (s : Shape) (db : Db) : Type 0 where
  pub owner : ℕ
  pub one : Place
  pub two : Place
  pub a : Record
  pub b : Record
  pub here : get db.records one ≡ Some a
  pub there : get db.records two ≡ Some b
  pub apart : one ≢ two
  pub together : share_owner s db.entries owner (one, a) (two, b) ≡ true
  pub equal : equal_keys s a b ≡ true

-- the structure with this number is a new set or subset without DUPLICATES, and records of this database have equal keys there
pub record RefusesKeys (old new : Described) (db : Db) (n : ℕ) (s : Shape) : Type 0 where
  pub further : length old.structures < n
  pub at : structure_of new n ≡ Some s
  pub set : is_set s ≡ true
  pub unique : s.duplicates ≡ false
  pub keys : HasEqualKeys s (extended old new db)

-- the first such structure, in the order of their numbers, has this name
pub record IsFirstDuplicate (old new : Described) (db : Db) (name : List ℕ) : Type 0 where
  pub number : ℕ
  pub shape : Shape
  pub refuses : RefusesKeys old new db number shape
  pub name_is : shape.name ≡ name
  pub first : (m : ℕ) (s : Shape) → m < number → RefusesKeys old new db m s → ⊥

-- there is none
abbrev pub HasOwnKeysIn : Described → Described → Db → Type 0
HasOwnKeysIn old new db = (n : ℕ) (s : Shape) → RefusesKeys old new db n s → ⊥
