-- What a database that is spelled has to keep beside, to be valid.
use Rattle.std.specs.Prelude.{ℕ, ◌≡◌, ◌≤◌, true, false, Some, length}
use Rattle.std.specs.FinMap.{get}
use Rattle.dms_block.specs.Content.{Content}
use Rattle.dms_desc.specs.Conds.{is_null, meets}
use Rattle.dms_desc.specs.Lookups.{structure_of}
use Rattle.dms_desc.specs.Shape.{Shape, Described}
use Rattle.dms_desc.specs.declared.record.Record.{Record}
use Rattle.dms_model.specs.Db.{Db, Place, records_of}
use Rattle.dms_model.specs.Valid.{IsValid, OfItems, OfRecords, equal_keys, is_data_set, is_set, share_owner}
use Rattle.dms_spelling.specs.Serving.{IsServed}
use Rattle.dms_spelling.specs.Spelled.{database_in}

-- the fields of IsValid that the test of what is spelled doesn't ask for
pub record KeptBeside (desc : Described) (db : Db) : Type 0 where
  pub required : OfRecords desc db (λ place rec shape. OfItems shape.items rec.values (λ item v. item.required ≡ true → is_null v ≡ false))
  pub verified : OfRecords desc db (λ place rec shape. meets shape.cond rec.values ≡ true)
  pub populations : (set : ℕ) (shape : Shape) → structure_of desc set ≡ Some shape → is_data_set (Some shape) ≡ true → length (records_of db.records set) ≤ shape.population
  pub keys : (n : ℕ) (shape : Shape) → structure_of desc n ≡ Some shape → is_set shape ≡ true → shape.duplicates ≡ false
      → (owner : ℕ) (p q : Place) (a b : Record) → get db.records p ≡ Some a → get db.records q ≡ Some b
      → share_owner shape db.entries owner (p, a) (q, b) ≡ true → equal_keys shape a b ≡ true → p ≡ q

abbrev pub SpelledIsValid : Type 0
SpelledIsValid = (desc : Described) (db : Db) (c : Content) → IsServed desc → database_in desc c ≡ Some db → KeptBeside desc db → IsValid desc db
