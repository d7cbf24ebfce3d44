-- What a store on blocks answers where a record is to be stored.
use Rattle.std.specs.Prelude.{◌≡◌, ℕ, true, IfSome, Some, None, ⊤, is_some}
use Rattle.std.specs.declared.option.Option.{Option}
use Rattle.std.specs.declared.result.Result.{Result}
use Rattle.std.specs.FinMap.{get}
use Rattle.dms_block.specs.declared.block_fault.BlockFault.{BlockFault}
use Rattle.dms_block.specs.Content.{Content}
use Rattle.dms_block.specs.Faults.{IfFull}
use Rattle.dms_desc.specs.Lookups.{structure_of}
use Rattle.dms_desc.specs.Shape.{Described}
use Rattle.dms_desc.specs.declared.record.Record.{Record}
use Rattle.dms_model.specs.declared.put.Put.{Put}
use Rattle.dms_model.specs.declared.put.Put.TheVariants.{Stored, Duplicate, Full}
use Rattle.dms_model.specs.Db.{Db}
use Rattle.dms_model.specs.Fitting.{IsStored}
use Rattle.dms_model.specs.Stores.{put_after, put_answer}
use Rattle.dms_model.specs.Valid.{owner_stands}
use Rattle.dms_spelling.specs.Spelled.{database_in}
use Rattle.dms_desc_bytes.specs.Finding.{owner_in as owner_of}

-- This record may be stored: where it is a new one its owner's record is there, or it has no owner where its data set is disjoint; and
-- where a number is named its record is there. That one keeps its owner.
pub record MayStore (desc : Described) (db : Db) (set : ℕ) (number : Option ℕ) (rec : Record) : Type 0 where
  pub owner_stands : number ≡ None → owner_stands db.records (owner_of (structure_of desc set)) rec.owner ≡ true
  pub named : IfSome number (λ n. is_some (get db.records (set, n)) ≡ true)

-- what is seen after an answer: the database with the record, where it is stored
abbrev pub IsSeenAfter : Described → Db → ℕ → Record → Content → Put → Type 0
IsSeenAfter desc db set rec c (Stored n) = database_in desc c ≡ Some (put_after (Stored n) desc db set rec)
IsSeenAfter desc db set rec c (Duplicate s) = ⊤
IsSeenAfter desc db set rec c Full = ⊤

-- The answer is that of storing the record in the database that the old content spells, and where the record is stored what is then
-- seen spells the one with it.
abbrev pub AnswersOver : Described → Content → Content → ℕ → Option ℕ → Record → Put → Type 0
AnswersOver desc c d set number rec answer = (db : Db) → database_in desc c ≡ Some db → MayStore desc db set number rec → (answer ≡ put_answer desc db set number rec) × IsSeenAfter desc db set rec d answer

-- The answer is that of storing the record in the database that the old content spells, and the new content spells the database after it.
abbrev pub Answers : Described → Content → Content → ℕ → Option ℕ → Record → Put → Type 0
Answers desc c d set number rec answer = (db : Db) → database_in desc c ≡ Some db → MayStore desc db set number rec
    → (answer ≡ put_answer desc db set number rec) × (database_in desc d ≡ Some (put_after answer desc db set rec))

-- Where the audit had no room, the record was to be stored in the database that the content spells.
abbrev pub FullStored : Described → Content → ℕ → Option ℕ → Record → Result Put BlockFault → Type 0
FullStored desc c set number rec result = (db : Db) → database_in desc c ≡ Some db → MayStore desc db set number rec → IfFull result (λ f. IsStored (put_answer desc db set number rec))
