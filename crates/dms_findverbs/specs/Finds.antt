-- What a search leaves of a store, and what it finds.
use Rattle.std.specs.Prelude.{◌≡◌, ℕ, Some, true, IfSome, ⊤}
use Rattle.std.specs.declared.option.Option.{Option}
use Rattle.std.specs.declared.result.Result.{Result}
use Rattle.dms_block.specs.declared.block_fault.BlockFault.{BlockFault}
use Rattle.dms_block.specs.Faults.{Unbroken, Undamaged}
use Rattle.dms_desc.specs.Shape.{Described}
use Rattle.dms_model.specs.Db.{Db}
use Rattle.dms_model.specs.declared.spot.Spot.{Spot}
use Rattle.dms_model.specs.declared.verb.Path.{Path}
use Rattle.dms_model.specs.declared.verb.Path.TheVariants.{First, Last, Next, Prior, Current, Via, At}
use Rattle.dms_model.specs.Fitting.{IsDataSet, IsNumber, RecordFits, SpotFits}
use Rattle.dms_model.specs.Programs.{Program}
use Rattle.dms_model.specs.Seeking.{base_of, found_by, found_in, moves, owner_in, path_of, target_in}
use Rattle.dms_model.specs.Seen.{HasStoreCauses, IsSilent, Keeps, Seen}

-- a call that only reads: nothing has changed, whatever it answers, and a fault has a cause
pub record OnlyReads {T : Type 0} (result : Result T BlockFault) (old new : Seen) : Type 0 where
  pub keeps : Unbroken result (Keeps old new)
  pub silent : IsSilent old new
  pub effort : new.effort ≡ old.effort
  pub undamaged : (d : Db) → old.db ≡ Some d → Undamaged result
  pub causes : HasStoreCauses result old new

-- what was found has a number of its data set, and its record fits
pub record FoundFits (desc : Described) (path : Path) (x : Spot) : Type 0 where
  pub number : IsNumber desc (found_in desc path) x.number
  pub rec : RecordFits desc (found_in desc path) x.rec
  pub member : moves path ≡ true → SpotFits desc (path_of path) x

-- the data set into which a link refers is there
abbrev pub HasTarget : Described → Path → Type 0
HasTarget desc (First x) = ⊤
HasTarget desc (Last x) = ⊤
HasTarget desc (Next x) = ⊤
HasTarget desc (Prior x) = ⊤
HasTarget desc (Current set) = ⊤
HasTarget desc (Via set item) = IsDataSet desc (target_in desc set item)
HasTarget desc (At x literals) = ⊤

-- the record to which a link refers has a number of the link's data set, and fits it
pub record LinkedFits (desc : Described) (set item : ℕ) (x : Spot) : Type 0 where
  pub number : IsNumber desc (target_in desc set item) x.number
  pub rec : RecordFits desc (target_in desc set item) x.rec

-- what was found fits, where the search began at a program's record
abbrev pub FitsFrom : Described → Program → ℕ → Path → Option Spot → Type 0
FitsFrom desc p base path o = IfSome o (λ x. owner_in p (base_of desc path) ≡ Some base → FoundFits desc path x)

-- it is what the path names in the database, where that is told
abbrev pub FindsIn : Option Db → Described → Program → ℕ → Path → Option Spot → Type 0
FindsIn told desc p base path answer = (d : Db) → told ≡ Some d → answer ≡ found_by desc d p base path
