-- Laws of the first reason, and of a description that extends another one.
use Rattle.std.specs.Prelude.{ℕ, ◌≡◌, Some}
use Rattle.std.specs.declared.option.Option.{Option}
use Rattle.dms_desc.specs.Lookups.{structure_of}
use Rattle.dms_desc.specs.Shape.{Shape, Described}
use Rattle.dms_desc_bytes.specs.WellFormed.{IsWellFormed}
use Rattle.dms_status.specs.declared.status.ReorgFault.{ReorgFault}
use Rattle.dms_reorg.specs.Extended.{first_values, further}
use Rattle.dms_reorg.specs.Laws.{StandsIn}
use Rattle.dms_reorg.specs.Refusals.{Extends, IsFirstRefusal}
use Rattle.dms_reorg.specs.Widened.{Widens}

-- two descriptions have one first reason, or none
abbrev pub HasOneReason : Type 0
HasOneReason = (old new : Described) (a b : Option ReorgFault) → IsFirstRefusal old new a → IsFirstRefusal old new b → a ≡ b

-- the structure with this number is widened by the initial values of its further items
pub record Grows (old new : Described) (n : ℕ) (s : Shape) : Type 0 where
  pub now : Shape
  pub is : structure_of new n ≡ Some now
  pub widens : Widens s now (first_values (further old new n))

-- Where a schema can have the new description, and it extends the old one, each structure stands in it, with further links that begin as null, and is
-- widened.
pub record Growth (old new : Described) : Type 0 where
  pub stand : (n : ℕ) (s : Shape) → structure_of old n ≡ Some s → StandsIn old new n
  pub grow : (n : ℕ) (s : Shape) → structure_of old n ≡ Some s → Grows old new n s

abbrev pub EachGrows : Type 0
EachGrows = (old new : Described) → IsWellFormed new → Extends old new → Growth old new
