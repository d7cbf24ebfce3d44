-- The numbers of kinds of structures.
use Rattle.std.specs.Prelude.{◌≡◌, true, nat_lt, ◌==◌, not, ◌||◌, refl}
use Rattle.dms_base.specs.declared.kind.StructureKind.{StructureKind}
use Rattle.dms_base.specs.declared.kind.StructureKind.TheVariants.{DataSet, RestartDataSet, Set, AutomaticSubset, ManualSubset}
use Rattle.dms_desc.specs.Shape.{kind_number}

-- each kind has one, above 0
pub above_none : (k : StructureKind) → nat_lt 0 (kind_number k) ≡ true
above_none DataSet = refl
above_none RestartDataSet = refl
above_none Set = refl
above_none AutomaticSubset = refl
above_none ManualSubset = refl

-- and at most 5
pub up_to_five : (k : StructureKind) → nat_lt (kind_number k) 6 ≡ true
up_to_five DataSet = refl
up_to_five RestartDataSet = refl
up_to_five Set = refl
up_to_five AutomaticSubset = refl
up_to_five ManualSubset = refl

-- what is no data set has one above 2
pub above_two : (k : StructureKind) → nat_lt 2 (kind_number k) ≡ not (nat_lt (kind_number k) 3)
above_two DataSet = refl
above_two RestartDataSet = refl
above_two Set = refl
above_two AutomaticSubset = refl
above_two ManualSubset = refl

-- a data set has 1 or 2
pub one_or_two : (k : StructureKind) → nat_lt (kind_number k) 3 ≡ (kind_number k == 1 || kind_number k == 2)
one_or_two DataSet = refl
one_or_two RestartDataSet = refl
one_or_two Set = refl
one_or_two AutomaticSubset = refl
one_or_two ManualSubset = refl
