-- A data set by its kind.
use Rattle.std.proofs.Common.{◌≡◌, refl, Some}
use Rattle.std.specs.Prelude.{◌&&◌, nat_lt}
use Rattle.dms_base.specs.declared.kind.StructureKind.{StructureKind}
use Rattle.dms_base.specs.declared.kind.StructureKind.TheVariants.{DataSet, RestartDataSet, Set, AutomaticSubset, ManualSubset}
use Rattle.dms_desc.specs.Kinds.{is_data_set as is_of_records}
use Rattle.dms_desc.specs.Shape.{kind_number, shape_of}
use Rattle.dms_desc.specs.declared.structure.Structure.{Structure}
use Rattle.dms_model.specs.Valid.{is_data_set}

kind_same : (k : StructureKind) → nat_lt (kind_number k) 3 ≡ (nat_lt 0 (kind_number k) && nat_lt (kind_number k) 3)
kind_same DataSet = refl
kind_same RestartDataSet = refl
kind_same Set = refl
kind_same AutomaticSubset = refl
kind_same ManualSubset = refl

pub data_set_is : (s : Structure) → is_of_records (shape_of s) ≡ is_data_set (Some (shape_of s))
data_set_is s = kind_same s.kind
