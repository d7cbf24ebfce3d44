-- That the records of rows fit, and that lists are theirs, are facts, of which there is one proof each at most.
use Rattle.std.proofs.Common.{List}
use Rattle.std.specs.List.Sorted.{IsStrictlySortedBy-prop}
use Rattle.std.proofs.Props.{props}
use Rattle.dms_desc.specs.Shape.{Described, Shape}
use Rattle.dms_model.specs.Db.{Records}
use Rattle.dms_model.specs.Props.{ArePlain-prop}
use Rattle.dms_plain.specs.declared.rows.RecordRow.{RecordRow}
use Rattle.dms_plain.specs.declared.rows.Undo.{Undo}
use Rattle.dms_plain.specs.declared.member.Member.{Member}
use Rattle.dms_plain.specs.Listed.{AreLists}
use Rattle.dms_plain.specs.Rows.{RowsFit}

pub RowsFit-prop : (desc : Described) (rows : List RecordRow) (undo : List Undo) → IsProp (RowsFit desc rows undo)
RowsFit-prop desc rows undo = hlevel (props, ArePlain-prop)

pub AreLists-prop : (ss : List Shape) (ls : List (List Member)) (records : Records) → IsProp (AreLists ss ls records)
AreLists-prop ss ls records = hlevel (props, IsStrictlySortedBy-prop)
