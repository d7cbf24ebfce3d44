use Rattle.std.proofs.Common.{◌≡◌, ◌∙◌, ℕ, List, Bor, Some, sym, ap}
use Rattle.std.specs.Prelude.{◌&&◌, not}
use Rattle.std.specs.Option.{option_copied, option_map}
use Rattle.std.specs.declared.option.Option.{Option}
use Rattle.dms_desc.specs.Lookups.{structure_of}
use Rattle.dms_desc.specs.Shape.{Described, Shape, as_described, shape_of}
use Rattle.dms_desc.specs.declared.structure.Structure.{Structure}
use Rattle.dms_model.specs.Db.{SubsetEntry}
use Rattle.dms_model.specs.Stores.{values_of}
use Rattle.dms_model.specs.Uses.{clashes_for}
use Rattle.dms_plain.specs.Clashes.{clashes_at, refused_by}
use Rattle.dms_plain.specs.Rows.{IsInOrder, db_of, entries_of, records_in}
use Rattle.dms_plain.specs.declared.rows.RecordRow.{RecordRow}
use Rattle.dms_plain.proofs.Maps.{db_entries, db_get}
use Rattle.dms_plain.proofs.entering.refuses.Goals as goal

refused_is : (s : Shape) (rows : List RecordRow) (manual : List SubsetEntry) (owner number : ℕ) → IsInOrder rows
    → refused_by s (entries_of rows) manual owner number ≡ clashes_for (Some s) (db_of (records_in rows) manual) owner number
refused_is s rows manual owner number order =
    λ i. not s.duplicates && clashes_at s manual (Some number) (values_of (sym (db_get rows (s.set, number) order) i)) (sym (db_entries rows order) i) owner

structure_is : (desc : Described) (subset owner number : ℕ) (rows : List RecordRow) (manual : List SubsetEntry) (o : Option Shape) → structure_of desc subset ≡ o
    → clashes_for o (db_of (records_in rows) manual) owner number ≡ clashes_for (structure_of desc subset) (db_of (records_in rows) manual) owner number
structure_is desc subset owner number rows manual o is = ap (λ (x : Option Shape). clashes_for x (db_of (records_in rows) manual) owner number) (sym is)

pub returns-in-Some : goal.returns-in-Some
returns-in-Some c =
    let s = shape_of c.in-Some.s.now in
    let manual = c.args.manual.now.entries in
    let rows = c.args.rows.now in
    c.refuses_by.ensures ∙ refused_is s rows manual c.args.owner c.args.number c.requires
    ∙ structure_is (as_described c.args.desc.now) c.args.subset c.args.owner c.args.number rows manual (Some s) (sym c.structure.ensures ∙ ap (λ (o : Option (Bor Structure)). option_map shape_of (option_copied o)) c.in-Some.is)
