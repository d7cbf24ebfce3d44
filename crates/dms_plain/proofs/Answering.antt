-- What putting a record answers over rows is what it answers over their database.
use Rattle.std.proofs.Common.{◌≡◌, ℕ, List, [], ◌∷◌, cond, Some, None, refl, sym, ap, ◌∙◌}
use Rattle.std.specs.declared.option.Option.{Option}
use Rattle.std.specs.FinMap.{entries}
use Rattle.dms_desc.specs.declared.record.Record.{Record}
use Rattle.dms_desc.specs.Shape.{Shape, Described}
use Rattle.dms_model.specs.Db.{Records, Place, SubsetEntry}
use Rattle.dms_model.specs.Stores.{clash, judge_put, put_number, put_unless}
use Rattle.dms_plain.specs.declared.rows.RecordRow.{RecordRow}
use Rattle.dms_plain.specs.Rows.{entries_of, records_in, db_of, IsInOrder}
use Rattle.dms_plain.specs.Clashes.{clash_in, clashes_with, number_in, put_in}
use Rattle.dms_plain.proofs.Maps.{db_entries}

clash_same : (shapes : List Shape) (records : Records) (manual : List SubsetEntry) (set : ℕ) (number : Option ℕ) (rec : Record) → clash_in shapes manual (entries records) set number rec ≡ clash shapes (db_of records manual) set number rec
clash_same [] records manual set number rec = refl
clash_same (s ∷ ss) records manual set number rec = ap (λ (o : Option ℕ). cond (clashes_with s manual (entries records) set number rec) (Some s.number) o) (clash_same ss records manual set number rec)

number_same : (desc : Described) (records : Records) (manual : List SubsetEntry) (set : ℕ) (number : Option ℕ) → number_in desc (entries records) set number ≡ put_number desc (db_of records manual) set number
number_same desc records manual set None = refl
number_same desc records manual set (Some n) = refl

put_same : (desc : Described) (records : Records) (manual : List SubsetEntry) (set : ℕ) (number : Option ℕ) (rec : Record) → put_in desc manual (entries records) set number rec ≡ judge_put desc (db_of records manual) set number rec
put_same desc records manual set number rec = λ i. put_unless (clash_same desc.structures records manual set number rec i) (number_same desc records manual set number i)

pub put_in_rows : (desc : Described) (rows : List RecordRow) (manual : List SubsetEntry) (set : ℕ) (number : Option ℕ) (rec : Record) → IsInOrder rows → put_in desc manual (entries_of rows) set number rec ≡ judge_put desc (db_of (records_in rows) manual) set number rec
put_in_rows desc rows manual set number rec order =
    ap (λ (es : List (Place × Record)). put_in desc manual es set number rec) (sym (db_entries rows order)) ∙ put_same desc (records_in rows) manual set number rec
