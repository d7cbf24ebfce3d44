use Rattle.std.proofs.Common.{◌≡◌, ◌∙◌, ℕ, List, sym, ap}
use Rattle.std.specs.Prelude.{◌||◌}
use Rattle.dms_desc.specs.declared.record.Record.{Record}
use Rattle.dms_desc.specs.Shape.{Described, as_described}
use Rattle.dms_model.specs.Db.{Place, SubsetEntry}
use Rattle.dms_model.specs.Uses.{in_use}
use Rattle.dms_plain.specs.Linkers.{is_named_in, is_owner_in}
use Rattle.dms_plain.specs.Rows.{IsInOrder, db_of, entries_of, records_in}
use Rattle.dms_plain.specs.declared.rows.RecordRow.{RecordRow}
use Rattle.dms_plain.proofs.Maps.{db_entries}
use Rattle.dms_plain.proofs.uses.in_use.Goals as goal

in_use_rows : (desc : Described) (rows : List RecordRow) (manual : List SubsetEntry) (set number : ℕ) → IsInOrder rows
    → (is_named_in desc (entries_of rows) manual set number || is_owner_in desc (entries_of rows) manual set number) ≡ in_use desc (db_of (records_in rows) manual) set number
unfolding in_use
in_use_rows desc rows manual set number order =
    ap (λ (es : List (Place × Record)). is_named_in desc es manual set number || is_owner_in desc es manual set number) (sym (db_entries rows order))

pub returns : goal.returns
returns c = c.is_named_or_owner.ensures ∙ in_use_rows (as_described c.args.desc.now) c.args.rows.now c.args.entries.now c.args.set c.args.number c.requires
