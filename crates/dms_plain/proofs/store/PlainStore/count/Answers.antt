use Rattle.std.proofs.Common.{List, Some, ◌≡◌, ◌∙◌, ap, sym}
use Rattle.std.specs.Prelude.{length}
use Rattle.dms_desc.specs.declared.record.Record.{Record}
use Rattle.dms_model.specs.Db.{Db, Place, records_of, rows_of}
use Rattle.dms_plain.specs.declared.rows.RecordRow.{RecordRow}
use Rattle.dms_plain.specs.Rows.{db_of, entries_of, records_in}
use Rattle.dms_plain.proofs.Maps.{db_entries}
use Rattle.dms_plain.proofs.store.PlainStore.count.Goals as goal

same_db : (a b : Db) → Some a ≡ Some b → a ≡ b
same_db a b is = cc

pub returns : goal.returns
returns g c db is =
    c.count.ensures
    ∙ ap (λ (rows : List RecordRow). length (rows_of c.args.set (entries_of rows))) c.as_slice.ensures.value
    ∙ ap (λ (es : List (Place × Record)). length (rows_of c.args.set es)) (sym (db_entries c.args.self.now.rows.items c.args.self.now.in_order))
    ∙ ap (λ (d : Db). length (records_of d.records c.args.set)) (same_db (db_of (records_in c.args.self.now.rows.items) c.args.self.now.manual.entries) db is)
