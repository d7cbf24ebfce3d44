use Rattle.std.proofs.Common.{◌≡◌, ◌∙◌, List, Option, ap, sym}
use Rattle.dms_desc.specs.Shape.{as_described}
use Rattle.dms_desc.specs.declared.record.Record.{Record}
use Rattle.dms_model.specs.Db.{Records, Place}
use Rattle.std.specs.FinMap.{insert}
use Rattle.dms_desc.specs.Lookups.{structure_of, items_of}
use Rattle.dms_model.specs.Stores.{judge_put, with_links_of, old_of, record_to_store}
use Rattle.dms_plain.specs.declared.rows.RecordRow.{RecordRow}
use Rattle.dms_plain.specs.Rows.{entries_of, records_in, db_of}
use Rattle.dms_plain.specs.Clashes.{put_in}
use Rattle.dms_plain.proofs.Answering.{put_in_rows}
use Rattle.dms_plain.proofs.Putting.{answers, made_is, replaced}
use Rattle.dms_plain.proofs.state.put.Goals as goal

pub store_row-requires-clause-old : goal.store_row-requires-clause-old
store_row-requires-clause-old c =
    let d = as_described c.args.desc.now in
    let rows = c.args.rows.now.items in
    let manual = c.args.manual.now.entries in
    let db = db_of (records_in rows) manual in
    let old_is : c.in_ok-old.old ≡ old_of db c.args.set c.args.number = c.in_ok-old.ensures manual ∙ ap (λ (rs : List RecordRow). old_of (db_of (records_in rs) manual) c.args.set c.args.number) c.as_slice-3.ensures.value in
    let stored_is : c.in_ok-made.made ≡ record_to_store d db c.args.set c.args.number c.args.rec.now = c.in_ok-made.ensures ∙ ap (λ (o : Option Record). with_links_of (items_of (structure_of d c.args.set)) o c.args.rec.now) old_is in
    let judged_is : c.put_in.result ≡ judge_put d db c.args.set c.args.number c.in_ok-made.made = c.put_in.ensures ∙ ap (λ (rs : List RecordRow). put_in d manual (entries_of rs) c.args.set c.args.number c.in_ok-made.made) c.as_slice-4.ensures.value ∙ put_in_rows d rows manual c.args.set c.args.number c.in_ok-made.made c.requires.in_order in
    old_is ∙ replaced d db c.args.set c.in-Stored.found c.args.number c.in_ok-made.made (sym judged_is ∙ c.in-Stored.is)

pub returns-in_ok-store_row-in-Stored-clause-answer : goal.returns-in_ok-store_row-in-Stored-clause-answer
returns-in_ok-store_row-in-Stored-clause-answer c =
    let d = as_described c.args.desc.now in
    let rows = c.args.rows.now.items in
    let manual = c.args.manual.now.entries in
    let db = db_of (records_in rows) manual in
    let old_is : c.in_ok-old.old ≡ old_of db c.args.set c.args.number = c.in_ok-old.ensures manual ∙ ap (λ (rs : List RecordRow). old_of (db_of (records_in rs) manual) c.args.set c.args.number) c.as_slice-3.ensures.value in
    let stored_is : c.in_ok-made.made ≡ record_to_store d db c.args.set c.args.number c.args.rec.now = c.in_ok-made.ensures ∙ ap (λ (o : Option Record). with_links_of (items_of (structure_of d c.args.set)) o c.args.rec.now) old_is in
    let judged_is : c.put_in.result ≡ judge_put d db c.args.set c.args.number c.in_ok-made.made = c.put_in.ensures ∙ ap (λ (rs : List RecordRow). put_in d manual (entries_of rs) c.args.set c.args.number c.in_ok-made.made) c.as_slice-4.ensures.value ∙ put_in_rows d rows manual c.args.set c.args.number c.in_ok-made.made c.requires.in_order in
    sym c.in-Stored.is ∙ judged_is ∙ answers d db c.args.set c.args.number c.args.rec.now c.in_ok-made.made stored_is

pub returns-in-Duplicate-clause-answer : goal.returns-in-Duplicate-clause-answer
returns-in-Duplicate-clause-answer c =
    let d = as_described c.args.desc.now in
    let rows = c.args.rows.now.items in
    let manual = c.args.manual.now.entries in
    let db = db_of (records_in rows) manual in
    let old_is : c.in_ok-old.old ≡ old_of db c.args.set c.args.number = c.in_ok-old.ensures manual ∙ ap (λ (rs : List RecordRow). old_of (db_of (records_in rs) manual) c.args.set c.args.number) c.as_slice-3.ensures.value in
    let stored_is : c.in_ok-made.made ≡ record_to_store d db c.args.set c.args.number c.args.rec.now = c.in_ok-made.ensures ∙ ap (λ (o : Option Record). with_links_of (items_of (structure_of d c.args.set)) o c.args.rec.now) old_is in
    let judged_is : c.put_in.result ≡ judge_put d db c.args.set c.args.number c.in_ok-made.made = c.put_in.ensures ∙ ap (λ (rs : List RecordRow). put_in d manual (entries_of rs) c.args.set c.args.number c.in_ok-made.made) c.as_slice-4.ensures.value ∙ put_in_rows d rows manual c.args.set c.args.number c.in_ok-made.made c.requires.in_order in
    sym c.in-Duplicate.is ∙ judged_is ∙ answers d db c.args.set c.args.number c.args.rec.now c.in_ok-made.made stored_is

pub returns-in-Full-clause-answer : goal.returns-in-Full-clause-answer
returns-in-Full-clause-answer c =
    let d = as_described c.args.desc.now in
    let rows = c.args.rows.now.items in
    let manual = c.args.manual.now.entries in
    let db = db_of (records_in rows) manual in
    let old_is : c.in_ok-old.old ≡ old_of db c.args.set c.args.number = c.in_ok-old.ensures manual ∙ ap (λ (rs : List RecordRow). old_of (db_of (records_in rs) manual) c.args.set c.args.number) c.as_slice-3.ensures.value in
    let stored_is : c.in_ok-made.made ≡ record_to_store d db c.args.set c.args.number c.args.rec.now = c.in_ok-made.ensures ∙ ap (λ (o : Option Record). with_links_of (items_of (structure_of d c.args.set)) o c.args.rec.now) old_is in
    let judged_is : c.put_in.result ≡ judge_put d db c.args.set c.args.number c.in_ok-made.made = c.put_in.ensures ∙ ap (λ (rs : List RecordRow). put_in d manual (entries_of rs) c.args.set c.args.number c.in_ok-made.made) c.as_slice-4.ensures.value ∙ put_in_rows d rows manual c.args.set c.args.number c.in_ok-made.made c.requires.in_order in
    sym c.in-Full.is ∙ judged_is ∙ answers d db c.args.set c.args.number c.args.rec.now c.in_ok-made.made stored_is

pub returns-in_ok-store_row-in-Stored-clause-db : goal.returns-in_ok-store_row-in-Stored-clause-db
returns-in_ok-store_row-in-Stored-clause-db c =
    let d = as_described c.args.desc.now in
    let rows = c.args.rows.now.items in
    let manual = c.args.manual.now.entries in
    let db = db_of (records_in rows) manual in
    let old_is : c.in_ok-old.old ≡ old_of db c.args.set c.args.number = c.in_ok-old.ensures manual ∙ ap (λ (rs : List RecordRow). old_of (db_of (records_in rs) manual) c.args.set c.args.number) c.as_slice-3.ensures.value in
    let stored_is : c.in_ok-made.made ≡ record_to_store d db c.args.set c.args.number c.args.rec.now = c.in_ok-made.ensures ∙ ap (λ (o : Option Record). with_links_of (items_of (structure_of d c.args.set)) o c.args.rec.now) old_is in
    let judged_is : c.put_in.result ≡ judge_put d db c.args.set c.args.number c.in_ok-made.made = c.put_in.ensures ∙ ap (λ (rs : List RecordRow). put_in d manual (entries_of rs) c.args.set c.args.number c.in_ok-made.made) c.as_slice-4.ensures.value ∙ put_in_rows d rows manual c.args.set c.args.number c.in_ok-made.made c.requires.in_order in
    let k : Place = (c.args.set, c.in-Stored.found) in
    ap (λ (rs : Records). db_of rs manual) (c.in_ok-store_row-in-Stored.ensures.db ∙ ap (λ (r : Record). insert (records_in rows) k r) (made_is d db c.args.set c.in-Stored.found c.args.number c.args.rec.now c.in_ok-made.made stored_is (sym judged_is ∙ c.in-Stored.is)))
