-- What calls leave of rows and entries is what they leave of their database.
use Rattle.std.proofs.Common.{◌≡◌, ◌∙◌, ℕ, List, Bool, true, false, cond, Some, None, refl, sym, ap}
use Rattle.std.specs.Prelude.{IsTrue, is_some, not}
use Rattle.std.specs.List.{filter}
use Rattle.std.specs.declared.option.Option.{Option}
use Rattle.std.specs.FinMap.{get, insert}
use Rattle.dms_desc.specs.Shape.{Described}
use Rattle.dms_desc.specs.declared.record.Record.{Record}
use Rattle.dms_model.specs.Changing.{Removes}
use Rattle.dms_model.specs.Db.{Db, Place, Records, SubsetEntry}
use Rattle.dms_model.specs.Fitting.{HasRecord}
use Rattle.dms_model.specs.Uses.{after_leave, after_link, after_remove, in_use, is_not_entry, linked_record, linkers}
use Rattle.dms_plain.specs.Linkers.{linkers_in}
use Rattle.dms_plain.specs.Removed.{linked_at, removed_from}
use Rattle.dms_plain.specs.Rows.{IsInOrder, db_of, entries_of, records_in}
use Rattle.dms_plain.specs.declared.rows.RecordRow.{RecordRow}
use Rattle.dms_plain.proofs.Maps.{db_entries}

pub linkers_rows : (desc : Described) (rows : List RecordRow) (manual : List SubsetEntry) (set number : ℕ) → IsInOrder rows → linkers_in desc set number (entries_of rows) ≡ linkers desc (db_of (records_in rows) manual) set number
unfolding linkers
linkers_rows desc rows manual set number order = ap (λ (es : List (Place × Record)). linkers_in desc set number es) (sym (db_entries rows order))

removed_db : (desc : Described) (set number : ℕ) (old new : Records) (manual : List SubsetEntry) (u b : Bool) → b ≡ not u → new ≡ cond b (removed_from desc set number old) old
    → db_of new manual ≡ cond u (db_of old manual) (after_remove desc (db_of old manual) set number)
unfolding after_remove
removed_db desc set number old new manual true b is db = ap (λ (r : Records). db_of r manual) (db ∙ ap (λ x. cond x (removed_from desc set number old) old) is)
removed_db desc set number old new manual false b is db = ap (λ (r : Records). db_of r manual) (db ∙ ap (λ x. cond x (removed_from desc set number old) old) is)

-- a record that isn't in use is removed
pub removes : (desc : Described) (set number : ℕ) (old new : Records) (manual entries : List SubsetEntry) (b : Bool) → entries ≡ manual → b ≡ not (in_use desc (db_of old entries) set number)
    → new ≡ cond b (removed_from desc set number old) old → Removes (Some (db_of old manual)) (Some (db_of new manual)) desc set number b
removes desc set number old new manual entries b same is db has =
    let used = is ∙ ap (λ (es : List SubsetEntry). not (in_use desc (db_of old es) set number)) same in
    (used, ap (λ (d : Db). Some d) (removed_db desc set number old new manual (in_use desc (db_of old manual) set number) b used db))

linked_db : (old new : Records) (manual : List SubsetEntry) (set number item : ℕ) (to : Option ℕ) (o : Option Record) → get old (set, number) ≡ o → IsTrue (is_some o) → new ≡ linked_at o old (set, number) item to
    → db_of new manual ≡ after_link (db_of old manual) set number item to
unfolding after_link
linked_db old new manual set number item to None at has db = absurd (cc)
linked_db old new manual set number item to (Some r) at has db = ap (λ (m : Records). db_of m manual) (db ∙ ap (λ (o : Option Record). linked_some o) (sym at))
  where
    linked_some : Option Record → Records
    linked_some o = insert old (set, number) (linked_record o item to)

-- a link of a record that stands is set
pub links : (old new : Records) (manual : List SubsetEntry) (set number item : ℕ) (to : Option ℕ) → HasRecord (db_of old manual) set number → new ≡ linked_at (get old (set, number)) old (set, number) item to
    → Some (db_of new manual) ≡ Some (after_link (db_of old manual) set number item to)
links old new manual set number item to has db = ap (λ (d : Db). Some d) (linked_db old new manual set number item to (get old (set, number)) refl has db)

-- an entry is taken out
pub leaves : (records : Records) (manual new : List SubsetEntry) (subset owner number : ℕ) → new ≡ filter (is_not_entry subset owner number) manual → Some (db_of records new) ≡ Some (after_leave (db_of records manual) subset owner number)
unfolding after_leave
leaves records manual new subset owner number is = ap (λ (es : List SubsetEntry). Some (db_of records es)) is
