-- What rows answer fits where they do, and they still fit after each call.
use Rattle.std.proofs.Common.{◌≡◌, ℕ, List, [], Some, None, refl, sym, ap, ◌∙◌, subst}
use Rattle.std.specs.Prelude.{IfSome, IfOk, OnOk, OnErr}
use Rattle.std.specs.declared.result.Result.{Result}
use Rattle.std.specs.declared.result.Result.TheVariants.{Ok, Err}
use Rattle.dms_base.specs.declared.Memory.{Memory}
use Rattle.std.specs.declared.option.Option.{Option}
use Rattle.std.specs.FinMap.{get, get-empty, empty}
use Rattle.dms_desc.specs.declared.record.Record.{Record}
use Rattle.dms_desc.specs.Shape.{Described}
use Rattle.dms_model.specs.declared.put.Put.{Put}
use Rattle.dms_model.specs.Db.{Db, Records, SubsetEntry, place_cmp}
use Rattle.dms_model.specs.Fitting.{IsNumber, PlaceFits, PutFits, RecordFits, RecordsFit}
use Rattle.dms_model.specs.FitLaws.{after_fits, answer_fits}
use Rattle.dms_model.specs.Stores.{put_after, put_answer}
use Rattle.dms_plain.specs.declared.rows.RecordRow.{RecordRow}
use Rattle.dms_plain.specs.declared.rows.Undo.{Undo}
use Rattle.dms_plain.proofs.Maps.{no_rows}
use Rattle.dms_plain.specs.Rows.{RowsFit, db_of, records_in, undo_all}

got_at : (desc : Described) (records : Records) (set n : ℕ) (o : Option Record) → get records (set, n) ≡ o → RecordsFit desc records → IfSome o (RecordFits desc set)
got_at desc records set n None at fit = tt
got_at desc records set n (Some r) at fit = (fit (set, n) r at).held

pub got_fits : (desc : Described) (records : Records) (set n : ℕ) → RecordsFit desc records → IfSome (get records (set, n)) (RecordFits desc set)
got_fits desc records set n fit = got_at desc records set n (get records (set, n)) refl fit

pub got_numbered : (desc : Described) (records : Records) (set n : ℕ) → RecordsFit desc records → IfSome (get records (set, n)) (λ r. IsNumber desc set n)
got_numbered desc records set n fit = by (get records (set, n)) refl
  where
    by : (o : Option Record) → get records (set, n) ≡ o → IfSome o (λ r. IsNumber desc set n)
    by None at = tt
    by (Some r) at = (fit (set, n) r at).number

-- ---- what a call leaves fits

pub kept_fit : {T : Type 0} (desc : Described) (rows new : List RecordRow) (undo undo' : List Undo) (r : Result T Memory) → RowsFit desc rows undo → OnOk r (RecordsFit desc (records_in new))
    → OnOk r (undo_all undo' (records_in new) ≡ undo_all undo (records_in rows)) → OnErr r (new ≡ rows) → OnErr r (undo' ≡ undo) → RowsFit desc new undo'
kept_fit desc rows new undo undo' (Ok a) all fit mark same_rows same_undo = record { records = fit; mark = subst (RecordsFit desc) (sym mark) all.mark }
kept_fit desc rows new undo undo' (Err e) all fit mark same_rows same_undo =
    subst (RowsFit desc new) (sym same_undo) (subst (λ (rs : List RecordRow). RowsFit desc rs undo) (sym same_rows) all)

pub put_fit : (desc : Described) (rows new : List RecordRow) (manual : List SubsetEntry) (set : ℕ) (number : Option ℕ) (rec : Record) (r : Result Put Memory) → RecordsFit desc (records_in rows) → RecordFits desc set rec → IfSome number (IsNumber desc set)
    → IfOk r (λ a. a ≡ put_answer desc (db_of (records_in rows) manual) set number rec) → IfOk r (λ a. db_of (records_in new) manual ≡ put_after a desc (db_of (records_in rows) manual) set rec) → OnOk r (RecordsFit desc (records_in new))
put_fit desc rows new manual set number rec (Ok a) fit own named answer db =
    let old = db_of (records_in rows) manual in
    subst (λ (d : Db). RecordsFit desc d.records) (sym db) (after_fits a desc old set rec (subst (PutFits desc set) (sym answer) (answer_fits desc old set number rec named)) fit own)
put_fit desc rows new manual set number rec (Err e) fit own named answer db = tt

pub forgotten : (desc : Described) (rows : List RecordRow) (undo undo' : List Undo) → undo' ≡ [] → RowsFit desc rows undo → RowsFit desc rows undo'
forgotten desc rows undo undo' none all = subst (RowsFit desc rows) (sym none) (record { records = all.records; mark = all.records })

pub taken_back : (desc : Described) (rows new : List RecordRow) (undo undo' : List Undo) → records_in new ≡ undo_all undo (records_in rows) → undo' ≡ [] → RowsFit desc rows undo → RowsFit desc new undo'
taken_back desc rows new undo undo' back none all =
    let now = subst (RecordsFit desc) (sym back) all.mark in
    subst (RowsFit desc new) (sym none) (record { records = now; mark = now })

nothing : (C : Type 0) (records : Records) (place : ℕ × ℕ) (r : Record) → records ≡ empty → get records place ≡ Some r → C
nothing C records place r none at = let gone = ap (λ (m : Records). get m place) none ∙ get-empty {X = Record} place_cmp place in absurd (cc)

pub none_fit : (desc : Described) (records : Records) → records ≡ empty → RecordsFit desc records
none_fit desc records none place r at = nothing (PlaceFits desc place r) records place r none at

pub nothing_fits : (desc : Described) (rows : List RecordRow) (undo : List Undo) → rows ≡ [] → undo ≡ [] → RowsFit desc rows undo
nothing_fits desc rows undo no_rows_are none = record {
  records = none_fit desc (records_in rows) (ap records_in no_rows_are ∙ no_rows);
  mark = none_fit desc (undo_all undo (records_in rows)) ((λ i. undo_all (none i) (records_in (no_rows_are i))) ∙ no_rows);
}
