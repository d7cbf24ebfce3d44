use Rattle.std.proofs.Common.{◌≡◌, List, [], ◌∷◌, ◌++◌, Bool, true, false, cond, Some, None, refl, sym, ap, ◌∙◌, subst, length}
use Rattle.std.specs.Prelude.{T, not}
use Rattle.std.specs.List.{filter}
use Rattle.std.specs.declared.option.Option.{Option}
use Rattle.std.specs.FinMap.{put, find, is_sorted, insert, entries, entries-insert, entries-from_sorted, entries_sorted, same_entries_map, get, remove, get-remove, get-insert, get-entries, get_tied, same_map, empty, empty_of_len, len-entries}
use Rattle.std.specs.Ordering.{eq_by_cmp, is_eq}
use Rattle.std.specs.declared.cmp.Ordering.{Ordering}
use Rattle.std.specs.FinMap.Entries.{is_sorted-where_key, find-where_key}
use Rattle.std.proofs.lemmas.Cmp.{alike_right, eq_by_cmp_equiv}
use Rattle.dms_desc.specs.declared.record.Record.{Record}
use Rattle.dms_model.specs.Db.{Records, Place, place_cmp}
use Rattle.dms_model.specs.Places.{places_same, places_total, equal_of_tie}
use Rattle.dms_plain.specs.declared.rows.RecordRow.{RecordRow}
use Rattle.dms_plain.specs.declared.rows.Undo.{Undo}
use Rattle.dms_plain.specs.Rows.{entries_of, records_in, IsInOrder, restore, undo_all}

-- the entries of the database of rows in order are theirs
pub db_entries : (rows : List RecordRow) → IsInOrder rows → entries (records_in rows) ≡ entries_of rows
db_entries rows order = entries-from_sorted place_cmp (entries_of rows) order

pub db_get : (rows : List RecordRow) (k : Place) → IsInOrder rows → get (records_in rows) k ≡ find place_cmp k (entries_of rows)
db_get rows k order = get-entries (records_in rows) k ∙ ap (find place_cmp k) (db_entries rows order)

entries_added : (rows new : List RecordRow) (k : Place) (v : Record) → IsInOrder rows → entries_of new ≡ put place_cmp k v (entries_of rows) → entries (insert (records_in rows) k v) ≡ entries_of new
entries_added rows new k v order is =
    entries-insert places_total (records_in rows) k v ∙ ap (λ (es : List (Place × Record)). put place_cmp k v es) (db_entries rows order) ∙ sym is

-- rows with one more in its place are in order
pub in_order_added : (rows new : List RecordRow) (k : Place) (v : Record) → IsInOrder rows → entries_of new ≡ put place_cmp k v (entries_of rows) → IsInOrder new
in_order_added rows new k v order is =
    subst (λ (es : List (Place × Record)). T (is_sorted place_cmp es)) (entries_added rows new k v order is) (entries_sorted (insert (records_in rows) k v))

-- and they are the database with one more
pub db_added : (rows new : List RecordRow) (k : Place) (v : Record) → IsInOrder rows → entries_of new ≡ put place_cmp k v (entries_of rows) → records_in new ≡ insert (records_in rows) k v
db_added rows new k v order is =
    same_entries_map _ _ (db_entries new (in_order_added rows new k v order is) ∙ sym (entries_added rows new k v order is))

abbrev stays : Place → Place → Bool
stays k x = not (eq_by_cmp place_cmp k x)

pub in_order_left : (rows new : List RecordRow) (k : Place) → IsInOrder rows → entries_of new ≡ filter (λ e. not (eq_by_cmp place_cmp k e.0)) (entries_of rows) → IsInOrder new
in_order_left rows new k order is =
    subst (λ (es : List (Place × Record)). T (is_sorted place_cmp es)) (sym is) (is_sorted-where_key place_cmp (stays k) (entries_of rows) order)

swapped : (b : Bool) (x : Option Record) → cond (not b) x None ≡ cond b None x
swapped true x = refl
swapped false x = refl

pub db_left : (rows new : List RecordRow) (k : Place) → IsInOrder rows → entries_of new ≡ filter (λ e. not (eq_by_cmp place_cmp k e.0)) (entries_of rows) → records_in new ≡ remove (records_in rows) k
db_left rows new k order is =
    same_map places_total places_same _ _ (λ q.
    db_get new q (in_order_left rows new k order is)
    ∙ ap (find place_cmp q) is
    ∙ find-where_key place_cmp (stays k) q (λ x t. ap (λ (r : Ordering). not (is_eq r)) (sym (alike_right places_total q x k t))) (entries_of rows)
    ∙ swapped (eq_by_cmp place_cmp k q) (find place_cmp q (entries_of rows))
    ∙ ap (λ (b : Bool). cond b None (find place_cmp q (entries_of rows))) ((eq_by_cmp_equiv places_total).symm k q)
    ∙ ap (cond (eq_by_cmp place_cmp q k) None) (sym (db_get rows q order))
    ∙ sym (get-remove places_total (records_in rows) k q))

removed_at : (m : Records) (k q : Place) (v : Record) (t : Bool) → eq_by_cmp place_cmp q k ≡ t → get m k ≡ None → cond t None (cond t (Some v) (get m q)) ≡ get m q
removed_at m k q v true e none = sym none ∙ get_tied places_total m q k (equal_of_tie (place_cmp q k) e)
removed_at m k q v false e none = refl

put_back_at : (m : Records) (k q : Place) (v old : Record) (t : Bool) → eq_by_cmp place_cmp q k ≡ t → get m k ≡ Some old → cond t (Some old) (cond t (Some v) (get m q)) ≡ get m q
put_back_at m k q v old true e was = sym was ∙ get_tied places_total m q k (equal_of_tie (place_cmp q k) e)
put_back_at m k q v old false e was = refl

-- a change of a place that is taken back leaves the database as it was
pub restore-insert : (m : Records) (k : Place) (v : Record) (old : Option Record) → get m k ≡ old → restore k old (insert m k v) ≡ m
restore-insert m k v None was =
    same_map places_total places_same _ _ (λ q.
    get-remove places_total (insert m k v) k q
    ∙ ap (cond (eq_by_cmp place_cmp q k) None) (get-insert places_total m k v q)
    ∙ removed_at m k q v (eq_by_cmp place_cmp q k) refl was)
restore-insert m k v (Some old) was =
    same_map places_total places_same _ _ (λ q.
    get-insert places_total (insert m k v) k old q
    ∙ ap (cond (eq_by_cmp place_cmp q k) (Some old)) (get-insert places_total m k v q)
    ∙ put_back_at m k q v old (eq_by_cmp place_cmp q k) refl was)

-- the newest change is taken back first
pub undone-push : (us : List Undo) (u : Undo) (db : Records) → undo_all (us ++ u ∷ []) db ≡ undo_all us (restore (u.set, u.number) u.old db)
undone-push [] u db = refl
undone-push (w ∷ us) u db = ap (restore (w.set, w.number) w.old) (undone-push us u db)

pub no_rows : records_in [] ≡ empty
no_rows = empty_of_len (records_in []) (len-entries (records_in []) ∙ ap length (db_entries [] tt))
