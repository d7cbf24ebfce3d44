-- Rows of which a record was taken out, and what stood at the places that it changed.
use Rattle.std.proofs.Common.{◌≡◌, ◌∙◌, ℕ, List, [], ◌∷◌, ◌++◌, Bool, true, false, cond, Some, None, refl, sym, ap, subst, map}
use Rattle.std.specs.Prelude.{T, ◌&&◌, ◌||◌}
use Rattle.std.specs.declared.option.Option.{Option}
use Rattle.std.specs.FinMap.{entries, from_sorted, get, get-insert, get-remove, is_sorted, remove, same_map}
use Rattle.std.specs.FinMap.Entries.{below_all}
use Rattle.std.specs.Ordering.{eq_by_cmp, is_lt}
use Rattle.dms_desc.specs.Shape.{Described}
use Rattle.dms_desc.specs.declared.record.Record.{Record}
use Rattle.dms_links.specs.Cleared.{cleared_all, cleared_get, corrected_opt, is_place_of}
use Rattle.dms_model.specs.Db.{Place, Records, place_cmp}
use Rattle.dms_model.specs.Places.{place_is, places_same, places_total}
use Rattle.dms_model.specs.Uses.{corrected_entry, linkers}
use Rattle.dms_plain.specs.Linkers.{linkers_in}
use Rattle.dms_plain.specs.Removed.{kept_at, removed_from}
use Rattle.dms_plain.specs.Rows.{IsInOrder, db_of, entries_of, records_in, restore, undo_all}
use Rattle.dms_plain.specs.declared.rows.RecordRow.{RecordRow}
use Rattle.dms_plain.specs.declared.rows.Undo.{Undo}
use Rattle.dms_plain.proofs.Maps.{db_entries}

-- ---- corrected rows

module _ (desc : Described) (set number : ℕ) where
  below_same : (p : Place) (es : List (Place × Record)) → below_all place_cmp p (map (corrected_entry desc set number) es) ≡ below_all place_cmp p es
  below_same p [] = refl
  below_same p (e ∷ es) = ap (λ b. is_lt (place_cmp p e.0) && b) (below_same p es)

  sorted_same : (es : List (Place × Record)) → is_sorted place_cmp (map (corrected_entry desc set number) es) ≡ is_sorted place_cmp es
  sorted_same [] = refl
  sorted_same (e ∷ es) = λ i. below_same e.0 es i && sorted_same es i

  pub in_order_corrected : (rows new : List RecordRow) → IsInOrder rows → entries_of new ≡ map (corrected_entry desc set number) (entries_of rows) → IsInOrder new
  in_order_corrected rows new order is = subst T (sym (ap (is_sorted place_cmp) is ∙ sorted_same (entries_of rows))) order

  pub taken_out : (rows one new : List RecordRow) → IsInOrder rows → entries_of one ≡ map (corrected_entry desc set number) (entries_of rows) → records_in new ≡ remove (records_in one) (set, number)
      → records_in new ≡ removed_from desc set number (records_in rows)
  taken_out rows one new order is left =
      left ∙ ap (λ (es : List (Place × Record)). remove (from_sorted {R = place_cmp} es) (set, number))
      (is ∙ ap (λ (es : List (Place × Record)). map (corrected_entry desc set number) es) (sym (db_entries rows order)))

-- ---- what stood at places is put back

pub restore_get : (p : Place) (o : Option Record) (m : Records) (q : Place) → get (restore p o m) q ≡ cond (eq_by_cmp place_cmp q p) o (get m q)
restore_get p None m q = get-remove places_total m p q
restore_get p (Some r) m q = get-insert places_total m p r q

undone_get : (ps : List Place) (m after : Records) (q : Place) → get (undo_all (map (kept_at m) ps) after) q ≡ cond (is_place_of q ps) (get m q) (get after q)
undone_get [] m after q = refl
undone_get (p ∷ ps) m after q =
    restore_get p (get m p) (undo_all (map (kept_at m) ps) after) q
    ∙ ap (cond (eq_by_cmp place_cmp q p) (get m p)) (undone_get ps m after q)
    ∙ by (eq_by_cmp place_cmp q p) refl
  where
    by : (b : Bool) → eq_by_cmp place_cmp q p ≡ b → cond b (get m p) (cond (is_place_of q ps) (get m q) (get after q)) ≡ cond (b || is_place_of q ps) (get m q) (get after q)
    by true is = ap (get m) (sym (place_is q p is))
    by false is = refl

pub undone_kept : (ps : List Place) (m after : Records) → ((q : Place) → is_place_of q ps ≡ false → get after q ≡ get m q) → undo_all (map (kept_at m) ps) after ≡ m
undone_kept ps m after other = same_map places_total places_same _ _ (λ q. undone_get ps m after q ∙ by q (is_place_of q ps) refl)
  where
    by : (q : Place) (b : Bool) → is_place_of q ps ≡ b → cond b (get m q) (get after q) ≡ get m q
    by q true is = refl
    by q false is = other q is

undone_append : (us vs : List Undo) (m : Records) → undo_all (us ++ vs) m ≡ undo_all us (undo_all vs m)
undone_append [] vs m = refl
undone_append (u ∷ us) vs m = ap (restore (u.set, u.number) u.old) (undone_append us vs m)

none_of_both : (q p : Place) (ps : List Place) → is_place_of q (ps ++ p ∷ []) ≡ false → (is_place_of q ps ≡ false) × (eq_by_cmp place_cmp q p ≡ false)
none_of_both q p [] h = (refl, off (eq_by_cmp place_cmp q p) h)
  where
    off : (b : Bool) → (b || false) ≡ false → b ≡ false
    off true k = absurd (cc)
    off false k = refl
none_of_both q p (x ∷ ps) h = by (eq_by_cmp place_cmp q x) h (none_of_both q p ps)
  where
    by : (b : Bool) → (b || is_place_of q (ps ++ p ∷ [])) ≡ false → (is_place_of q (ps ++ p ∷ []) ≡ false → (is_place_of q ps ≡ false) × (eq_by_cmp place_cmp q p ≡ false))
        → ((b || is_place_of q ps) ≡ false) × (eq_by_cmp place_cmp q p ≡ false)
    by true k rest = absurd (cc)
    by false k rest = rest k

-- at another place than that of a record and those of its linkers its removal leaves what stood there
pub removed_other : (desc : Described) (set number : ℕ) (m : Records) (q : Place) → is_place_of q (linkers_in desc set number (entries m) ++ (set, number) ∷ []) ≡ false → get (removed_from desc set number m) q ≡ get m q
unfolding linkers
removed_other desc set number m q off =
    let both = none_of_both q (set, number) (linkers_in desc set number (entries m)) off in
    let corrected = from_sorted {R = place_cmp} (map (corrected_entry desc set number) (entries m)) in
    get-remove places_total corrected (set, number) q
    ∙ ap (λ b. cond b None (get corrected q)) both.1
    ∙ ap (λ (r : Records). get r q) (cleared_all desc set number (db_of m []))
    ∙ cleared_get desc set number (linkers_in desc set number (entries m)) m q
    ∙ ap (λ b. cond b (corrected_opt desc set number q (get m q)) (get m q)) both.0

-- so what a removal changed is taken back
pub removal_undone : (desc : Described) (set number : ℕ) (rows : List RecordRow) (us kept all : List Undo) (places : List Place) (after : Records) → IsInOrder rows
    → places ≡ linkers_in desc set number (entries_of rows) ++ (set, number) ∷ [] → kept ≡ map (kept_at (records_in rows)) places → all ≡ us ++ kept → after ≡ removed_from desc set number (records_in rows)
    → undo_all all after ≡ undo_all us (records_in rows)
removal_undone desc set number rows us kept all places after order at is more left =
    let m = records_in rows in
    let mine : places ≡ linkers_in desc set number (entries m) ++ (set, number) ∷ [] = at ∙ ap (λ (es : List (Place × Record)). linkers_in desc set number es ++ (set, number) ∷ []) (sym (db_entries rows order)) in
    (λ i. undo_all (more i) (left i)) ∙ undone_append us kept (removed_from desc set number m)
    ∙ ap (undo_all us) (ap (λ (vs : List Undo). undo_all vs (removed_from desc set number m)) is
    ∙ undone_kept places m (removed_from desc set number m) (λ q off. removed_other desc set number m q (ap (is_place_of q) (sym mine) ∙ off)))
