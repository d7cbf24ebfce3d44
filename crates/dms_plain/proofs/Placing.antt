use Rattle.std.proofs.Common.{◌≡◌, ◌+◌, ◌<◌, ℕ, zero, suc, List, [], ◌∷◌, ◌++◌, Bool, true, false, cond, refl, sym, ap, subst, ◌∙◌, arith, length, get_or, take, drop, add-one}
use Rattle.std.specs.Prelude.{insert, slice_set, slice_index_or}
use Rattle.std.specs.FinMap.{put, find}
use Rattle.std.specs.List.{filter, drop-map}
use Rattle.std.specs.declared.cmp.Ordering.TheVariants.{Less, Equal, Greater}
use Rattle.std.proofs.lemmas.List.{get_or_default, drop_more, drop_all, map-append, take-map, map-set}
use Rattle.dms_desc.specs.declared.record.Record.{Record}
use Rattle.dms_plain.specs.declared.rows.RecordRow.{RecordRow}
use Rattle.dms_plain.specs.Rows.{entry_of, entries_of}
use Rattle.dms_model.specs.Db.{Place, place_cmp}

put_less : (k : Place) (v : Record) (e : Place × Record) (es : List (Place × Record)) → place_cmp k e.0 ≡ Less → put place_cmp k v (e ∷ es) ≡ (k, v) ∷ e ∷ es
put_less k v e es h = rw h refl

put_equal : (k : Place) (v : Record) (e : Place × Record) (es : List (Place × Record)) → place_cmp k e.0 ≡ Equal → put place_cmp k v (e ∷ es) ≡ (e.0, v) ∷ es
put_equal k v e es h = rw h refl

pub put_greater : (k : Place) (v : Record) (e : Place × Record) (es : List (Place × Record)) → place_cmp k e.0 ≡ Greater → put place_cmp k v (e ∷ es) ≡ e ∷ put place_cmp k v es
put_greater k v e es h = rw h refl

pub get_row : (rows : List RecordRow) (i : ℕ) (x : RecordRow) → get_or (entries_of rows) i (entry_of x) ≡ entry_of (get_or rows i x)
get_row [] i x = refl
get_row (r ∷ rs) zero x = refl
get_row (r ∷ rs) (suc i) x = get_row rs i x

pub length_rows : (rows : List RecordRow) → length (entries_of rows) ≡ length rows
length_rows [] = refl
length_rows (r ∷ rs) = ap suc (length_rows rs)

-- the entry of this turn
pub at_row : (rows : List RecordRow) (i : ℕ) (x : RecordRow) → i < length rows → x ≡ get_or rows i x → drop i (entries_of rows) ≡ entry_of x ∷ drop (i + 1) (entries_of rows)
at_row rows i x lt is =
    drop_more (entries_of rows) i (entry_of x) (omega (arith, length_rows rows))
    ∙ ap (λ (e : Place × Record). e ∷ drop (i + 1) (entries_of rows)) (get_row rows i x ∙ ap entry_of (sym is))

set_splits : (es : List (Place × Record)) (i : ℕ) (d : Place × Record) (v : Record) → i < length es → take i es ++ ((slice_index_or es i d).0, v) ∷ drop (suc i) es ≡ slice_set es i ((slice_index_or es i d).0, v)
set_splits [] i d v lt = absurd (omega arith)
set_splits (e ∷ es) zero d v lt = refl
set_splits (e ∷ es) (suc i) d v lt = ap (λ (xs : List (Place × Record)). e ∷ xs) (set_splits es i d v (omega arith))

-- what is known at a place of the entries
pub record IsPastPlace (k : Place) (i : ℕ) (es : List (Place × Record)) : Type 0 where
  pub split : (v : Record) → put place_cmp k v es ≡ take i es ++ put place_cmp k v (drop i es)
  pub found : find place_cmp k es ≡ find place_cmp k (drop i es)

pub IsPastPlace-here : (k : Place) (i : ℕ) (rows : List RecordRow) (x : RecordRow) → IsPastPlace k i (entries_of rows) → i < length rows → x ≡ get_or rows i x → place_cmp k (x.set, x.number) ≡ Less
    → (v : Record) → put place_cmp k v (entries_of rows) ≡ insert (entries_of rows) i (k, v)
IsPastPlace-here k i rows x past lt is less v =
    let at = at_row rows i x lt is in
    past.split v ∙ ap (λ (es : List (Place × Record)). take i (entries_of rows) ++ es)
    (ap (put place_cmp k v) at ∙ put_less k v (entry_of x) (drop (i + 1) (entries_of rows)) less ∙ ap (λ (es : List (Place × Record)). (k, v) ∷ es) (sym at))

pub IsPastPlace-at : (k : Place) (i : ℕ) (rows : List RecordRow) (x : RecordRow) → IsPastPlace k i (entries_of rows) → i < length rows → x ≡ get_or rows i x → place_cmp k (x.set, x.number) ≡ Equal
    → (v : Record) (d : Place × Record) → put place_cmp k v (entries_of rows) ≡ slice_set (entries_of rows) i ((slice_index_or (entries_of rows) i d).0, v)
IsPastPlace-at k i rows x past lt is tie v d =
    let at = at_row rows i x lt is in
    let here : slice_index_or (entries_of rows) i d ≡ entry_of x = get_or_default (entries_of rows) i d (entry_of x) (omega (arith, length_rows rows)) ∙ get_row rows i x ∙ ap entry_of (sym is) in
    past.split v ∙ ap (λ (es : List (Place × Record)). take i (entries_of rows) ++ es)
    (ap (put place_cmp k v) at ∙ put_equal k v (entry_of x) (drop (i + 1) (entries_of rows)) tie)
    ∙ ap (λ (e : Place × Record). take i (entries_of rows) ++ (e.0, v) ∷ drop (i + 1) (entries_of rows)) (sym here)
    ∙ ap (λ (n : ℕ). take i (entries_of rows) ++ ((slice_index_or (entries_of rows) i d).0, v) ∷ drop n (entries_of rows)) (add-one i)
    ∙ set_splits (entries_of rows) i d v (omega (arith, length_rows rows))

pub IsPastPlace-end : (k : Place) (i : ℕ) (rows : List RecordRow) → IsPastPlace k i (entries_of rows) → i ≡ length rows → (v : Record) → put place_cmp k v (entries_of rows) ≡ insert (entries_of rows) i (k, v)
IsPastPlace-end k i rows past is v =
    let none : drop i (entries_of rows) ≡ [] = drop_all i (entries_of rows) (omega (arith, length_rows rows)) in
    past.split v ∙ ap (λ (es : List (Place × Record)). take i (entries_of rows) ++ put place_cmp k v es) none
    ∙ ap (λ (es : List (Place × Record)). take i (entries_of rows) ++ (k, v) ∷ es) (sym none)

-- the entries of rows with one more
pub entries_of-insert : (rows : List RecordRow) (i : ℕ) (x : RecordRow) → entries_of (insert rows i x) ≡ insert (entries_of rows) i (entry_of x)
entries_of-insert rows i x =
    map-append entry_of (take i rows) (x ∷ drop i rows)
    ∙ ap (λ (es : List (Place × Record)). es ++ entry_of x ∷ entries_of (drop i rows)) (sym (take-map entry_of i rows))
    ∙ ap (λ (es : List (Place × Record)). take i (entries_of rows) ++ entry_of x ∷ es) (sym (drop-map entry_of i rows))

-- the entries of the rows that pass a test of their places
pub entries_of-filter : (test : Place → Bool) (rows : List RecordRow) → entries_of (filter (λ r. test (r.set, r.number)) rows) ≡ filter (λ e. test e.0) (entries_of rows)
entries_of-filter test [] = refl
entries_of-filter test (r ∷ rs) =
    elim (test (r.set, r.number)) as (λ b. entries_of (cond b (r ∷ filter (λ x. test (x.set, x.number)) rs) (filter (λ x. test (x.set, x.number)) rs)) ≡ cond b (entry_of r ∷ filter (λ e. test e.0) (entries_of rs)) (filter (λ e. test e.0) (entries_of rs))) [
      | true ↦ ap (λ (es : List (Place × Record)). entry_of r ∷ es) (entries_of-filter test rs)
      | false ↦ entries_of-filter test rs
    ]

pub replaced : (items items' : List RecordRow) (i : ℕ) (r : RecordRow) (k : Place) (v : Record) → items' ≡ items → r ≡ get_or items i r
    → ((x : Record) (d : Place × Record) → put place_cmp k x (entries_of items') ≡ slice_set (entries_of items') i ((slice_index_or (entries_of items') i d).0, x))
    → entries_of (slice_set items i (record { set = r.set; number = r.number; rec = v })) ≡ put place_cmp k v (entries_of items)
replaced items items' i r k v same at told =
    let told' = subst (λ (rs : List RecordRow). put place_cmp k v (entries_of rs) ≡ slice_set (entries_of rs) i ((slice_index_or (entries_of rs) i (entry_of r)).0, v)) same (told v (entry_of r)) in
    map-set entry_of items i (record { set = r.set; number = r.number; rec = v })
    ∙ ap (λ (e : Place × Record). slice_set (entries_of items) i (e.0, v)) (sym (get_row items i r ∙ ap entry_of (sym at)))
    ∙ sym told'
