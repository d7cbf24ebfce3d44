-- Rows in order rise, so that halving finds a place among them.
use Rattle.std.proofs.Common.{◌≡◌, ◌+◌, ◌<◌, ◌≤◌, ℕ, zero, suc, List, [], ◌∷◌, Bool, false, cond, Some, None, refl, sym, ap, ◌∙◌, arith, length, get_or, drop, ◌⊎◌, inl, inr}
use Rattle.std.specs.Prelude.{T, insert, slice_index_or}
use Rattle.std.specs.declared.result.Result.{Result}
use Rattle.std.specs.declared.result.Result.TheVariants.{Ok, Err}
use Rattle.std.specs.FinMap.{put, find, is_sorted}
use Rattle.std.specs.FinMap.Entries.{below_all}
use Rattle.std.specs.List.Sorted.{IsSearchInRange, IsBinarySearchResult, IsNonDecreasingBy, IsSortedBy}
use Rattle.std.specs.Ordering.{is_eq, is_lt, ordering_index, ordering_reverse}
use Rattle.std.specs.declared.cmp.Ordering.{Ordering}
use Rattle.std.specs.declared.cmp.Ordering.TheVariants.{Less, Equal, Greater}
use Rattle.std.proofs.lemmas.Bool.{cases_lt}
use Rattle.std.proofs.lemmas.Cmp.{alike_right}
use Rattle.std.proofs.lemmas.List.{get_or_default}
use Rattle.std.proofs.lemmas.List.Sorted.{searchable_from_sorted}
use Rattle.dms_desc.specs.declared.record.Record.{Record}
use Rattle.dms_model.specs.Db.{Place, place_cmp}
use Rattle.dms_model.specs.Fresh.{first_true, second_true}
use Rattle.dms_model.specs.Places.{places_total}
use Rattle.dms_plain.specs.declared.rows.RecordRow.{RecordRow}
use Rattle.dms_plain.specs.Rows.{entry_of, entries_of, IsInOrder, IsWhere}
use Rattle.dms_plain.proofs.Placing.{IsPastPlace, IsPastPlace-here, IsPastPlace-at, IsPastPlace-end, at_row, get_row, length_rows, put_greater}

abbrev pub place_of : RecordRow → Place
place_of r = (r.set, r.number)

pub less_is : (o : Ordering) → T (is_lt o) → o ≡ Less
less_is Less h = refl
less_is Equal h = absurd h
less_is Greater h = absurd h

below_each : (k : Place) (rows : List RecordRow) (j : ℕ) (d : RecordRow) → T (below_all place_cmp k (entries_of rows)) → j < length rows → place_cmp k (place_of (get_or rows j d)) ≡ Less
below_each k [] j d below lt = absurd (omega arith)
below_each k (r ∷ rs) zero d below lt = less_is (place_cmp k (place_of r)) (first_true (is_lt (place_cmp k (place_of r))) (below_all place_cmp k (entries_of rs)) below)
below_each k (r ∷ rs) (suc j) d below lt = below_each k rs j d (second_true (is_lt (place_cmp k (place_of r))) (below_all place_cmp k (entries_of rs)) below) (omega arith)

-- rows in order strictly rise
pub rises : (rows : List RecordRow) (i j : ℕ) (d : RecordRow) → IsInOrder rows → i < j → j < length rows → place_cmp (place_of (get_or rows i d)) (place_of (get_or rows j d)) ≡ Less
rises [] i j d order under lt = absurd (omega arith)
rises (r ∷ rs) i zero d order under lt = absurd (omega arith)
rises (r ∷ rs) zero (suc j) d order under lt = below_each (place_of r) rs j d (first_true (below_all place_cmp (place_of r) (entries_of rs)) (is_sorted place_cmp (entries_of rs)) order) (omega arith)
rises (r ∷ rs) (suc i) (suc j) d order under lt = rises rs i j d (second_true (below_all place_cmp (place_of r) (entries_of rs)) (is_sorted place_cmp (entries_of rs)) order) (omega arith) (omega arith)

rows_sorted : (rows : List RecordRow) → IsInOrder rows → IsSortedBy (λ a b. is_lt (place_cmp (place_of a) (place_of b))) rows
rows_sorted rows order k d from lt =
    let one = place_of (get_or rows k d) in
    let next = place_of (get_or rows (k + 1) d) in
    ap is_lt (places_total.antisymm next one ∙ ap ordering_reverse (rises rows k (k + 1) d order (omega arith) lt))

-- how rows stand to a place rises
pub rows_searchable : (rows : List RecordRow) (k : Place) → IsInOrder rows → IsNonDecreasingBy (λ r. ordering_index (place_cmp (place_of r) k)) rows
rows_searchable rows k order = searchable_from_sorted places_total place_of rows k (rows_sorted rows order)

turned : (k p : Place) (o : Ordering) → place_cmp p k ≡ o → place_cmp k p ≡ ordering_reverse o
turned k p o h = places_total.antisymm k p ∙ ap ordering_reverse h

find_past : (k : Place) (v : Record) (p : Place) (es : List (Place × Record)) → place_cmp k p ≡ Greater → find place_cmp k ((p, v) ∷ es) ≡ find place_cmp k es
find_past k v p es h = ap (λ (o : Ordering). cond (is_eq o) (Some v) (find place_cmp k es)) h

find_here : (k : Place) (e : Place × Record) (es : List (Place × Record)) → place_cmp k e.0 ≡ Equal → find place_cmp k (e ∷ es) ≡ Some e.1
find_here k e es h = ap (λ (o : Ordering). cond (is_eq o) (Some e.1) (find place_cmp k es)) h

-- rows that a place is past
past : (k : Place) (i : ℕ) (rows : List RecordRow) → ((j : ℕ) (d : RecordRow) → j < i → place_cmp k (place_of (get_or rows j d)) ≡ Greater) → i ≤ length rows → IsPastPlace k i (entries_of rows)
past k zero rows before le = record { split = λ v. refl; found = refl }
past k (suc i) [] before le = absurd (omega arith)
past k (suc i) (r ∷ rs) before le =
    let rest = past k i rs (λ j d lt. before (suc j) d (omega arith)) (omega arith) in
    let more = before 0 r (omega arith) in
    record {
      split = λ v. put_greater k v (entry_of r) (entries_of rs) more ∙ ap (λ (es : List (Place × Record)). entry_of r ∷ es) (rest.split v);
      found = find_past k r.rec (place_of r) (entries_of rs) more ∙ rest.found;
    }

-- a place that is none of theirs
pub misses : (k : Place) (rows : List RecordRow) → ((j : ℕ) (d : RecordRow) → j < length rows → is_eq (place_cmp k (place_of (get_or rows j d))) ≡ false) → find place_cmp k (entries_of rows) ≡ None
misses k [] none = refl
misses k (r ∷ rs) none = ap (λ (b : Bool). cond b (Some r.rec) (find place_cmp k (entries_of rs))) (none 0 r (omega arith)) ∙ misses k rs (λ j d lt. none (suc j) d (omega arith))

module _ (k : Place) (rows : List RecordRow) (i : ℕ) where
  at_place : (x : RecordRow) → IsPastPlace k i (entries_of rows) → i < length rows → x ≡ get_or rows i x → place_cmp k (place_of x) ≡ Equal → IsWhere k (entries_of rows) (Ok i)
  at_place x p lt is tie =
      let lt_entries : i < length (entries_of rows) = omega (arith, length_rows rows, lt) in
      let here : (d : Place × Record) → slice_index_or (entries_of rows) i d ≡ entry_of x = λ d. get_or_default (entries_of rows) i d (entry_of x) lt_entries ∙ get_row rows i x ∙ ap entry_of (sym is) in (
        lt_entries,
        IsPastPlace-at k i rows x p lt is tie,
        λ d. p.found ∙ ap (find place_cmp k) (at_row rows i x lt is) ∙ find_here k (entry_of x) (drop (i + 1) (entries_of rows)) tie ∙ ap (λ (e : Place × Record). Some e.1) (sym (here d)),
      )

  before_place : (p : IsPastPlace k i (entries_of rows)) → i ≤ length rows → ((d : RecordRow) → i < length rows → place_cmp k (place_of (get_or rows i d)) ≡ Less) → find place_cmp k (entries_of rows) ≡ None → IsWhere k (entries_of rows) (Err i)
  before_place p le less none = (omega (arith, length_rows rows, le), by_room (cases_lt i (length rows)), none)
    where
      by_room : (i < length rows) ⊎ (length rows ≤ i) → (v : Record) → put place_cmp k v (entries_of rows) ≡ insert (entries_of rows) i (k, v)
      by_room (inr over) = IsPastPlace-end k i rows p (omega (arith, over, le))
      by_room (inl under) = λ v.
          let x = get_or rows i (record { set = 0; number = 0; rec = record { owner = 0; values = [] } }) in
          IsPastPlace-here k i rows x p under (get_or_default rows i _ x under) (less _ under) v

found_at : (k : Place) (rows : List RecordRow) (i j : ℕ) (d : RecordRow) → IsInOrder rows → i < length rows → place_cmp (place_of (get_or rows i d)) k ≡ Equal → j < i → place_cmp k (place_of (get_or rows j d)) ≡ Greater
found_at k rows i j d order lt tie under =
    let here = place_of (get_or rows i d) in
    let one = place_of (get_or rows j d) in
    turned k one Less (sym (alike_right places_total here k one tie) ∙ rises rows j i d order under lt)

-- what halving finds
pub searched : (k : Place) (rows : List RecordRow) (r : Result ℕ ℕ) → IsInOrder rows → IsSearchInRange r (length rows) → IsBinarySearchResult (λ x. place_cmp (place_of x) k) rows r → IsWhere k (entries_of rows) r
searched k rows (Ok i) order lt tie =
    let nothing : RecordRow = record { set = 0; number = 0; rec = record { owner = 0; values = [] } } in
    let x = get_or rows i nothing in
    at_place k rows i x (past k i rows (λ j d under. found_at k rows i j d order lt (tie d) under) (omega (arith, lt))) lt (get_or_default rows i nothing x lt) (turned k (place_of x) Equal (tie nothing))
searched k rows (Err i) order le parted =
    let halves = parted (rows_searchable rows k order) in
    let before : (j : ℕ) (d : RecordRow) → j < i → place_cmp k (place_of (get_or rows j d)) ≡ Greater = λ j d lt. turned k (place_of (get_or rows j d)) Less (halves.0 j d (omega arith) lt) in
    let behind : (j : ℕ) (d : RecordRow) → i ≤ j → j < length rows → place_cmp k (place_of (get_or rows j d)) ≡ Less = λ j d from lt. turned k (place_of (get_or rows j d)) Greater (halves.1 j d from lt) in
    before_place k rows i (past k i rows before le) le (λ d lt. behind i d (omega arith) lt)
    (misses k rows (λ j d lt. elim (cases_lt j i) [
      | inl under ↦ ap is_eq (before j d under)
      | inr over ↦ ap is_eq (behind j d over lt)
    ]))
