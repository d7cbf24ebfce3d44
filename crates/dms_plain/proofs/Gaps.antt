-- The rows of one data set, and the least number that none of them has, found by halving.
use Rattle.std.proofs.Common.{◌≡◌, ◌+◌, ◌-◌, ◌<◌, ◌≤◌, ℕ, zero, suc, List, [], ◌∷◌, Bool, true, false, cond, eqb, leb, ltb, refl, sym, ap, ◌∙◌, arith, length, map, get_or, take, drop, inl, inr}
use Rattle.std.specs.Prelude.{nat_lt}
use Rattle.std.specs.List.{filter}
use Rattle.std.specs.List.Sorted.{IsNonDecreasingBy, IsPartitionedBy, IsPartitionPoint}
use Rattle.std.specs.declared.cmp.Ordering.TheVariants.{Less}
use Rattle.std.proofs.lemmas.Bool.{cases_lt, cases_order, leb-true, leb-false, ltb-true, ltb-false}
use Rattle.std.proofs.lemmas.Bool.Decides.{nat_tests}
use Rattle.std.proofs.lemmas.List.{get_or_default, get_or-take, get_or-drop, length-take-le, length-drop}
use Rattle.dms_desc.specs.declared.record.Record.{Record}
use Rattle.dms_model.specs.Db.{Place, place_cmp, rows_of, gap_from}
use Rattle.dms_plain.specs.declared.rows.RecordRow.{RecordRow}
use Rattle.dms_plain.specs.Rows.{AreNumbersRising, IsInOrder, entries_of, numbered}
use Rattle.dms_plain.proofs.Halving.{place_of, rises}

less_sets : (p q : Place) → place_cmp p q ≡ Less → p.0 ≤ q.0
less_sets p q h = grind (arith, nat_tests, h)

less_numbers : (p q : Place) → place_cmp p q ≡ Less → p.0 ≡ q.0 → p.1 < q.1
less_numbers p q h e = grind (arith, nat_tests, h, e)

-- the data sets of rows in order rise
pub sets_rise : (rows : List RecordRow) → IsInOrder rows → IsNonDecreasingBy (λ r. r.set) rows
sets_rise rows order i j d le lt = elim (cases_order i j) [
  | inl same ↦ omega (arith, ap (λ n. (get_or rows n d).set) same)
  | inr (inl under) ↦ less_sets (place_of (get_or rows i d)) (place_of (get_or rows j d)) (rises rows i j d order under lt)
  | inr (inr over) ↦ absurd (omega arith)
]

other_set : (set : ℕ) (r : RecordRow) (rs : List RecordRow) → eqb set r.set ≡ false → rows_of set (entries_of rs) ≡ rows_of set (entries_of (r ∷ rs))
other_set set r rs h = sym (ap (λ (b : Bool). cond b (numbered r ∷ rows_of set (entries_of rs)) (rows_of set (entries_of rs))) h)

-- so many elements from a place on have a key, and those before and behind them a lesser and a greater one
pub record IsOwn {A : Type 0} (key : A → ℕ) (set : ℕ) (xs : List A) (from n : ℕ) : Type 0 where
  pub before : (j : ℕ) (d : A) → j < from → key (get_or xs j d) < set
  pub own : (j : ℕ) (d : A) → from ≤ j → j < from + n → key (get_or xs j d) ≡ set
  pub behind : (j : ℕ) (d : A) → from + n ≤ j → j < length xs → set < key (get_or xs j d)
  pub room : from + n ≤ length xs

module _ {A : Type 0} (key : A → ℕ) (set : ℕ) where
  -- they begin behind the lesser keys and end before the greater ones
  pub own_between : (xs : List A) (x : A) (from end : ℕ) → IsPartitionPoint (λ r. ltb (key r) set ≡ true) (λ r. ltb (key r) set ≡ false) xs from
      → IsPartitionPoint (λ r. leb (key r) set ≡ true) (λ r. leb (key r) set ≡ false) xs end → from ≤ length xs → end ≤ length xs → (from ≤ end) × IsOwn key set xs from (end - from)
  own_between xs x from end low high low_room high_room =
      let le : from ≤ end = elim (cases_lt end from) [
        | inl under ↦ absurd (omega (arith, ltb-true _ _ (low.0 end x (omega arith) under), leb-false _ _ (high.1 end x (omega arith) (omega (arith, under, low_room)))))
        | inr over ↦ over
      ] in (
        le,
        record {
          before = λ j d lt. ltb-true _ _ (low.0 j d (omega arith) lt);
          own = λ j d at lt. omega (arith, ltb-false _ _ (low.1 j d at (omega (arith, lt, le, high_room))), leb-true _ _ (high.0 j d (omega arith) (omega (arith, lt, le))));
          behind = λ j d at lt. leb-false _ _ (high.1 j d (omega (arith, at, le)) lt);
          room = omega (arith, le, high_room);
        },
      )

  own_later : (r : A) (rs : List A) (from n : ℕ) → IsOwn key set (r ∷ rs) (suc from) n → IsOwn key set rs from n
  own_later r rs from n all = record {
    before = λ j d lt. all.before (suc j) d (omega arith);
    own = λ j d at lt. all.own (suc j) d (omega arith) (omega arith);
    behind = λ j d at lt. all.behind (suc j) d (omega arith) (omega arith);
    room = omega (arith, all.room);
  }

  own_next : (r : A) (rs : List A) (n : ℕ) → IsOwn key set (r ∷ rs) zero (suc n) → IsOwn key set rs zero n
  own_next r rs n all = record {
    before = λ j d lt. absurd (omega arith);
    own = λ j d at lt. all.own (suc j) d (omega arith) (omega arith);
    behind = λ j d at lt. all.behind (suc j) d (omega arith) (omega arith);
    room = omega (arith, all.room);
  }

  own_gone : (r : A) (rs : List A) → IsOwn key set (r ∷ rs) zero zero → IsOwn key set rs zero zero
  own_gone r rs all = record {
    before = λ j d lt. absurd (omega arith);
    own = λ j d at lt. absurd (omega arith);
    behind = λ j d at lt. all.behind (suc j) d (omega arith) (omega arith);
    room = omega arith;
  }

  other_dropped : (r : A) (rs : List A) → eqb (key r) set ≡ false → length (filter (λ x. eqb (key x) set) (r ∷ rs)) ≡ length (filter (λ x. eqb (key x) set) rs)
  other_dropped r rs h = ap (λ (b : Bool). length (cond b (r ∷ filter (λ x. eqb (key x) set) rs) (filter (λ x. eqb (key x) set) rs))) h

  -- so many have the key
  pub own_count : (xs : List A) (from n : ℕ) → IsOwn key set xs from n → length (filter (λ x. eqb (key x) set) xs) ≡ n
  own_count [] zero zero all = refl
  own_count [] zero (suc n) all = absurd (omega (arith, all.room))
  own_count [] (suc from) n all = absurd (omega (arith, all.room))
  own_count (r ∷ rs) zero zero all = other_dropped r rs (grind (arith, nat_tests, all.behind 0 r (omega arith) (omega arith))) ∙ own_count rs zero zero (own_gone r rs all)
  own_count (r ∷ rs) zero (suc n) all =
      let here : eqb (key r) set ≡ true = grind (arith, nat_tests, all.own 0 r (omega arith) (omega arith)) in
      ap (λ (b : Bool). length (cond b (r ∷ filter (λ x. eqb (key x) set) rs) (filter (λ x. eqb (key x) set) rs))) here ∙ ap suc (own_count rs zero n (own_next r rs n all))
  own_count (r ∷ rs) (suc from) n all = other_dropped r rs (grind (arith, nat_tests, all.before 0 r (omega arith))) ∙ own_count rs from n (own_later r rs from n all)

pub own_rows : (set : ℕ) (rows : List RecordRow) (from n : ℕ) → IsOwn (λ (r : RecordRow). r.set) set rows from n → map numbered (take n (drop from rows)) ≡ rows_of set (entries_of rows)
own_rows set [] zero zero all = refl
own_rows set [] zero (suc n) all = absurd (omega (arith, all.room))
own_rows set [] (suc from) n all = absurd (omega (arith, all.room))
own_rows set (r ∷ rs) zero zero all = own_rows set rs zero zero (own_gone (λ (x : RecordRow). x.set) set r rs all) ∙ other_set set r rs (grind (arith, nat_tests, all.behind 0 r (omega arith) (omega arith)))
own_rows set (r ∷ rs) zero (suc n) all =
    let here : eqb set r.set ≡ true = grind (arith, nat_tests, all.own 0 r (omega arith) (omega arith)) in
    ap (λ (xs : List (ℕ × Record)). numbered r ∷ xs) (own_rows set rs zero n (own_next (λ (x : RecordRow). x.set) set r rs n all))
    ∙ sym (ap (λ (b : Bool). cond b (numbered r ∷ rows_of set (entries_of rs)) (rows_of set (entries_of rs))) here)
own_rows set (r ∷ rs) (suc from) n all = own_rows set rs from n (own_later (λ (x : RecordRow). x.set) set r rs from n all) ∙ other_set set r rs (grind (arith, nat_tests, all.before 0 r (omega arith)))

-- and their numbers rise
pub own_rise : (set : ℕ) (rows : List RecordRow) (from n : ℕ) → IsInOrder rows → IsOwn (λ (r : RecordRow). r.set) set rows from n → AreNumbersRising (take n (drop from rows))
own_rise set rows from n order all i j d under lt =
    let long : length (take n (drop from rows)) ≡ n = length-take-le n (drop from rows) (omega (arith, length-drop from rows, all.room)) in
    let at : (k : ℕ) → k < n → get_or (take n (drop from rows)) k d ≡ get_or rows (from + k) d = λ k lt. get_or-take n (drop from rows) k d lt ∙ get_or-drop from rows k d in
    let one = place_of (get_or rows (from + i) d) in
    let next = place_of (get_or rows (from + j) d) in
    let same = all.own (from + i) d (omega arith) (omega (arith, long, under, lt)) ∙ sym (all.own (from + j) d (omega arith) (omega (arith, long, lt))) in
    let less = less_numbers one next (rises rows (from + i) (from + j) d order (omega (arith, under)) (omega (arith, long, lt, all.room))) same in
    omega (arith, less, ap (λ (r : RecordRow). r.number) (at i (omega (arith, long, under, lt))), ap (λ (r : RecordRow). r.number) (at j (omega (arith, long, lt))))

-- ---- the gap

gap_here : (n m : ℕ) (r : Record) (rs : List (ℕ × Record)) → n < m → gap_from n ((m, r) ∷ rs) ≡ n
gap_here n m r rs lt =
    let differs : eqb n m ≡ false = grind (arith, nat_tests, lt) in
    let above : nat_lt m n ≡ false = grind (arith, nat_tests, lt) in
    (λ i. cond (differs i) (gap_from (n + 1) rs) (cond (above i) (gap_from n rs) n))

gap_next : (n m : ℕ) (r : Record) (rs : List (ℕ × Record)) → n ≡ m → gap_from n ((m, r) ∷ rs) ≡ gap_from (n + 1) rs
gap_next n m r rs same =
    let tie : eqb n m ≡ true = grind (arith, nat_tests, same) in
    ap (λ (b : Bool). cond b (gap_from (n + 1) rs) (cond (nat_lt m n) (gap_from n rs) n)) tie

gap_skips : (n m : ℕ) (r : Record) (rs : List (ℕ × Record)) → m < n → gap_from n ((m, r) ∷ rs) ≡ gap_from n rs
gap_skips n m r rs lt =
    let differs : eqb n m ≡ false = grind (arith, nat_tests, lt) in
    let below : nat_lt m n ≡ true = grind (arith, nat_tests, lt) in
    (λ i. cond (differs i) (gap_from (n + 1) rs) (cond (below i) (gap_from n rs) n))

-- rows that have the numbers from n on, up to a row that is past them
gap_after : (rows : List RecordRow) (n i : ℕ) → ((j : ℕ) (d : RecordRow) → j < i → (get_or rows j d).number ≡ n + j) → ((d : RecordRow) → i < length rows → n + i < (get_or rows i d).number) → i ≤ length rows
    → gap_from n (map numbered rows) ≡ n + i
gap_after [] n i run past le = omega (arith, le)
gap_after (r ∷ rs) n zero run past le = gap_here n r.number r.rec (map numbered rs) (omega (arith, past r (omega arith))) ∙ omega arith
gap_after (r ∷ rs) n (suc i) run past le =
    gap_next n r.number r.rec (map numbered rs) (omega (arith, run 0 r (omega arith)))
    ∙ gap_after rs (n + 1) i (λ j d lt. omega (arith, run (suc j) d (omega arith))) (λ d lt. omega (arith, past d (omega arith))) (omega arith)
    ∙ omega arith

-- rows that are numbered 0 are skipped
gap_from_one : (rows : List RecordRow) (from : ℕ) → ((j : ℕ) (d : RecordRow) → j < from → (get_or rows j d).number ≡ 0) → from ≤ length rows → gap_from 1 (map numbered rows) ≡ gap_from 1 (map numbered (drop from rows))
gap_from_one rows zero zeros le = refl
gap_from_one [] (suc from) zeros le = absurd (omega arith)
gap_from_one (r ∷ rs) (suc from) zeros le =
    gap_skips 1 r.number r.rec (map numbered rs) (omega (arith, zeros 0 r (omega arith))) ∙ gap_from_one rs from (λ j d lt. zeros (suc j) d (omega arith)) (omega arith)

-- numbers that rise do so by one each at least
grows : (rows : List RecordRow) (i n : ℕ) (d : RecordRow) → AreNumbersRising rows → i + n < length rows → (get_or rows i d).number + n ≤ (get_or rows (i + n) d).number
grows rows i zero d rising lt = omega (arith, ap (λ k. (get_or rows k d).number) {x = i + 0} {y = i} (omega arith))
grows rows i (suc n) d rising lt =
    let before = grows rows i n d rising (omega arith) in
    let step = rising (i + n) (i + suc n) d (omega arith) lt in
    omega (arith, before, step)

-- where halving stands: the rows from the first up to low have the numbers from 1 on, and those from high on are past them
pub record IsHalfway (rows : List RecordRow) (from low high : ℕ) : Type 0 where
  pub begins : from ≤ low
  pub meets : low ≤ high
  pub ends : high ≤ length rows
  pub zeros : (j : ℕ) (d : RecordRow) → j < from → (get_or rows j d).number ≡ 0
  pub named : (j : ℕ) (d : RecordRow) → from ≤ j → j < length rows → 1 ≤ (get_or rows j d).number
  pub run : (d : RecordRow) → from < low → (get_or rows (low - 1) d).number ≤ low - from
  pub past : (d : RecordRow) → high < length rows → high - from + 1 < (get_or rows high d).number

-- the gap, once nothing is left to halve
pub gap_found : (rows : List RecordRow) (from low high : ℕ) → AreNumbersRising rows → IsHalfway rows from low high → high ≤ low → gap_from 1 (map numbered rows) ≡ low - from + 1
gap_found rows from low high rising here done =
    let left = drop from rows in
    let same : high ≡ low = omega (arith, here.meets, done) in
    let at : (j : ℕ) (d : RecordRow) → (get_or left j d).number ≡ (get_or rows (from + j) d).number = λ j d. ap (λ (r : RecordRow). r.number) (get_or-drop from rows j d) in
    let run : (j : ℕ) (d : RecordRow) → j < low - from → (get_or left j d).number ≡ 1 + j = λ j d lt.
    let first = here.named from d (omega arith) (omega (arith, here.meets, here.ends, lt)) in
    let up = grows rows from j d rising (omega (arith, here.meets, here.ends, lt)) in
    let on = grows rows (from + j) (low - from - 1 - j) d rising (omega (arith, here.meets, here.ends, lt)) in
    let last = ap (λ k. (get_or rows k d).number) {x = from + j + (low - from - 1 - j)} {y = low - 1} (omega (arith, lt)) in
    omega (arith, first, up, on, last, here.run d (omega (arith, lt)), at j d, lt) in
    let past : (d : RecordRow) → low - from < length left → 1 + (low - from) < (get_or left (low - from) d).number = λ d lt.
    let here_is = ap (λ k. (get_or rows k d).number) {x = from + (low - from)} {y = high} (omega (arith, same, here.begins)) in
    omega (arith, here.past d (omega (arith, same, here.begins, length-drop from rows, lt)), at (low - from) d, here_is, same) in
    gap_from_one rows from here.zeros (omega (arith, here.begins, here.meets, here.ends))
    ∙ gap_after left 1 (low - from) run past (omega (arith, here.begins, here.meets, here.ends, length-drop from rows))
    ∙ omega arith

-- numbers that are 0 stand before all others
pub zeros_first : (rows : List RecordRow) → AreNumbersRising rows → IsPartitionedBy (λ r. eqb r.number 0) rows
zeros_first rows rising i j d le lt zero_at = elim (cases_order i j) [
  | inl same ↦ ap (λ n. eqb (get_or rows n d).number 0) same ∙ zero_at
  | inr (inl under) ↦ absurd (omega (arith, rising i j d under lt, equal_to (get_or rows j d).number zero_at))
  | inr (inr over) ↦ absurd (omega arith)
]
  where
    equal_to : (n : ℕ) → eqb n 0 ≡ true → n ≡ 0
    equal_to n h = grind (arith, nat_tests, h)

some_number : (n : ℕ) → eqb n 0 ≡ false → 1 ≤ n
some_number n h = grind (arith, nat_tests, h)

no_number : (n : ℕ) → eqb n 0 ≡ true → n ≡ 0
no_number n h = grind (arith, nat_tests, h)

pub halfway_start : (rows : List RecordRow) (from : ℕ) → IsPartitionPoint (λ r. eqb r.number 0 ≡ true) (λ r. eqb r.number 0 ≡ false) rows from → from ≤ length rows → IsHalfway rows from from (length rows)
halfway_start rows from split room = record {
  begins = omega arith;
  meets = room;
  ends = omega arith;
  zeros = λ j d lt. no_number (get_or rows j d).number (split.0 j d (omega arith) lt);
  named = λ j d at lt. some_number (get_or rows j d).number (split.1 j d at lt);
  run = λ d lt. absurd (omega (arith, lt));
  past = λ d lt. absurd (omega (arith, lt));
}

module _ (rows : List RecordRow) (from low high m : ℕ) (x : RecordRow) (here : IsHalfway rows from low high) (at : low ≤ m) (lt : m < high) (is : x ≡ get_or rows m x) where
  same_number : (d : RecordRow) → (get_or rows m d).number ≡ x.number
  same_number d = ap (λ (r : RecordRow). r.number) (get_or_default rows m d x (omega (arith, lt, here.ends)) ∙ sym is)

  pub halfway_low : x.number ≤ m - from + 1 → IsHalfway rows from (m + 1) high
  halfway_low few = record {
    begins = omega (arith, here.begins, at);
    meets = omega (arith, lt);
    ends = here.ends;
    zeros = here.zeros;
    named = here.named;
    run = λ d more.
        let one = ap (λ k. (get_or rows k d).number) {x = m + 1 - 1} {y = m} (omega arith) in
        omega (arith, one, same_number d, few, here.begins, at);
    past = here.past;
  }

  pub halfway_high : m - from + 1 < x.number → IsHalfway rows from low m
  halfway_high many = record {
    begins = here.begins;
    meets = at;
    ends = omega (arith, lt, here.ends);
    zeros = here.zeros;
    named = here.named;
    run = here.run;
    past = λ d more. omega (arith, same_number d, many);
  }
