-- The numbers of points stay in order.
use Rattle.std.proofs.Common.{ℕ, ◌+◌, ◌-◌, ◌^◌, ◌<◌, ◌≤◌, min, max, ◌≡◌, ◌==◌, ◌||◌, ◌⊎◌, inl, inr, Bool, true, false, cond, Option, Some, None, List, [], ◌∷◌, ◌++◌, refl, sym, ◌∙◌, ap, subst, arith, append_assoc}
use Rattle.std.proofs.lemmas.Bool.Decides.{nat_tests}
use Rattle.std.proofs.lemmas.Bool.{cases_Bool, true≢false}
use Rattle.dms_history.specs.Events.{AllBlocks, Counts, Event, block_in, change, quiet, control, begin}
use Rattle.dms_history.specs.Lists.{has, until_first, after_first}
use Rattle.dms_history.specs.Places.{is_control, is_described, is_point, IsLive, point_numbers}
use Rattle.dms_history.specs.History.{last_number, pending_point, next_after, next_number}
use Rattle.dms_history.specs.Agrees.{Numbered}
use Rattle.dms_history.specs.Numbers.{RollsBack, EachLast, LastLives, EachNext, Carries, NextStays, UsedOnce, NumbersChange, NumbersQuiet, NumbersBegin, NumbersControl, NumbersLevel, TrueDumpServes, NumbersFirst}
use Rattle.dms_history.proofs.Cuts.{until_none}
use Rattle.dms_history.proofs.Picks.{some_is}
use Rattle.dms_history.proofs.AtPoints.{split_first, true_or, or_true_right}
use Rattle.dms_history.proofs.HalfDone.{has_front, until_until, or_at}
use Rattle.dms_history.proofs.Base.{has_append}
use Rattle.dms_history.proofs.Given.{at_point, true_right}
use Rattle.dms_history.proofs.Stops.{has_self}

-- ---- lists

pub not_empty : {A : Type 0} (xs ys : List A) (e : A) → xs ++ e ∷ ys ≡ [] → ⊥
not_empty [] ys e is = absurd cc
not_empty (x ∷ xs) ys e is = absurd cc

pub split_push : {A : Type 0} (xs : List A) (e : A) (ys zs : List A) (d : A) → xs ++ e ∷ ys ≡ zs ++ d ∷ []
    → ((ys ≡ []) × (e ≡ d) × (xs ≡ zs)) ⊎ ((ws : List A) × (ys ≡ ws ++ d ∷ []) × (xs ++ e ∷ ws ≡ zs))
split_push [] e ys [] d is = inl (cc, cc, refl)
split_push [] e ys (z ∷ zs) d is = inr (zs, cc, cc)
split_push (x ∷ xs) e ys [] d is = let tail : xs ++ e ∷ ys ≡ [] = cc in absurd (not_empty xs ys e tail)
split_push (x ∷ xs) e ys (z ∷ zs) d is =
    let tail : xs ++ e ∷ ys ≡ zs ++ d ∷ [] = cc in
    let head : x ≡ z = cc in
    elim (split_push xs e ys zs d tail) [
      | inl last ↦ inl (last.0, last.1, λ i. head i ∷ last.2 i)
      | inr more ↦ inr (more.0, more.1, λ i. head i ∷ more.2 i)
    ]

pub points_append : (xs ys : List Event) → point_numbers (xs ++ ys) ≡ point_numbers xs ++ point_numbers ys
points_append [] ys = refl
points_append (change f b before after ∷ xs) ys = points_append xs ys
points_append (quiet n ∷ xs) ys = ap (λ (l : List ℕ). n ∷ l) (points_append xs ys)
points_append (control n next counts described ∷ xs) ys = ap (λ (l : List ℕ). n ∷ l) (points_append xs ys)
points_append (begin n how ∷ xs) ys = points_append xs ys

pub eq_of : (m n : ℕ) → (m == n) ≡ true → m ≡ n
eq_of m n is = grind (arith, nat_tests)

-- a point that is there is among the numbers
pub point_among : (es : List Event) (n : ℕ) → has (is_point n) es ≡ true → (ys : List ℕ) × (zs : List ℕ) × (point_numbers es ≡ ys ++ n ∷ zs)
point_among [] n found = absurd (true≢false (sym found))
point_among (change f b before after ∷ es) n found = point_among es n found
point_among (quiet m ∷ es) n found = elim (or_at (m == n) (has (is_point n) es) found) [
  | inl counted ↦ ([], point_numbers es, ap (λ k. k ∷ point_numbers es) (eq_of m n counted))
  | inr more ↦ let r = point_among es n more.1 in (m ∷ r.0, r.1, ap (λ (l : List ℕ). m ∷ l) r.2)
]
point_among (control m next counts described ∷ es) n found = elim (or_at (m == n) (has (is_point n) es) found) [
  | inl counted ↦ ([], point_numbers es, ap (λ k. k ∷ point_numbers es) (eq_of m n counted))
  | inr more ↦ let r = point_among es n more.1 in (m ∷ r.0, r.1, ap (λ (l : List ℕ). m ∷ l) r.2)
]
point_among (begin m how ∷ es) n found = point_among es n found

-- a prefix ends with its point
pub front_ends : (es : List Event) (m : ℕ) → has (is_point m) es ≡ true → (xs : List ℕ) × (point_numbers (until_first (is_point m) es) ≡ xs ++ m ∷ [])
front_ends [] m found = absurd (true≢false (sym found))
front_ends (change f b before after ∷ es) m found =
    let r = front_ends es m found in (r.0, ap (λ k. point_numbers (cond k (change f b before after ∷ until_first (is_point m) es) [])) found ∙ r.1)
front_ends (quiet n ∷ es) m found = elim (or_at (n == m) (has (is_point m) es) found) [
  | inl counted ↦ ([], ap (λ k. point_numbers (cond k (quiet n ∷ []) (cond (has (is_point m) es) (quiet n ∷ until_first (is_point m) es) []))) counted ∙ ap (λ k. k ∷ []) (eq_of n m counted))
  | inr more ↦
      let r = front_ends es m more.1 in
      (n ∷ r.0, (λ i. point_numbers (cond (more.0 i) (quiet n ∷ []) (cond (more.1 i) (quiet n ∷ until_first (is_point m) es) []))) ∙ ap (λ (l : List ℕ). n ∷ l) r.1)
]
front_ends (control n next counts described ∷ es) m found = elim (or_at (n == m) (has (is_point m) es) found) [
  | inl counted ↦ ([], ap (λ k. point_numbers (cond k (control n next counts described ∷ []) (cond (has (is_point m) es) (control n next counts described ∷ until_first (is_point m) es) []))) counted ∙ ap (λ k. k ∷ []) (eq_of n m counted))
  | inr more ↦
      let r = front_ends es m more.1 in
      (n ∷ r.0, (λ i. point_numbers (cond (more.0 i) (control n next counts described ∷ []) (cond (more.1 i) (control n next counts described ∷ until_first (is_point m) es) []))) ∙ ap (λ (l : List ℕ). n ∷ l) r.1)
]
front_ends (begin n how ∷ es) m found =
    let r = front_ends es m found in (r.0, ap (λ k. point_numbers (cond k (begin n how ∷ until_first (is_point m) es) [])) found ∙ r.1)

-- ---- rolled back

module _ (live : List Event) (next m : ℕ) (numbered : Numbered live next) (placed : has (is_point m) live ≡ true) where
  abbrev front : List Event
  front = until_first (is_point m) live

  halves : point_numbers live ≡ point_numbers front ++ point_numbers (after_first (is_point m) live)
  halves = ap point_numbers (sym (split_first (is_point m) live placed)) ∙ points_append front (after_first (is_point m) live)

  none_above : (n : ℕ) → m < n → has (is_point n) front ≡ false
  none_above n above = elim (cases_Bool (has (is_point n) front)) [
    | inr off ↦ off
    | inl found ↦
        let ends = front_ends live m placed in
        let among = point_among front n found in
        let both : among.0 ++ n ∷ among.1 ≡ ends.0 ++ m ∷ [] = sym among.2 ∙ ends.1 in
        elim (split_push among.0 n among.1 ends.0 m both) [
          | inl last ↦ let same : n ≡ m = last.1 in absurd (omega (arith, same))
          | inr more ↦
              let rest : List ℕ = point_numbers (after_first (is_point m) live) in
              let is : point_numbers live ≡ among.0 ++ n ∷ (more.0 ++ m ∷ rest) =
              halves ∙ ap (λ (l : List ℕ). l ++ rest) (among.2 ∙ ap (λ (l : List ℕ). among.0 ++ n ∷ l) more.1)
              ∙ append_assoc among.0 (n ∷ (more.0 ++ m ∷ [])) rest ∙ ap (λ (l : List ℕ). among.0 ++ n ∷ l) (append_assoc more.0 (m ∷ []) rest) in
              let le : n ≤ m = numbered.never_fall among.0 more.0 rest n m is in
              absurd (omega (arith, le))
        ]
  ]

  kept_below : (n : ℕ) → n ≤ m → IsLive live n → IsLive front n
  kept_below n le lives =
      let found : has (is_point n) front ≡ true = elim (cases_Bool (has (is_point n) front)) [
        | inl on ↦ on
        | inr off ↦
            let late = after_first (is_point m) live in
            let later : has (is_point n) late ≡ true =
            ap (λ k. k || has (is_point n) late) (sym off) ∙ sym (has_append (is_point n) front late) ∙ ap (λ (l : List Event). has (is_point n) l) (split_first (is_point m) live placed) ∙ lives.found in
            let ends = front_ends live m placed in
            let among = point_among late n later in
            let is : point_numbers live ≡ ends.0 ++ m ∷ (among.0 ++ n ∷ among.1) =
            halves ∙ (λ i. ends.1 i ++ among.2 i) ∙ append_assoc ends.0 (m ∷ []) (among.0 ++ n ∷ among.1) in
            let up : m ≤ n = numbered.never_fall ends.0 among.0 among.1 m n is in
            let same : n ≡ m = omega (arith, up, le) in
            subst (λ k. has (is_point k) front ≡ true) (sym same) (has_self (is_point m) live placed)
      ] in
      record { found = found; described = ap (λ (l : List Event). has is_described l) (until_until (is_point m) (is_point n) live found) ∙ lives.described }

  none_with : (n later : ℕ) (counts : Counts) (described : Bool) → m < n → has (is_point n) (front ++ control m later counts described ∷ []) ≡ false
  none_with n later counts described above =
      let other : (m == n) ≡ false = grind (arith, nat_tests) in
      has_append (is_point n) front (control m later counts described ∷ []) ∙ (λ i. none_above n above i || (other i || false))

pub rolls_back : RollsBack
rolls_back live next m numbered at = record {
  none_above = none_above live next m numbered at.found;
  none_later = none_with live next m numbered at.found;
  kept = kept_below live next m numbered at.found;
}

-- ---- the last point

last_push : (es : List Event) (k : Option ℕ) (e : Event) (m : ℕ) → ((j : Option ℕ) → last_number j (e ∷ []) ≡ Some m) → last_number k (es ++ e ∷ []) ≡ Some m
last_push [] k e m ends = ends k
last_push (change f b before after ∷ es) k e m ends = last_push es k e m ends
last_push (quiet n ∷ es) k e m ends = last_push es (Some n) e m ends
last_push (control n next counts described ∷ es) k e m ends = last_push es (Some n) e m ends
last_push (begin n how ∷ es) k e m ends = last_push es k e m ends

pub last_front : (es : List Event) (k : Option ℕ) (m : ℕ) → has (is_point m) es ≡ true → last_number k (until_first (is_point m) es) ≡ Some m
last_front [] k m found = absurd (true≢false (sym found))
last_front (change f b before after ∷ es) k m found = ap (λ t. last_number k (cond t (change f b before after ∷ until_first (is_point m) es) [])) found ∙ last_front es k m found
last_front (quiet n ∷ es) k m found = elim (or_at (n == m) (has (is_point m) es) found) [
  | inl here ↦ ap (λ t. last_number k (cond t (quiet n ∷ []) (cond (has (is_point m) es) (quiet n ∷ until_first (is_point m) es) []))) here ∙ ap (λ j. Some j) (eq_of n m here)
  | inr more ↦ (λ i. last_number k (cond (more.0 i) (quiet n ∷ []) (cond (more.1 i) (quiet n ∷ until_first (is_point m) es) []))) ∙ last_front es (Some n) m more.1
]
last_front (control n next counts described ∷ es) k m found = elim (or_at (n == m) (has (is_point m) es) found) [
  | inl here ↦ ap (λ t. last_number k (cond t (control n next counts described ∷ []) (cond (has (is_point m) es) (control n next counts described ∷ until_first (is_point m) es) []))) here ∙ ap (λ j. Some j) (eq_of n m here)
  | inr more ↦ (λ i. last_number k (cond (more.0 i) (control n next counts described ∷ []) (cond (more.1 i) (control n next counts described ∷ until_first (is_point m) es) []))) ∙ last_front es (Some n) m more.1
]
last_front (begin n how ∷ es) k m found = ap (λ t. last_number k (cond t (begin n how ∷ until_first (is_point m) es) [])) found ∙ last_front es k m found

pub last_points : EachLast
last_points h m = record {
  begin = λ how. elim (cases_Bool (has (is_point m) h.live)) [
    | inl found ↦ last_front h.live (Some m) m found
    | inr off ↦ ap (λ (l : List Event). last_number (Some m) l) (until_none (is_point m) h.live off)
  ];
  control = λ next counts described. last_push h.live None (control m next counts described) m (λ j. refl);
  quiet = last_push h.live (pending_point h.pending) (quiet m) m (λ j. refl);
}

-- what the last number is
last_of : (es : List Event) (k : Option ℕ) → ((point_numbers es ≡ []) × (last_number k es ≡ k)) ⊎ ((us : List ℕ) × (a : ℕ) × (point_numbers es ≡ us ++ a ∷ []) × (last_number k es ≡ Some a))
last_of [] k = inl (refl, refl)
last_of (change f b before after ∷ es) k = last_of es k
last_of (quiet n ∷ es) k = elim (last_of es (Some n)) [
  | inl none ↦ inr ([], n, ap (λ (l : List ℕ). n ∷ l) none.0, none.1)
  | inr more ↦ inr (n ∷ more.0, more.1, ap (λ (l : List ℕ). n ∷ l) more.2, more.3)
]
last_of (control n next counts described ∷ es) k = elim (last_of es (Some n)) [
  | inl none ↦ inr ([], n, ap (λ (l : List ℕ). n ∷ l) none.0, none.1)
  | inr more ↦ inr (n ∷ more.0, more.1, ap (λ (l : List ℕ). n ∷ l) more.2, more.3)
]
last_of (begin n how ∷ es) k = last_of es k

pub numbers_end : (es : List Event) (k : Option ℕ) (m : ℕ) → has (is_point m) es ≡ true → last_number k es ≡ Some m → (us : List ℕ) × (point_numbers es ≡ us ++ m ∷ [])
numbers_end es k m found last = elim (last_of es k) [
  | inl none ↦ let r = point_among es m found in absurd (not_empty r.0 r.1 m (sym r.2 ∙ none.0))
  | inr more ↦ (more.0, more.2 ∙ ap (λ a. more.0 ++ a ∷ []) (some_is more.1 m (sym more.3 ∙ last)))
]

pub among_has : (es : List Event) (xs ys : List ℕ) (n : ℕ) → point_numbers es ≡ xs ++ n ∷ ys → has (is_point n) es ≡ true
among_has [] xs ys n is = absurd (not_empty xs ys n (sym is))
among_has (change f b before after ∷ es) xs ys n is = among_has es xs ys n is
among_has (quiet k ∷ es) [] ys n is = let head : k ≡ n = cc in true_or (k == n) (has (is_point n) es) (grind (arith, nat_tests, head))
among_has (quiet k ∷ es) (x ∷ xs) ys n is = let tail : point_numbers es ≡ xs ++ n ∷ ys = cc in or_true_right (k == n) (has (is_point n) es) (among_has es xs ys n tail)
among_has (control k next counts described ∷ es) [] ys n is = let head : k ≡ n = cc in true_or (k == n) (has (is_point n) es) (grind (arith, nat_tests, head))
among_has (control k next counts described ∷ es) (x ∷ xs) ys n is = let tail : point_numbers es ≡ xs ++ n ∷ ys = cc in or_true_right (k == n) (has (is_point n) es) (among_has es xs ys n tail)
among_has (begin k how ∷ es) xs ys n is = among_has es xs ys n is

control_numbered : (es : List Event) → has is_control es ≡ true → point_numbers es ≡ [] → ⊥
control_numbered [] found none = true≢false (sym found)
control_numbered (change f b before after ∷ es) found none = control_numbered es found none
control_numbered (quiet n ∷ es) found none = not_empty [] (point_numbers es) n none
control_numbered (control n next counts described ∷ es) found none = not_empty [] (point_numbers es) n none
control_numbered (begin n how ∷ es) found none = control_numbered es found none

pub last_lives : LastLives
last_lives h next numbered = record {
  points = λ n at. elim (last_of h.live (pending_point h.pending)) [
    | inl none ↦ let r = point_among h.live n at.found in absurd (not_empty r.0 r.1 n (sym r.2 ∙ none.0))
    | inr more ↦
        let a = more.1 in
        let among = point_among h.live n at.found in
        let le : n ≤ a = elim (split_push among.0 n among.1 more.0 a (sym among.2 ∙ more.2)) [
          | inl end ↦ let same : n ≡ a = end.1 in omega (arith, same)
          | inr rest ↦ numbered.never_fall among.0 rest.0 [] n a (among.2 ∙ ap (λ (l : List ℕ). among.0 ++ n ∷ l) rest.1)
        ] in
        let placed : has (is_point a) h.live ≡ true = among_has h.live more.0 [] a more.2 in
        let front = kept_below h.live next a numbered placed n le at in
        record { last = a; is = more.3; not_above = le; lives = record { found = placed; described = has_front (is_point n) is_described (until_first (is_point a) h.live) front.described } }
  ];
  some = λ found. elim (last_of h.live (pending_point h.pending)) [ inl none ↦ absurd (control_numbered h.live found none.0) | inr more ↦ (more.1, more.3) ];
}

-- ---- the next number

pub next_append : (xs ys : List Event) (k : ℕ) → next_after k (xs ++ ys) ≡ next_after (next_after k xs) ys
next_append [] ys k = refl
next_append (change f b before after ∷ xs) ys k = next_append xs ys k
next_append (quiet n ∷ xs) ys k = next_append xs ys (max k (n + 1))
next_append (control n next counts described ∷ xs) ys k = next_append xs ys next
next_append (begin n how ∷ xs) ys k = next_append xs ys k

pub next_stays : NextStays
unfolding next_number
next_stays entries (change f b before after) carries = omega (arith, next_append entries (change f b before after ∷ []) 0)
next_stays entries (quiet n) carries = omega (arith, next_append entries (quiet n ∷ []) 0)
next_stays entries (control n next counts described) carries = omega (arith, carries, next_append entries (control n next counts described ∷ []) 0)
next_stays entries (begin n how) carries = omega (arith, next_append entries (begin n how ∷ []) 0)

pub append_none : {A : Type 0} (xs : List A) → xs ++ [] ≡ xs
append_none [] = refl
append_none (x ∷ xs) = ap (λ (l : List _). x ∷ l) (append_none xs)

pub next_steps : EachNext
unfolding next_number
next_steps es = record {
  change = λ f b before after. ap (λ k. min (2 ^ 64 - 1) k) (next_append es (change f b before after ∷ []) 0);
  quiet = λ n le low. omega (arith, le, low, next_append es (quiet n ∷ []) 0);
  control = λ n next counts described. ap (λ k. min (2 ^ 64 - 1) k) (next_append es (control n next counts described ∷ []) 0);
  begin = λ m how. ap (λ k. min (2 ^ 64 - 1) k) (next_append es (begin m how ∷ []) 0);
}

next_grows : (ys xs : List Event) → ((us vs : List Event) (e : Event) → ys ≡ us ++ e ∷ vs → Carries e (next_number (xs ++ us))) → next_number xs ≤ next_number (xs ++ ys)
next_grows [] xs carries = omega (arith, ap next_number (append_none xs))
next_grows (e ∷ ys) xs carries =
    let one : next_number xs ≤ next_number (xs ++ e ∷ []) = next_stays xs e (subst (λ (l : List Event). Carries e (next_number l)) (append_none xs) (carries [] ys e refl)) in
    let more : next_number (xs ++ e ∷ []) ≤ next_number ((xs ++ e ∷ []) ++ ys) = next_grows ys (xs ++ e ∷ []) (λ us vs d is.
    subst (λ (l : List Event). Carries d (next_number l)) (sym (append_assoc xs (e ∷ []) us)) (carries (e ∷ us) vs d (ap (λ (l : List Event). e ∷ l) is))) in
    omega (arith, one, more, ap next_number (append_assoc xs (e ∷ []) ys))

above : (xs : List Event) (n : ℕ) → n < 2 ^ 64 - 1 → n < next_number (xs ++ quiet n ∷ [])
unfolding next_number
above xs n low = omega (arith, low, next_append xs (quiet n ∷ []) 0)

pub used_once : UsedOnce
used_once entries made xs ys zs n m is =
    let pre : List Event = xs ++ quiet n ∷ ys in
    let second = made.quiets pre zs m (is ∙ sym (append_assoc xs (quiet n ∷ ys) (quiet m ∷ zs))) in
    let first = made.quiets xs (ys ++ quiet m ∷ zs) n is in
    let more = next_grows ys (xs ++ quiet n ∷ []) (λ us vs e at.
    subst (λ (l : List Event). Carries e (next_number l)) (sym (append_assoc xs (quiet n ∷ []) us))
    (made.controls (xs ++ quiet n ∷ us) (vs ++ quiet m ∷ zs) e
    (is ∙ ap (λ (l : List Event). xs ++ quiet n ∷ (l ++ quiet m ∷ zs)) at
    ∙ ap (λ (l : List Event). xs ++ quiet n ∷ l) (append_assoc us (e ∷ vs) (quiet m ∷ zs)) ∙ sym (append_assoc xs (quiet n ∷ us) (e ∷ (vs ++ quiet m ∷ zs)))))) in
    omega (arith, second.0, above xs n first.1, more, ap next_number (append_assoc xs (quiet n ∷ []) ys))

-- ---- what is sealed next

fall_push : (pl : List ℕ) (n : ℕ) → ((xs ys zs : List ℕ) (a b : ℕ) → pl ≡ xs ++ a ∷ (ys ++ b ∷ zs) → a ≤ b) → ((xs ys : List ℕ) (a : ℕ) → pl ≡ xs ++ a ∷ ys → a ≤ n)
    → (xs ys zs : List ℕ) (a b : ℕ) → pl ++ n ∷ [] ≡ xs ++ a ∷ (ys ++ b ∷ zs) → a ≤ b
fall_push pl n never all xs ys zs a b is =
    elim (split_push (xs ++ a ∷ ys) b zs pl n (append_assoc xs (a ∷ ys) (b ∷ zs) ∙ sym is)) [
      | inl end ↦ let le : a ≤ n = all xs ys a (sym end.2) in let same : b ≡ n = end.1 in omega (arith, le, same)
      | inr more ↦ never xs ys more.0 a b (sym more.2 ∙ append_assoc xs (a ∷ ys) (b ∷ more.0))
    ]

below_push : (pl : List ℕ) (n k : ℕ) → ((xs ys : List ℕ) (a : ℕ) → pl ≡ xs ++ a ∷ ys → a < k) → n < k → (xs ys : List ℕ) (a : ℕ) → pl ++ n ∷ [] ≡ xs ++ a ∷ ys → a < k
below_push pl n k all low xs ys a is =
    elim (split_push xs a ys pl n (sym is)) [
      | inl end ↦ let same : a ≡ n = end.1 in omega (arith, low, same)
      | inr more ↦ all xs more.0 a (sym more.2)
    ]

pub numbers_change : NumbersChange
numbers_change entries live f b before after numbered =
    let e = change f b before after in
    let same : point_numbers (live ++ e ∷ []) ≡ point_numbers live = points_append live (e ∷ []) ∙ append_none (point_numbers live) in
    let stays = next_stays entries e tt in
    record {
      never_fall = λ xs ys zs n m is. numbered.never_fall xs ys zs n m (sym same ∙ is);
      below_next = λ xs ys n is. let low = numbered.below_next xs ys n (sym same ∙ is) in omega (arith, low, stays);
    }

pub numbers_quiet : NumbersQuiet
numbers_quiet entries live n numbered next low =
    let e = quiet n in
    let same : point_numbers (live ++ e ∷ []) ≡ point_numbers live ++ n ∷ [] = points_append live (e ∷ []) in
    let stays = next_stays entries e tt in
    record {
      never_fall = λ xs ys zs a b is. fall_push (point_numbers live) n numbered.never_fall (λ us vs c at. let k = numbered.below_next us vs c at in omega (arith, k, next)) xs ys zs a b (sym same ∙ is);
      below_next = λ xs ys a is. below_push (point_numbers live) n (next_number (entries ++ e ∷ [])) (λ us vs c at. let k = numbered.below_next us vs c at in omega (arith, k, stays)) (above entries n low) xs ys a (sym same ∙ is);
    }

pub numbers_begin : NumbersBegin
numbers_begin entries live m how numbered found =
    let e = begin m how in
    let front = until_first (is_point m) live in
    let rest = point_numbers (after_first (is_point m) live) in
    let halves : point_numbers live ≡ point_numbers front ++ rest = ap point_numbers (sym (split_first (is_point m) live found)) ∙ points_append front (after_first (is_point m) live) in
    let stays = next_stays entries e tt in
    record {
      never_fall = λ xs ys zs a b is. numbered.never_fall xs ys (zs ++ rest) a b
          (halves ∙ ap (λ (l : List ℕ). l ++ rest) is ∙ append_assoc xs (a ∷ (ys ++ b ∷ zs)) rest ∙ ap (λ (l : List ℕ). xs ++ a ∷ l) (append_assoc ys (b ∷ zs) rest));
      below_next = λ xs ys a is. let k = numbered.below_next xs (ys ++ rest) a (halves ∙ ap (λ (l : List ℕ). l ++ rest) is ∙ append_assoc xs (a ∷ ys) rest) in omega (arith, k, stays);
    }

pub numbers_level : NumbersLevel
numbers_level entries live n next counts described numbered free up low =
    let e = control n next counts described in
    let same : point_numbers (live ++ e ∷ []) ≡ point_numbers live ++ n ∷ [] = points_append live (e ∷ []) in
    let carried : next_number entries ≤ next = omega (arith, free, up) in
    let stays = next_stays entries e carried in
    let is : next_number (entries ++ e ∷ []) ≡ min (2 ^ 64 - 1) next = (next_steps entries).control n next counts described in
    let above_it : n < next_number (entries ++ e ∷ []) = omega (arith, up, low, is) in
    record {
      never_fall = λ xs ys zs a b at. fall_push (point_numbers live) n numbered.never_fall (λ us vs c on. let k = numbered.below_next us vs c on in omega (arith, k, free)) xs ys zs a b (sym same ∙ at);
      below_next = λ xs ys a at. below_push (point_numbers live) n (next_number (entries ++ e ∷ [])) (λ us vs c on. let k = numbered.below_next us vs c on in omega (arith, k, stays)) above_it xs ys a (sym same ∙ at);
    }

pub numbers_control : NumbersControl
numbers_control entries h m next counts described numbered last found carried =
    let live = h.live in
    let among = numbers_end live (pending_point h.pending) m found last in
    let us = among.0 in
    let ends = among.1 in
    let e = control m next counts described in
    let same : point_numbers (live ++ e ∷ []) ≡ point_numbers live ++ m ∷ [] = points_append live (e ∷ []) in
    let stays = next_stays entries e carried in
    let le : (xs ys : List ℕ) (a : ℕ) → point_numbers live ≡ xs ++ a ∷ ys → a ≤ m = λ xs ys a is. elim (split_push xs a ys us m (sym is ∙ ends)) [
      | inl end ↦ let eq : a ≡ m = end.1 in omega (arith, eq)
      | inr more ↦ numbered.never_fall xs more.0 [] a m (is ∙ ap (λ (l : List ℕ). xs ++ a ∷ l) more.1)
    ] in
    let low : m < next_number entries = numbered.below_next us [] m ends in
    record {
      never_fall = λ xs ys zs a b is. fall_push (point_numbers live) m numbered.never_fall le xs ys zs a b (sym same ∙ is);
      below_next = λ xs ys a is. below_push (point_numbers live) m (next_number (entries ++ e ∷ [])) (λ vs ws c at. let k = numbered.below_next vs ws c at in omega (arith, k, stays)) (omega (arith, low, stays)) xs ys a (sym same ∙ is);
    }

pub true_dump_serves : TrueDumpServes
true_dump_serves live base next m dump counted sound numbered at true_dump le = record {
  gives = λ f b low.
      true_right live base counted m sound at dump f b ((rolls_back live next m numbered at).kept dump.point le true_dump.point_lives) true_dump.same low
      ∙ ap (λ (c : AllBlocks). block_in c f b) (sym (at_point live base counted m sound at));
}

one_split : {A : Type 0} (xs : List A) (a : A) (ys : List A) (d : A) → d ∷ [] ≡ xs ++ a ∷ ys → (ys ≡ []) × (a ≡ d)
one_split xs a ys d is = elim (split_push xs a ys [] d (sym is)) [ inl end ↦ (end.0, end.1) | inr more ↦ absurd (not_empty xs more.0 a more.2) ]

pub numbers_first : NumbersFirst
unfolding next_number
numbers_first counts described = record {
  never_fall = λ xs ys zs n m is. absurd (not_empty ys zs m (one_split xs n (ys ++ m ∷ zs) 0 is).0);
  below_next = λ xs ys n is. let same : n ≡ 0 = (one_split xs n ys 0 is).1 in omega (arith, same);
}
