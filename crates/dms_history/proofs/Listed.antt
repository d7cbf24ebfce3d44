-- The live points as a list.
use Rattle.std.specs.Prelude.{◌&&◌, not}
use Rattle.std.proofs.Common.{ℕ, ◌≤◌, ◌<◌, ◌≡◌, ◌==◌, ◌||◌, inl, inr, Bool, true, false, cond, List, [], ◌∷◌, ◌++◌, map, refl, sym, ◌∙◌, ap, subst, arith, append_assoc}
use Rattle.std.proofs.lemmas.List.{map-append}
use Rattle.std.proofs.lemmas.Bool.Decides.{nat_tests}
use Rattle.std.proofs.lemmas.Bool.{true≢false}
use Rattle.dms_history.specs.Events.{Stored, Event, change, quiet, control, begin}
use Rattle.dms_history.specs.Lists.{has, until_first}
use Rattle.dms_history.specs.Places.{is_point, is_described, point_numbers, IsLive}
use Rattle.dms_history.specs.Pick.{blocks_at}
use Rattle.dms_history.specs.Agrees.{Numbered}
use Rattle.dms_history.specs.Points.{LivePoint, numbers_of, live_number, new_place, numbers_from, live_numbers, point_at, live_points, AllAbove, Rises, AllLive, ListsPoints}
use Rattle.dms_history.specs.LawsOfPointLists.{PointsListed, OneList, PointsPrefix, PointsStay}
use Rattle.dms_history.proofs.AtPoints.{true_or, or_true_right}
use Rattle.dms_history.proofs.Base.{has_append}
use Rattle.dms_history.proofs.HalfDone.{or_at}
use Rattle.dms_history.proofs.Order.{append_none, eq_of}
use Rattle.dms_history.proofs.Given.{at_point}
use Rattle.dms_history.proofs.Turns.{until_at}
use Rattle.dms_history.proofs.Running.{points_go_on}

pub same_number : (n : ℕ) → (n == n) ≡ true
same_number n = grind (arith, nat_tests)

-- ---- places

still_has : (p : Event → Bool) (front : List Event) (e : Event) → has p front ≡ true → has p (front ++ e ∷ []) ≡ true
still_has p front e found = has_append p front (e ∷ []) ∙ true_or (has p front) (has p (e ∷ [])) found

now_has : (p : Event → Bool) (front : List Event) (e : Event) → p e ≡ true → has p (front ++ e ∷ []) ≡ true
now_has p front e at = has_append p front (e ∷ []) ∙ or_true_right (has p front) (has p (e ∷ [])) (true_or (p e) false at)

pub numbers_append : (front xs ys : List Event) → numbers_from front (xs ++ ys) ≡ numbers_from front xs ++ numbers_from (front ++ xs) ys
numbers_append front [] ys = ap (λ (l : List Event). numbers_from l ys) (sym (append_none front))
numbers_append front (e ∷ xs) ys =
    ap (λ (l : List ℕ). new_place front e ++ l) (numbers_append (front ++ e ∷ []) xs ys)
    ∙ sym (append_assoc (new_place front e) (numbers_from (front ++ e ∷ []) xs) (numbers_from ((front ++ e ∷ []) ++ xs) ys))
    ∙ ap (λ (l : List Event). (new_place front e ++ numbers_from (front ++ e ∷ []) xs) ++ numbers_from l ys) (append_assoc front (e ∷ []) xs)

-- ---- each number listed is live

abbrev pub EachLive : List Event → List ℕ → Type 0
EachLive live [] = Unit {0}
EachLive live (n ∷ ns) = IsLive live n × EachLive live ns

all_both : (live : List Event) (ns ms : List ℕ) → EachLive live ns → EachLive live ms → EachLive live (ns ++ ms)
all_both live [] ms one two = two
all_both live (n ∷ ns) ms one two = (one.0, all_both live ns ms one.1 two)

placed_live : (n : ℕ) (front : List Event) (e : Event) (es : List Event) → is_point n e ≡ true → EachLive (front ++ e ∷ es) (live_number n front e)
placed_live n front e es at = go (has (is_point n) front) (has is_described (front ++ e ∷ [])) refl refl
  where
    go : (a b : Bool) → has (is_point n) front ≡ a → has is_described (front ++ e ∷ []) ≡ b → EachLive (front ++ e ∷ es) (cond (not a && b) (n ∷ []) [])
    go true b off told = tt
    go false false off told = tt
    go false true off told = (
      record {
        found = has_append (is_point n) front (e ∷ es) ∙ or_true_right (has (is_point n) front) (is_point n e || has (is_point n) es) (true_or (is_point n e) (has (is_point n) es) at);
        described = ap (λ (l : List Event). has is_described l) (until_at (is_point n) front e es off at) ∙ told;
      },
      tt,
    )

place_live : (front : List Event) (e : Event) (es : List Event) → EachLive (front ++ e ∷ es) (new_place front e)
place_live front (change f b before after) es = tt
place_live front (quiet n) es = placed_live n front (quiet n) es (same_number n)
place_live front (control n next counts described) es = placed_live n front (control n next counts described) es (same_number n)
place_live front (begin n how) es = tt

all_live_from : (front es : List Event) → EachLive (front ++ es) (numbers_from front es)
all_live_from front [] = tt
all_live_from front (e ∷ es) =
    all_both (front ++ e ∷ es) (new_place front e) (numbers_from (front ++ e ∷ []) es) (place_live front e es)
    (subst (λ (l : List Event). EachLive l (numbers_from (front ++ e ∷ []) es)) (append_assoc front (e ∷ []) es) (all_live_from (front ++ e ∷ []) es))

pub all_live : (live : List Event) → EachLive live (live_numbers live)
unfolding live_numbers
all_live live = all_live_from [] live

points_live : (live : List Event) (counted : Stored) (ns : List ℕ) → EachLive live ns → AllLive live counted (map (point_at live counted) ns)
points_live live counted [] all = tt
points_live live counted (n ∷ ns) all = (record { lives = all.0; same = refl }, points_live live counted ns all.1)

-- ---- the numbers rise

-- a number that gets its place behind that of n is another one
place_above : (n k : ℕ) (front : List Event) (e : Event) (rest : List ℕ) → has (is_point n) front ≡ true → n ≤ k → AllAbove n rest → AllAbove n (live_number k front e ++ rest)
place_above n k front e rest found le above = go (has (is_point k) front) (has is_described (front ++ e ∷ [])) refl
  where
    go : (a b : Bool) → has (is_point k) front ≡ a → AllAbove n (cond (not a && b) (k ∷ []) [] ++ rest)
    go true b is = above
    go false false is = above
    go false true is = (omega (arith, le, λ (same : n ≡ k). true≢false (sym found ∙ ap (λ j. has (is_point j) front) same ∙ is)), above)

-- numbers behind one that has its place are above it
pub rest_above : (n : ℕ) (front es : List Event) → has (is_point n) front ≡ true → ((ys zs : List ℕ) (m : ℕ) → point_numbers es ≡ ys ++ m ∷ zs → n ≤ m) → AllAbove n (numbers_from front es)
rest_above n front [] found above = tt
rest_above n front (change f b before after ∷ es) found above = rest_above n (front ++ change f b before after ∷ []) es (still_has (is_point n) front (change f b before after) found) above
rest_above n front (quiet k ∷ es) found above =
    place_above n k front (quiet k) (numbers_from (front ++ quiet k ∷ []) es) found (above [] (point_numbers es) k refl)
    (rest_above n (front ++ quiet k ∷ []) es (still_has (is_point n) front (quiet k) found) (λ ys zs m is. above (k ∷ ys) zs m (ap (λ (l : List ℕ). k ∷ l) is)))
rest_above n front (control k next counts described ∷ es) found above =
    place_above n k front (control k next counts described) (numbers_from (front ++ control k next counts described ∷ []) es) found (above [] (point_numbers es) k refl)
    (rest_above n (front ++ control k next counts described ∷ []) es (still_has (is_point n) front (control k next counts described) found) (λ ys zs m is. above (k ∷ ys) zs m (ap (λ (l : List ℕ). k ∷ l) is)))
rest_above n front (begin m how ∷ es) found above = rest_above n (front ++ begin m how ∷ []) es (still_has (is_point n) front (begin m how) found) above

abbrev NeverFall : List ℕ → Type 0
NeverFall ns = (xs ys zs : List ℕ) (a b : ℕ) → ns ≡ xs ++ a ∷ (ys ++ b ∷ zs) → a ≤ b

place_rises : (n : ℕ) (front : List Event) (e : Event) (rest : List ℕ) → AllAbove n rest → Rises rest → Rises (live_number n front e ++ rest)
place_rises n front e rest above rises = go (not (has (is_point n) front) && has is_described (front ++ e ∷ []))
  where
    go : (b : Bool) → Rises (cond b (n ∷ []) [] ++ rest)
    go true = (above, rises)
    go false = rises

rises_from : (front es : List Event) → NeverFall (point_numbers es) → Rises (numbers_from front es)
rises_from front [] never = tt
rises_from front (change f b before after ∷ es) never = rises_from (front ++ change f b before after ∷ []) es never
rises_from front (quiet n ∷ es) never =
    place_rises n front (quiet n) (numbers_from (front ++ quiet n ∷ []) es)
    (rest_above n (front ++ quiet n ∷ []) es (now_has (is_point n) front (quiet n) (same_number n)) (λ ys zs m is. never [] ys zs n m (ap (λ (l : List ℕ). n ∷ l) is)))
    (rises_from (front ++ quiet n ∷ []) es (λ xs ys zs a b is. never (n ∷ xs) ys zs a b (ap (λ (l : List ℕ). n ∷ l) is)))
rises_from front (control n next counts described ∷ es) never =
    place_rises n front (control n next counts described) (numbers_from (front ++ control n next counts described ∷ []) es)
    (rest_above n (front ++ control n next counts described ∷ []) es (now_has (is_point n) front (control n next counts described) (same_number n)) (λ ys zs m is. never [] ys zs n m (ap (λ (l : List ℕ). n ∷ l) is)))
    (rises_from (front ++ control n next counts described ∷ []) es (λ xs ys zs a b is. never (n ∷ xs) ys zs a b (ap (λ (l : List ℕ). n ∷ l) is)))
rises_from front (begin n how ∷ es) never = rises_from (front ++ begin n how ∷ []) es never

-- ---- each live point is listed

abbrev lists : ℕ → List ℕ → Bool
lists n ns = has (λ m. m == n) ns

lists_right : (n : ℕ) (xs ys : List ℕ) → lists n ys ≡ true → lists n (xs ++ ys) ≡ true
lists_right n [] ys on = on
lists_right n (x ∷ xs) ys on = or_true_right (x == n) (lists n (xs ++ ys)) (lists_right n xs ys on)

place_listed : (n k : ℕ) (front : List Event) (e : Event) (rest : List ℕ) → k ≡ n → has (is_point n) front ≡ false → has is_described (front ++ e ∷ []) ≡ true → lists n (live_number k front e ++ rest) ≡ true
place_listed n k front e rest same off told =
    (λ i. lists n (cond (not ((ap (λ j. has (is_point j) front) same ∙ off) i) && told i) (k ∷ []) [] ++ rest)) ∙ true_or (k == n) (lists n rest) (grind (arith, nat_tests, same))

listed_from : (n : ℕ) (front es : List Event) → has (is_point n) front ≡ false → has (is_point n) es ≡ true → has is_described (until_first (is_point n) (front ++ es)) ≡ true → lists n (numbers_from front es) ≡ true
listed_from n front [] off found told = absurd (true≢false (sym found))
listed_from n front (e ∷ es) off found told = elim (or_at (is_point n e) (has (is_point n) es) found) [
  | inl at ↦ here e at (ap (λ (l : List Event). has is_described l) (sym (until_at (is_point n) front e es off at)) ∙ told)
  | inr more ↦
      lists_right n (new_place front e) (numbers_from (front ++ e ∷ []) es)
      (listed_from n (front ++ e ∷ []) es (has_append (is_point n) front (e ∷ []) ∙ (λ i. off i || (more.0 i || false))) more.1
      (ap (λ (l : List Event). has is_described (until_first (is_point n) l)) (append_assoc front (e ∷ []) es) ∙ told))
]
  where
    here : (e : Event) → is_point n e ≡ true → has is_described (front ++ e ∷ []) ≡ true → lists n (new_place front e ++ numbers_from (front ++ e ∷ []) es) ≡ true
    here (change f b before after) at told = absurd (true≢false (sym at))
    here (quiet k) at told = place_listed n k front (quiet k) (numbers_from (front ++ quiet k ∷ []) es) (eq_of k n at) off told
    here (control k next counts described) at told = place_listed n k front (control k next counts described) (numbers_from (front ++ control k next counts described ∷ []) es) (eq_of k n at) off told
    here (begin k how) at told = absurd (true≢false (sym at))

pub live_is_listed : (live : List Event) (n : ℕ) → IsLive live n → has (λ m. m == n) (live_numbers live) ≡ true
unfolding live_numbers
live_is_listed live n at = listed_from n [] live refl at.found at.described

pub numbers_back : (live : List Event) (counted : Stored) (ns : List ℕ) → numbers_of (map (point_at live counted) ns) ≡ ns
numbers_back live counted [] = refl
numbers_back live counted (n ∷ ns) = ap (λ (l : List ℕ). n ∷ l) (numbers_back live counted ns)

pub numbers_rise : (live : List Event) (next : ℕ) → Numbered live next → Rises (live_numbers live)
unfolding live_numbers
numbers_rise live next numbered = rises_from [] live (λ xs ys zs a b is. numbered.never_fall xs ys zs a b is)

pub listed_rising : (live : List Event) (counted : Stored) → Rises (live_numbers live) → ListsPoints live counted (live_points live counted)
unfolding live_points live_numbers
listed_rising live counted rises =
    let back = numbers_back live counted (numbers_from [] live) in
    record {
      rises = subst Rises (sym back) rises;
      lives = points_live live counted (numbers_from [] live) (all_live_from [] live);
      all = λ n at. ap (λ (l : List ℕ). lists n l) back ∙ listed_from n [] live refl at.found at.described;
    }

pub points_listed : PointsListed
points_listed live next counted numbered = listed_rising live counted (numbers_rise live next numbered)

-- ---- only one list

above_in : (n k : ℕ) (ns : List ℕ) → AllAbove n ns → lists k ns ≡ true → n < k
above_in n k [] above found = absurd (true≢false (sym found))
above_in n k (m ∷ ns) above found = elim (or_at (m == k) (lists k ns) found) [
  | inl same ↦ omega (arith, above.0, eq_of m k same)
  | inr more ↦ above_in n k ns above.1 more.1
]

same_rising : (ns ms : List ℕ) → Rises ns → Rises ms → ((k : ℕ) → lists k ns ≡ true → lists k ms ≡ true) → ((k : ℕ) → lists k ms ≡ true → lists k ns ≡ true) → ns ≡ ms
same_rising [] [] one two there back = refl
same_rising [] (m ∷ ms) one two there back = absurd (true≢false (sym (back m (true_or (m == m) (lists m ms) (same_number m)))))
same_rising (n ∷ ns) [] one two there back = absurd (true≢false (sym (there n (true_or (n == n) (lists n ns) (same_number n)))))
same_rising (n ∷ ns) (m ∷ ms) one two there back =
    let head : n ≡ m = elim (or_at (m == n) (lists n ms) (there n (true_or (n == n) (lists n ns) (same_number n)))) [
      | inl same ↦ sym (eq_of m n same)
      | inr more ↦
          let up : m < n = above_in m n ms two.0 more.1 in
          elim (or_at (n == m) (lists m ns) (back m (true_or (m == m) (lists m ms) (same_number m)))) [
            | inl same ↦ eq_of n m same
            | inr less ↦ let down : n < m = above_in n m ns one.0 less.1 in absurd (omega (arith, up, down))
          ]
    ] in
    let rest : ns ≡ ms = same_rising ns ms one.1 two.1
    (λ k on. elim (or_at (m == k) (lists k ms) (there k (or_true_right (n == k) (lists k ns) on))) [
      | inl same ↦ let up : n < k = above_in n k ns one.0 on in absurd (omega (arith, up, head, eq_of m k same))
      | inr more ↦ more.1
    ])
    (λ k on. elim (or_at (n == k) (lists k ns) (back k (or_true_right (m == k) (lists k ms) on))) [
      | inl same ↦ let up : m < k = above_in m k ms two.0 on in absurd (omega (arith, up, head, eq_of n k same))
      | inr more ↦ more.1
    ]) in
    λ i. head i ∷ rest i

live_listed : (live : List Event) (counted : Stored) (ps : List LivePoint) (n : ℕ) → AllLive live counted ps → lists n (numbers_of ps) ≡ true → IsLive live n
live_listed live counted [] n all found = absurd (true≢false (sym found))
live_listed live counted (p ∷ ps) n all found = elim (or_at (p.number == n) (lists n (numbers_of ps)) found) [
  | inl same ↦ subst (λ k. IsLive live k) (eq_of p.number n same) all.0.lives
  | inr more ↦ live_listed live counted ps n all.1 more.1
]

points_again : (live : List Event) (counted : Stored) (ps : List LivePoint) → AllLive live counted ps → ps ≡ map (point_at live counted) (numbers_of ps)
points_again live counted [] all = refl
points_again live counted (p ∷ ps) all = λ i. record { number = p.number; blocks = sym all.0.same i } ∷ points_again live counted ps all.1 i

pub one_list : OneList
one_list live counted ps qs one two =
    let same : numbers_of ps ≡ numbers_of qs = same_rising (numbers_of ps) (numbers_of qs) one.rises two.rises
    (λ k on. two.all k (live_listed live counted ps k one.lives on)) (λ k on. one.all k (live_listed live counted qs k two.lives on)) in
    points_again live counted ps one.lives ∙ ap (λ (l : List ℕ). map (point_at live counted) l) same ∙ sym (points_again live counted qs two.lives)

-- ---- longer lists

pub points_alike : (live later : List Event) (counted then : Stored) (ns : List ℕ) → EachLive live ns → ((n : ℕ) → IsLive live n → blocks_at later then n ≡ blocks_at live counted n)
    → map (point_at later then) ns ≡ map (point_at live counted) ns
points_alike live later counted then [] all same = refl
points_alike live later counted then (n ∷ ns) all same = λ i. record { number = n; blocks = same n all.0 i } ∷ points_alike live later counted then ns all.1 same i

pub points_front : PointsPrefix
unfolding live_points live_numbers
points_front live more base counted later sound grown =
    ap (λ (l : List ℕ). map (point_at (live ++ more) later) l) (numbers_append [] live more)
    ∙ map-append (point_at (live ++ more) later) (numbers_from [] live) (numbers_from live more)
    ∙ ap (λ (l : List LivePoint). l ++ map (point_at (live ++ more) later) (numbers_from live more))
    (points_alike live (live ++ more) counted later (numbers_from [] live) (all_live_from [] live) (λ n at. (points_go_on live more base counted later n sound grown at).same))

pub points_stay : PointsStay
unfolding live_points live_numbers
points_stay live base counted later one two =
    points_alike live live counted later (numbers_from [] live) (all_live_from [] live) (λ n at. at_point live base later n two at ∙ sym (at_point live base counted n one at))
