-- Each point that is kept is live.
use Rattle.std.specs.Prelude.{◌||◌, ◌&&◌, nat_lt, slice_index_or, option_map}
use Rattle.std.proofs.Common.{ℕ, suc, ◌+◌, ◌<◌, ◌≤◌, min, max, ◌≡◌, ◌==◌, ◌⊎◌, inl, inr, Bool, true, false, cond, List, [], ◌∷◌, ◌++◌, take, map, Option, Some, None, refl, sym, ◌∙◌, ap, subst, arith}
use Rattle.std.proofs.lemmas.Bool.{cases_Bool}
use Rattle.std.proofs.lemmas.Bool.Decides.{nat_tests}
use Rattle.dms_history.specs.Entries.{Entry, schema_part, image, byte_range, quiet_point, control_point, begin_restore}
use Rattle.dms_history.specs.Lists.{has, until_first}
use Rattle.dms_history.specs.Schemas.{Parts, no_parts, after_entry, is_whole}
use Rattle.dms_points.specs.declared.keeping.PlaceAt.{PlaceAt}
use Rattle.dms_points.specs.Keeping.{Kept, no_entry, place_among, is_last, forget, seen, placed, emptied, after_part, after_number, after_control, cut_at, after_begin, after}
use Rattle.dms_points.proofs.Fronts.{cannot, has_front, has_back, has_none, has_within, has_own, until_kept, until_new, until_until}
use Rattle.dms_points.proofs.Marks.{Mark, Marked, is_number, is_whole_mark, no_mark, after_mark, marked_from, lives}
use Rattle.dms_points.specs.Points.{Filed, entry_of, kept_from, kept_of, AllLive}

abbrev Stated : List Mark → PlaceAt → Type 0
Stated ms p = (s : ℕ) → p.need ≡ Some s → has is_whole_mark (until_first (is_number p.number) ms) ≡ true

-- the point stands before these
abbrev Before : List Mark → PlaceAt → List PlaceAt → Type 0
Before ms p [] = Unit {0}
Before ms p (q ∷ qs) = (has (is_number p.number) (until_first (is_number q.number) ms) ≡ true) × Before ms p qs

-- the places stand among marks in this order, each with its Schema
abbrev pub Stand : List Mark → List PlaceAt → Type 0
Stand ms [] = Unit {0}
Stand ms (p ∷ ps) = (has (is_number p.number) ms ≡ true) × Stated ms p × Before ms p ps × Stand ms ps

abbrev AllThere : List Mark → List PlaceAt → Type 0
AllThere ms [] = Unit {0}
AllThere ms (p ∷ ps) = (has (is_number p.number) ms ≡ true) × AllThere ms ps

all_there : (ms : List Mark) (ps : List PlaceAt) → Stand ms ps → AllThere ms ps
all_there ms [] all = tt
all_there ms (p ∷ ps) all = (all.0, all_there ms ps all.3)

-- ---- one mark more

before_more : (ms : List Mark) (y : Mark) (p : PlaceAt) (qs : List PlaceAt) → AllThere ms qs → Before ms p qs → Before (ms ++ y ∷ []) p qs
before_more ms y p [] there all = tt
before_more ms y p (q ∷ qs) there all = (
  ap (λ (l : List Mark). has (is_number p.number) l) (until_kept (is_number q.number) ms (y ∷ []) there.0) ∙ all.0,
  before_more ms y p qs there.1 all.1,
)

pub stand_more : (ms : List Mark) (y : Mark) (ps : List PlaceAt) → Stand ms ps → Stand (ms ++ y ∷ []) ps
stand_more ms y [] all = tt
stand_more ms y (p ∷ ps) all = (
  has_front (is_number p.number) ms (y ∷ []) all.0,
  λ s need. ap (λ (l : List Mark). has is_whole_mark l) (until_kept (is_number p.number) ms (y ∷ []) all.0) ∙ all.1 s need,
  before_more ms y p ps (all_there ms ps all.3) all.2,
  stand_more ms y ps all.3,
)

-- one place more, whose mark is the last
before_push : (ms : List Mark) (y : Mark) (n : ℕ) (need : Option ℕ) (p : PlaceAt) (qs : List PlaceAt) → has (is_number n) ms ≡ false → is_number n y ≡ true → has (is_number p.number) (ms ++ y ∷ []) ≡ true
    → Before (ms ++ y ∷ []) p qs → Before (ms ++ y ∷ []) p (qs ++ record { number = n; need = need } ∷ [])
before_push ms y n need p [] off on found all = (ap (λ (l : List Mark). has (is_number p.number) l) (until_new (is_number n) ms y off on) ∙ found, tt)
before_push ms y n need p (q ∷ qs) off on found all = (all.0, before_push ms y n need p qs off on found all.1)

pub stand_push : (ms : List Mark) (y : Mark) (n : ℕ) (need : Option ℕ) (ps : List PlaceAt) → has (is_number n) ms ≡ false → is_number n y ≡ true
    → ((s : ℕ) → need ≡ Some s → has is_whole_mark (ms ++ y ∷ []) ≡ true) → Stand (ms ++ y ∷ []) ps → Stand (ms ++ y ∷ []) (ps ++ record { number = n; need = need } ∷ [])
stand_push ms y n need [] off on whole all = (
  has_back (is_number n) ms (y ∷ []) (ap (λ b. b || false) on),
  λ s is. ap (λ (l : List Mark). has is_whole_mark l) (until_new (is_number n) ms y off on) ∙ whole s is,
  tt,
  tt,
)
stand_push ms y n need (p ∷ ps) off on whole all = (all.0, all.1, before_push ms y n need p ps off on all.0 all.2, stand_push ms y n need ps off on whole all.3)

-- ---- a front of the marks

some_suc : (i j : ℕ) → Some (j + 1) ≡ Some i → i ≡ j + 1
some_suc i j is = cc

-- the place of a point that was found
record FoundAt (ps : List PlaceAt) (n i : ℕ) : Type 0 where
  front : List PlaceAt
  place : PlaceAt
  back : List PlaceAt
  is : ps ≡ front ++ place ∷ back
  cut : take (i + 1) ps ≡ front ++ place ∷ []
  number_is : place.number ≡ n
  at : slice_index_or ps i (record { number = 0; need = None }) ≡ place

number_eq : (m n : ℕ) → (m == n) ≡ true → m ≡ n
number_eq m n is = grind (arith, nat_tests)

next_suc : (j : ℕ) → suc j + 1 ≡ suc (j + 1)
next_suc j = omega arith

found_at : (ps : List PlaceAt) (n i : ℕ) → place_among ps n ≡ Some i → FoundAt ps n i
found_at [] n i is = absurd cc
found_at (p ∷ ps) n i is = go (p.number == n) refl (place_among ps n) refl is (λ j found. found_at ps n j found)
  where
    go : (b : Bool) → (p.number == n) ≡ b → (o : Option ℕ) → place_among ps n ≡ o → cond b (Some 0) (option_map (λ k. k + 1) o) ≡ Some i → ((j : ℕ) → place_among ps n ≡ Some j → FoundAt ps n j) → FoundAt (p ∷ ps) n i
    go true same o found at rest =
        let zero_is : i ≡ 0 = cc in
        subst (λ k. FoundAt (p ∷ ps) n k) (sym zero_is) (record { front = []; place = p; back = ps; is = refl; cut = refl; number_is = number_eq p.number n same; at = refl })
    go false other None found at rest = absurd cc
    go false other (Some j) found at rest =
        let r = rest j found in
        let e : i ≡ suc j = some_suc i j at ∙ omega arith in
        subst (λ k. FoundAt (p ∷ ps) n k) (sym e) (record {
          front = p ∷ r.front;
          place = r.place;
          back = r.back;
          is = ap (λ (l : List PlaceAt). p ∷ l) r.is;
          cut = ap (λ k. take k (p ∷ ps)) (next_suc j) ∙ ap (λ (l : List PlaceAt). p ∷ l) r.cut;
          number_is = r.number_is;
          at = r.at;
        })

before_one : (ms : List Mark) (p place : PlaceAt) (front back : List PlaceAt) → Before ms p (front ++ place ∷ back) → has (is_number p.number) (until_first (is_number place.number) ms) ≡ true
before_one ms p place [] back all = all.0
before_one ms p place (q ∷ front) back all = before_one ms p place front back all.1

before_cut : (ms : List Mark) (m : ℕ) (p : PlaceAt) (qs : List PlaceAt) → AllThere (until_first (is_number m) ms) qs → Before ms p qs → Before (until_first (is_number m) ms) p qs
before_cut ms m p [] there all = tt
before_cut ms m p (q ∷ qs) there all = (
  ap (λ (l : List Mark). has (is_number p.number) l) (until_until (is_number m) (is_number q.number) ms there.0) ∙ all.0,
  before_cut ms m p qs there.1 all.1,
)

before_part : (ms : List Mark) (p place : PlaceAt) (front back : List PlaceAt) → Before ms p (front ++ place ∷ back) → Before ms p (front ++ place ∷ [])
before_part ms p place [] back all = (all.0, tt)
before_part ms p place (q ∷ front) back all = (all.0, before_part ms p place front back all.1)

pub stand_cut : (ms : List Mark) (front : List PlaceAt) (place : PlaceAt) (back : List PlaceAt) → Stand ms (front ++ place ∷ back) → Stand (until_first (is_number place.number) ms) (front ++ place ∷ [])
stand_cut ms [] place back all =
    let own = has_own (is_number place.number) ms all.0 in (
      own,
      λ s need. ap (λ (l : List Mark). has is_whole_mark l) (until_until (is_number place.number) (is_number place.number) ms own) ∙ all.1 s need,
      tt,
      tt,
    )
stand_cut ms (p ∷ front) place back all =
    let rest = stand_cut ms front place back all.3 in
    let here = before_one ms p place front back all.2 in (
      here,
      λ s need. ap (λ (l : List Mark). has is_whole_mark l) (until_until (is_number place.number) (is_number p.number) ms here) ∙ all.1 s need,
      before_cut ms place.number p (front ++ place ∷ []) (all_there (until_first (is_number place.number) ms) (front ++ place ∷ []) rest) (before_part ms p place front back all.2),
      rest,
    )

stated_one : (ms : List Mark) (place : PlaceAt) (front back : List PlaceAt) → Stand ms (front ++ place ∷ back) → Stated ms place
stated_one ms place [] back all = all.1
stated_one ms place (p ∷ front) back all = stated_one ms place front back all.3

-- ---- what is kept

-- what is kept tells of these marks
pub record Tells (k : Kept) (m : Marked) : Type 0 where
  parts_is : m.parts ≡ k.parts
  need_is : (s : ℕ) → k.need ≡ Some s → has is_whole_mark m.marks ≡ true
  pub stand : Stand m.marks k.places
  low : (n : ℕ) → has (is_number n) m.marks ≡ true → (k.least ≤ n) × (n ≤ k.greatest)

last_there : (ms : List Mark) (ps : List PlaceAt) (n : ℕ) → Stand ms ps → is_last ps n ≡ true → has (is_number n) ms ≡ true
last_there ms [] n all is = cannot (sym is)
last_there ms (p ∷ []) n all is = subst (λ k. has (is_number k) ms ≡ true) (number_eq p.number n is) all.0
last_there ms (p ∷ (q ∷ ps)) n all is = last_there ms (q ∷ ps) n all.3 is

range_of : (ms : List Mark) (n i : ℕ) (d : Bool) → has (is_number i) (ms ++ record { number = n; described = d } ∷ []) ≡ true → (has (is_number i) ms ≡ true) ⊎ (i ≡ n)
range_of ms n i d found = elim (cases_Bool (has (is_number i) ms)) [
  | inl on ↦ inl on
  | inr off ↦ elim (cases_Bool (n == i)) [
    | inl same ↦ inr (sym (number_eq n i same))
    | inr other ↦ cannot (sym found ∙ has_none (is_number i) ms (record { number = n; described = d } ∷ []) off (ap (λ b. b || false) other))
  ]
]

self_eq : (n : ℕ) → (n == n) ≡ true
self_eq n = grind (arith, nat_tests)

seen_low : (least greatest n i : ℕ) → ((least ≤ i) × (i ≤ greatest)) ⊎ (i ≡ n) → (min least n ≤ i) × (i ≤ max greatest n)
seen_low least greatest n i is = elim is [
  | inl within ↦ (omega (arith, within.0), omega (arith, within.1))
  | inr same ↦ (omega (arith, same), omega (arith, same))
]

lt_of : (m n : ℕ) → nat_lt m n ≡ true → m < n
lt_of m n is = grind (arith, nat_tests)

is_new_of : (greatest least n : ℕ) → nat_lt greatest n || nat_lt n least ≡ true → ((least ≤ n) × (n ≤ greatest)) → ⊥
is_new_of greatest least n is within = go (nat_lt greatest n) (nat_lt n least) refl refl is
  where
    go : (b c : Bool) → nat_lt greatest n ≡ b → nat_lt n least ≡ c → b || c ≡ true → ⊥
    go true c above below some = let low = lt_of greatest n above in absurd (omega (arith, low, within.1))
    go false true above below some = let low = lt_of n least below in absurd (omega (arith, low, within.0))
    go false false above below some = cannot (sym some)

-- with the number of a mark, whose Schema is told where one is needed
pub number_tells : (k : Kept) (ms : List Mark) (n : ℕ) (d : Bool) → Stand ms k.places → ((i : ℕ) → has (is_number i) ms ≡ true → (k.least ≤ i) × (i ≤ k.greatest))
    → ((s : ℕ) → k.need ≡ Some s → has is_whole_mark (ms ++ record { number = n; described = d } ∷ []) ≡ true)
    → Tells (forget (after_number k n)) (record { parts = no_parts; marks = ms ++ record { number = n; described = d } ∷ [] })
number_tells k ms n d stands within whole = go (is_last k.places n) refl (nat_lt k.greatest n || nat_lt n k.least) refl
  where
    y : Mark
    y = record { number = n; described = d }

    low_on : (i : ℕ) → has (is_number i) (ms ++ y ∷ []) ≡ true → (min k.least n ≤ i) × (i ≤ max k.greatest n)
    low_on i found = seen_low k.least k.greatest n i (elim (range_of ms n i d found) [ inl on ↦ inl (within i on) | inr same ↦ inr same ])

    go : (b : Bool) → is_last k.places n ≡ b → (c : Bool) → (nat_lt k.greatest n || nat_lt n k.least) ≡ c
        → Tells (forget (cond b k (cond c (placed (seen k n) n) (emptied (seen k n))))) (record { parts = no_parts; marks = ms ++ y ∷ [] })
    go true last c is = record {
      parts_is = refl;
      need_is = whole;
      stand = stand_more ms y k.places stands;
      low = λ i found. elim (range_of ms n i d found) [
        | inl on ↦ within i on
        | inr same ↦ subst (λ j. (k.least ≤ j) × (j ≤ k.greatest)) (sym same) (within n (last_there ms k.places n stands last))
      ];
    }
    go false last true is =
        let off : has (is_number n) ms ≡ false = elim (cases_Bool (has (is_number n) ms)) [ inl on ↦ absurd (is_new_of k.greatest k.least n is (within n on)) | inr off ↦ off ] in
        record {
          parts_is = refl;
          need_is = whole;
          stand = stand_push ms y n k.need k.places off (self_eq n) whole (stand_more ms y k.places stands);
          low = low_on;
        }
    go false last false is = record { parts_is = refl; need_is = whole; stand = tt; low = low_on }

whole_last : (ms : List Mark) (n : ℕ) → has is_whole_mark (ms ++ record { number = n; described = true } ∷ []) ≡ true
whole_last ms n = has_back is_whole_mark ms (record { number = n; described = true } ∷ []) refl

control_tells : (k : Kept) (m : Marked) (n : ℕ) → Tells k m → Tells (forget (after_control k n)) (record { parts = no_parts; marks = m.marks ++ record { number = n; described = is_whole m.parts } ∷ [] })
control_tells k m n t = go (is_whole k.parts) refl
  where
    go : (b : Bool) → is_whole k.parts ≡ b
        → Tells (forget (after_number (cond b (record { places = k.places; need = Some k.begun; parts = k.parts; begun = k.begun; least = k.least; greatest = k.greatest }) k) n)) (record { parts = no_parts; marks = m.marks ++ record { number = n; described = is_whole m.parts } ∷ [] })
    go true is =
        let told : is_whole m.parts ≡ true = ap (λ (p : Parts). is_whole p) t.parts_is ∙ is in
        let whole : has is_whole_mark (m.marks ++ record { number = n; described = is_whole m.parts } ∷ []) ≡ true = ap (λ b. has is_whole_mark (m.marks ++ record { number = n; described = b } ∷ [])) told ∙ whole_last m.marks n in
        number_tells (record { places = k.places; need = Some k.begun; parts = k.parts; begun = k.begun; least = k.least; greatest = k.greatest }) m.marks n (is_whole m.parts) t.stand t.low (λ s need. whole)
    go false is = number_tells k m.marks n (is_whole m.parts) t.stand t.low (λ s need. has_front is_whole_mark m.marks (record { number = n; described = is_whole m.parts } ∷ []) (t.need_is s need))

-- with a part of a Schema
part_tells : (k : Kept) (m : Marked) (f part parts : ℕ) (bytes : List ℕ) → Tells k m → Tells (after_part k f part parts) (record { parts = after_entry k.parts (schema_part part parts bytes); marks = m.marks })
part_tells k m f part parts bytes t = go (part == 1) ((part == k.parts.read + 1) && (parts == k.parts.all))
  where
    go : (b c : Bool)
        → Tells (cond b (record { places = k.places; need = k.need; parts = record { read = 1; all = parts }; begun = f; least = k.least; greatest = k.greatest })
        (cond c (record { places = k.places; need = k.need; parts = record { read = part; all = parts }; begun = k.begun; least = k.least; greatest = k.greatest }) (forget k)))
        (record { parts = cond b (record { read = 1; all = parts }) (cond c (record { read = part; all = parts }) no_parts); marks = m.marks })
    go true c = record { parts_is = refl; need_is = t.need_is; stand = t.stand; low = t.low }
    go false true = record { parts_is = refl; need_is = t.need_is; stand = t.stand; low = t.low }
    go false false = record { parts_is = refl; need_is = t.need_is; stand = t.stand; low = t.low }

-- with a Begin
begin_tells : (k : Kept) (m : Marked) (n : ℕ) → Tells k m → Tells (after_begin k n) (record { parts = no_parts; marks = until_first (is_number n) m.marks })
begin_tells k m n t = go (place_among k.places n) refl
  where
    low_on : (i : ℕ) → has (is_number i) (until_first (is_number n) m.marks) ≡ true → (k.least ≤ i) × (i ≤ k.greatest)
    low_on i found = t.low i (has_within (is_number n) (is_number i) m.marks found)

    go : (o : Option ℕ) → place_among k.places n ≡ o → Tells (cut_at k o) (record { parts = no_parts; marks = until_first (is_number n) m.marks })
    go None is = record { parts_is = refl; need_is = λ s need. absurd cc; stand = tt; low = low_on }
    go (Some i) is =
        let r = found_at k.places n i is in
        let stands : Stand m.marks (r.front ++ r.place ∷ r.back) = subst (λ (l : List PlaceAt). Stand m.marks l) r.is t.stand in
        record {
          parts_is = refl;
          need_is = λ s need. subst (λ j. has is_whole_mark (until_first (is_number j) m.marks) ≡ true) r.number_is
              (stated_one m.marks r.place r.front r.back stands s (sym (ap (λ (p : PlaceAt). p.need) r.at) ∙ need));
          stand = subst (λ (l : List PlaceAt). Stand (until_first (is_number n) m.marks) l) (sym r.cut)
              (subst (λ j. Stand (until_first (is_number j) m.marks) (r.front ++ r.place ∷ [])) r.number_is (stand_cut m.marks r.front r.place r.back stands));
          low = low_on;
        }

tells_after : (k : Kept) (m : Marked) (f : ℕ) (e : Entry) → Tells k m → Tells (after k f e) (after_mark m e)
tells_after k m f (schema_part part parts bytes) t =
    subst (λ (p : Parts). Tells (after_part k f part parts) (record { parts = after_entry p (schema_part part parts bytes); marks = m.marks })) (sym t.parts_is) (part_tells k m f part parts bytes t)
tells_after k m f (image g b before bytes) t = record { parts_is = refl; need_is = t.need_is; stand = t.stand; low = t.low }
tells_after k m f (byte_range g b place bytes) t = record { parts_is = refl; need_is = t.need_is; stand = t.stand; low = t.low }
tells_after k m f (quiet_point n) t =
    number_tells k m.marks n false t.stand t.low (λ s need. has_front is_whole_mark m.marks (record { number = n; described = false } ∷ []) (t.need_is s need))
tells_after k m f (control_point n next counts) t = control_tells k m n t
tells_after k m f (begin_restore n kind) t = begin_tells k m n t

tells_from : (k : Kept) (m : Marked) (xs : List Filed) → Tells k m → Tells (kept_from k xs) (marked_from m (map entry_of xs))
tells_from k m [] t = t
tells_from k m (x ∷ xs) t = tells_from (after k x.file x.entry) (after_mark m x.entry) xs (tells_after k m x.file x.entry t)

none_there : (n : ℕ) → has (is_number n) [] ≡ true → ⊥
none_there n is = cannot (sym is)

-- each place that is kept, with a Schema, is that of a live point
live_all : (es : List Entry) (ps : List PlaceAt) → Stand (marked_from no_mark es).marks ps → AllLive es ps
live_all es [] all = tt
live_all es (p ∷ ps) all = (λ s need. lives es p.number all.0 (all.1 s need), live_all es ps all.3)

pub kept_live : (xs : List Filed) → AllLive (map entry_of xs) (kept_of xs).places
kept_live xs =
    let t = tells_from no_entry no_mark xs (record { parts_is = refl; need_is = λ s need. absurd cc; stand = tt; low = λ n found. absurd (none_there n found) }) in
    live_all (map entry_of xs) (kept_of xs).places t.stand
