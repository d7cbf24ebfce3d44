-- The records of a content: the used slots of all data sets, what stands under a number, and all of them in order.
use Rattle.std.proofs.Common.{◌≡◌, ◌≢◌, ◌∙◌, ◌+◌, ◌-◌, ◌<◌, ◌≤◌, ℕ, zero, suc, List, [], ◌∷◌, ◌++◌, Bool, true, false, cond, Some, None, refl, sym, ap, slice_get, arith}
use Rattle.std.specs.Prelude.{T, ◌==◌, ◌&&◌, if◌then◌else◌}
use Rattle.std.specs.declared.option.Option.{Option}
use Rattle.std.specs.FinMap.{entries, entries-from_sorted, find, from_sorted, get, get-from_sorted, is_sorted, same_map}
use Rattle.std.specs.FinMap.Entries.{below_all}
use Rattle.std.specs.Ordering.{eq_by_cmp, is_lt}
use Rattle.std.proofs.lemmas.Bool.Decides.{nat_tests}
use Rattle.dms_block.specs.Content.{Content}
use Rattle.dms_desc.specs.Lookups.{structure_of}
use Rattle.dms_desc.specs.Shape.{Shape, Described}
use Rattle.dms_desc.specs.declared.record.Record.{Record}
use Rattle.dms_layout.specs.declared.slot.SlotRead.{SlotRead}
use Rattle.dms_layout.specs.declared.slot.SlotRead.TheVariants.{Free, Used, Bad}
use Rattle.dms_model.specs.Db.{Place, Records, place_cmp}
use Rattle.dms_model.specs.Valid.{is_data_set}
use Rattle.dms_desc.specs.Files.{file_of}
use Rattle.dms_slots.specs.SlotBlocks.{or_free, slot_at, slots_of}
use Rattle.dms_model.specs.Places.{places_same, places_total}

-- the records of slots, the first of which has number n
abbrev pub row_of : ℕ → ℕ → SlotRead → List (Place × Record) → List (Place × Record)
row_of set n Free rows = rows
row_of set n (Used slot) rows = ((set, n), slot.rec) ∷ rows
row_of set n Bad rows = rows

abbrev pub rows_from : ℕ → ℕ → List SlotRead → List (Place × Record)
rows_from set n [] = []
rows_from set n (r ∷ rs) = row_of set n r (rows_from set (n + 1) rs)

-- the blocks of a structure's file
abbrev pub file_in : Content → Shape → List (List ℕ)
file_in c s = c (file_of s.number)

-- the records of all data sets
abbrev pub rows_in : Content → List Shape → List (Place × Record)
rows_in c [] = []
rows_in c (s ∷ ss) = if is_data_set (Some s) then rows_from s.number 1 (slots_of s (file_in c s)) ++ rows_in c ss else rows_in c ss

-- the record of a slot
abbrev pub rec_opt : SlotRead → Option Record
rec_opt Free = None
rec_opt (Used slot) = Some slot.rec
rec_opt Bad = None

-- the record of a data set with a number
abbrev pub rec_in : Content → Option Shape → ℕ → Option Record
rec_in c None n = None
rec_in c (Some s) n = if is_data_set (Some s) then rec_opt (slot_at s (file_in c s) n) else None

-- structures that are numbered in their order, the first one with this number
abbrev pub AreNumbered : ℕ → List Shape → Type 0
AreNumbered k [] = Unit {0}
AreNumbered k (s ∷ ss) = (s.number ≡ k) × AreNumbered (k + 1) ss

-- ---- places

same_place : (s n : ℕ) → eq_by_cmp place_cmp (s, n) (s, n) ≡ true
same_place s n = grind (arith, nat_tests)

other_place : (s n m : ℕ) → n ≢ m → eq_by_cmp place_cmp (s, n) (s, m) ≡ false
other_place s n m apart = grind (arith, nat_tests)

other_set : (s t n m : ℕ) → t ≢ s → eq_by_cmp place_cmp (t, m) (s, n) ≡ false
other_set s t n m apart = grind (arith, nat_tests)

-- ---- what is found among the records of one file

module _ (s : ℕ) where
  find_low : (m n : ℕ) (rs : List SlotRead) → m < n → find place_cmp (s, m) (rows_from s n rs) ≡ None
  find_low m n [] low = refl
  find_low m n (Free ∷ rs) low = find_low m (n + 1) rs (omega (arith, low))
  find_low m n (Used slot ∷ rs) low =
      ap (λ t. cond t (Some slot.rec) (find place_cmp (s, m) (rows_from s (n + 1) rs))) (other_place s m n (λ e. omega (arith, e, low))) ∙ find_low m (n + 1) rs (omega (arith, low))
  find_low m n (Bad ∷ rs) low = find_low m (n + 1) rs (omega (arith, low))

  -- under a number it is the record of its slot
  find_slot : (n i : ℕ) (rs : List SlotRead) → find place_cmp (s, n + i) (rows_from s n rs) ≡ rec_opt (or_free (slice_get rs i))
  find_slot n i [] = refl
  find_slot n zero (Free ∷ rs) = find_low (n + 0) (n + 1) rs (omega arith)
  find_slot n zero (Used slot ∷ rs) =
      let e : n + 0 ≡ n = omega arith in
      ap (λ t. cond t (Some slot.rec) (find place_cmp (s, n + 0) (rows_from s (n + 1) rs))) (ap (λ m. eq_by_cmp place_cmp (s, m) (s, n)) e ∙ same_place s n)
  find_slot n zero (Bad ∷ rs) = find_low (n + 0) (n + 1) rs (omega arith)
  find_slot n (suc i) (Free ∷ rs) = let e : n + suc i ≡ (n + 1) + i = omega arith in ap (λ m. find place_cmp (s, m) (rows_from s (n + 1) rs)) e ∙ find_slot (n + 1) i rs
  find_slot n (suc i) (Used slot ∷ rs) =
      let e : n + suc i ≡ (n + 1) + i = omega arith in
      ap (λ t. cond t (Some slot.rec) (find place_cmp (s, n + suc i) (rows_from s (n + 1) rs))) (other_place s (n + suc i) n (λ x. omega (arith, x)))
      ∙ ap (λ m. find place_cmp (s, m) (rows_from s (n + 1) rs)) e ∙ find_slot (n + 1) i rs
  find_slot n (suc i) (Bad ∷ rs) = let e : n + suc i ≡ (n + 1) + i = omega arith in ap (λ m. find place_cmp (s, m) (rows_from s (n + 1) rs)) e ∙ find_slot (n + 1) i rs

-- another data set has no record here
find_other : (s t n m : ℕ) (rs : List SlotRead) → t ≢ s → find place_cmp (t, m) (rows_from s n rs) ≡ None
find_other s t n m [] apart = refl
find_other s t n m (Free ∷ rs) apart = find_other s t (n + 1) m rs apart
find_other s t n m (Used slot ∷ rs) apart =
    ap (λ x. cond x (Some slot.rec) (find place_cmp (t, m) (rows_from s (n + 1) rs))) (other_set s t n m apart) ∙ find_other s t (n + 1) m rs apart
find_other s t n m (Bad ∷ rs) apart = find_other s t (n + 1) m rs apart

-- ---- and among those of all files

abbrev or_rec : Option Record → Option Record → Option Record
or_rec None b = b
or_rec (Some x) b = Some x

or_none : (a : Option Record) → or_rec a None ≡ a
or_none None = refl
or_none (Some x) = refl

find_append : (p : Place) (xs ys : List (Place × Record)) → find place_cmp p (xs ++ ys) ≡ or_rec (find place_cmp p xs) (find place_cmp p ys)
find_append p [] ys = refl
find_append p (e ∷ xs) ys =
    let rest = find_append p xs ys in
    elim (eq_by_cmp place_cmp p e.0) as (λ b. cond b (Some e.1) (find place_cmp p (xs ++ ys)) ≡ or_rec (cond b (Some e.1) (find place_cmp p xs)) (find place_cmp p ys)) [ true ↦ refl | false ↦ rest ]

module _ (c : Content) where
  abbrev turn : Bool → Shape → List (Place × Record) → List (Place × Record)
  turn b s rest = cond b (rows_from s.number 1 (slots_of s (file_in c s)) ++ rest) rest

  -- structures behind a number have no record of it
  find_behind : (k : ℕ) (ss : List Shape) → AreNumbered k ss → (set n : ℕ) → set < k → find place_cmp (set, n) (rows_in c ss) ≡ None
  find_behind k [] numbered set n low = refl
  find_behind k (s ∷ ss) numbered set n low =
      let rest = find_behind (k + 1) ss numbered.1 set n (omega (arith, low)) in
      elim (is_data_set (Some s)) as (λ b. find place_cmp (set, n) (turn b s (rows_in c ss)) ≡ None) [
        | true ↦ find_append (set, n) (rows_from s.number 1 (slots_of s (file_in c s))) (rows_in c ss)
            ∙ (λ i. or_rec (find_other s.number set 1 n (slots_of s (file_in c s)) (λ e. omega (arith, e, numbered.0, low)) i) (rest i))
        | false ↦ rest
      ]

  find_here : (s : Shape) (rest : List (Place × Record)) (set n : ℕ) → s.number ≡ set → find place_cmp (set, 1 + n) rest ≡ None
      → find place_cmp (set, 1 + n) (turn (is_data_set (Some s)) s rest) ≡ rec_in c (Some s) (1 + n)
  find_here s rest set n is none =
      let e : n ≡ (1 + n) - 1 = omega arith in
      elim (is_data_set (Some s)) as (λ b. find place_cmp (set, 1 + n) (turn b s rest) ≡ cond b (rec_opt (slot_at s (file_in c s) (1 + n))) None) [
        | true ↦ find_append (set, 1 + n) (rows_from s.number 1 (slots_of s (file_in c s))) rest
            ∙ (λ i. or_rec (find place_cmp (sym is i, 1 + n) (rows_from s.number 1 (slots_of s (file_in c s)))) (none i))
            ∙ or_none (find place_cmp (s.number, 1 + n) (rows_from s.number 1 (slots_of s (file_in c s))))
            ∙ find_slot s.number 1 n (slots_of s (file_in c s))
            ∙ ap (λ m. rec_opt (or_free (slice_get (slots_of s (file_in c s)) m))) e
        | false ↦ none
      ]

  find_later : (s : Shape) (rest : List (Place × Record)) (set n : ℕ) → set ≢ s.number → find place_cmp (set, n) (turn (is_data_set (Some s)) s rest) ≡ find place_cmp (set, n) rest
  find_later s rest set n apart =
      elim (is_data_set (Some s)) as (λ b. find place_cmp (set, n) (turn b s rest) ≡ find place_cmp (set, n) rest) [
        | true ↦ find_append (set, n) (rows_from s.number 1 (slots_of s (file_in c s))) rest
            ∙ ap (λ o. or_rec o (find place_cmp (set, n) rest)) (find_other s.number set 1 n (slots_of s (file_in c s)) apart)
        | false ↦ refl
      ]

  find_rows : (k i : ℕ) (ss : List Shape) → AreNumbered k ss → (n : ℕ) → find place_cmp (k + i, 1 + n) (rows_in c ss) ≡ rec_in c (slice_get ss i) (1 + n)
  find_rows k i [] numbered n = refl
  find_rows k zero (s ∷ ss) numbered n =
      let e : k + 0 ≡ k = omega arith in
      find_here s (rows_in c ss) (k + 0) n (numbered.0 ∙ sym e) (find_behind (k + 1) ss numbered.1 (k + 0) (1 + n) (omega arith))
  find_rows k (suc i) (s ∷ ss) numbered n =
      let e : k + suc i ≡ (k + 1) + i = omega arith in
      find_later s (rows_in c ss) (k + suc i) (1 + n) (λ x. omega (arith, x, numbered.0))
      ∙ ap (λ m. find place_cmp (m, 1 + n) (rows_in c ss)) e ∙ find_rows (k + 1) i ss numbered.1 n

-- no record has the number 0
low_none : (t s n : ℕ) (rs : List SlotRead) (rest : List (Place × Record)) → 1 ≤ n → find place_cmp (t, 0) rest ≡ None → find place_cmp (t, 0) (rows_from s n rs ++ rest) ≡ None
low_none t s n [] rest low none = none
low_none t s n (Free ∷ rs) rest low none = low_none t s (n + 1) rs rest (omega (arith, low)) none
low_none t s n (Used slot ∷ rs) rest low none =
    ap (λ b. cond b (Some slot.rec) (find place_cmp (t, 0) (rows_from s (n + 1) rs ++ rest))) (apart (omega (arith, low))) ∙ low_none t s (n + 1) rs rest (omega (arith, low)) none
  where
    apart : 0 < n → eq_by_cmp place_cmp (t, 0) (s, n) ≡ false
    apart h = grind (arith, nat_tests, h)
low_none t s n (Bad ∷ rs) rest low none = low_none t s (n + 1) rs rest (omega (arith, low)) none

pub rows_none : (c : Content) (t : ℕ) (ss : List Shape) → find place_cmp (t, 0) (rows_in c ss) ≡ None
rows_none c t [] = refl
rows_none c t (s ∷ ss) =
    let rest = rows_none c t ss in
    elim (is_data_set (Some s)) as (λ b. find place_cmp (t, 0) (cond b (rows_from s.number 1 (slots_of s (file_in c s)) ++ rows_in c ss) (rows_in c ss)) ≡ None) [
      | true ↦ low_none t s.number 1 (slots_of s (file_in c s)) (rows_in c ss) (omega arith) rest
      | false ↦ rest
    ]

-- Under a number stands the record in its slot.
pub rows_get : (desc : Described) (c : Content) → AreNumbered 1 desc.structures → (set n : ℕ) → 1 ≤ n → find place_cmp (set, n) (rows_in c desc.structures) ≡ rec_in c (structure_of desc set) n
rows_get desc c numbered set zero low = absurd (omega (arith, low))
rows_get desc c numbered zero (suc n) low = find_behind c 1 desc.structures numbered 0 (suc n) (omega arith)
rows_get desc c numbered (suc set) (suc n) low =
    let one : suc n ≡ 1 + n = omega arith in
    let two : suc set ≡ 1 + set = omega arith in
    let e : set ≡ suc set - 1 = omega arith in
    let t : (suc set == 0) ≡ false = grind (arith, nat_tests) in
    (λ i. find place_cmp (two i, one i) (rows_in c desc.structures))
    ∙ find_rows c 1 set desc.structures numbered n
    ∙ (λ i. rec_in c (slice_get desc.structures (e i)) (sym one i))
    ∙ ap (λ b. rec_in c (cond b None (slice_get desc.structures (suc set - 1))) (suc n)) (sym t)

-- ---- all records, in order

less_place : (s n m : ℕ) → n < m → is_lt (place_cmp (s, n) (s, m)) ≡ true
less_place s n m low = grind (arith, nat_tests)

less_set : (s t n m : ℕ) → s < t → is_lt (place_cmp (s, n) (t, m)) ≡ true
less_set s t n m low = grind (arith, nat_tests)

both_true : (a b : Bool) → a ≡ true → T b → T (a && b)
both_true true b h t = t
both_true false b h t = absurd (cc)

true_both : (a b : Bool) → T a → T b → T (a && b)
true_both true b t u = u
true_both false b t u = absurd t

below_rows : (s m n : ℕ) (rs : List SlotRead) → m < n → T (below_all place_cmp (s, m) (rows_from s n rs))
below_rows s m n [] low = tt
below_rows s m n (Free ∷ rs) low = below_rows s m (n + 1) rs (omega (arith, low))
below_rows s m n (Used slot ∷ rs) low = both_true _ _ (less_place s m n low) (below_rows s m (n + 1) rs (omega (arith, low)))
below_rows s m n (Bad ∷ rs) low = below_rows s m (n + 1) rs (omega (arith, low))

rows_sorted : (s n : ℕ) (rs : List SlotRead) → T (is_sorted place_cmp (rows_from s n rs))
rows_sorted s n [] = tt
rows_sorted s n (Free ∷ rs) = rows_sorted s (n + 1) rs
rows_sorted s n (Used slot ∷ rs) = true_both _ _ (below_rows s n (n + 1) rs (omega arith)) (rows_sorted s (n + 1) rs)
rows_sorted s n (Bad ∷ rs) = rows_sorted s (n + 1) rs

-- records of a later data set stand behind
below_other : (s t m n : ℕ) (rs : List SlotRead) → s < t → T (below_all place_cmp (s, m) (rows_from t n rs))
below_other s t m n [] low = tt
below_other s t m n (Free ∷ rs) low = below_other s t m (n + 1) rs low
below_other s t m n (Used slot ∷ rs) low = both_true _ _ (less_set s t m n low) (below_other s t m (n + 1) rs low)
below_other s t m n (Bad ∷ rs) low = below_other s t m (n + 1) rs low

left_of : (a b : Bool) → T (a && b) → T a
left_of true b t = tt
left_of false b t = absurd t

right_of : (a b : Bool) → T (a && b) → T b
right_of true b t = t
right_of false b t = absurd t

below_append : (p : Place) (xs ys : List (Place × Record)) → T (below_all place_cmp p xs) → T (below_all place_cmp p ys) → T (below_all place_cmp p (xs ++ ys))
below_append p [] ys low more = more
below_append p (e ∷ xs) ys low more = true_both _ _ (left_of _ _ low) (below_append p xs ys (right_of _ _ low) more)

module _ (c : Content) where
  below_behind : (k : ℕ) (ss : List Shape) → AreNumbered k ss → (set m : ℕ) → set < k → T (below_all place_cmp (set, m) (rows_in c ss))
  below_behind k [] numbered set m low = tt
  below_behind k (s ∷ ss) numbered set m low =
      let rest = below_behind (k + 1) ss numbered.1 set m (omega (arith, low)) in
      elim (is_data_set (Some s)) as (λ b. T (below_all place_cmp (set, m) (turn c b s (rows_in c ss)))) [
        | true ↦ below_append (set, m) (rows_from s.number 1 (slots_of s (file_in c s))) (rows_in c ss) (below_other set s.number m 1 (slots_of s (file_in c s)) (omega (arith, low, numbered.0))) rest
        | false ↦ rest
      ]

  sorted_append : (s n : ℕ) (rs : List SlotRead) (ys : List (Place × Record)) → ((m : ℕ) → T (below_all place_cmp (s, m) ys)) → T (is_sorted place_cmp ys) → T (is_sorted place_cmp (rows_from s n rs ++ ys))
  sorted_append s n [] ys low order = order
  sorted_append s n (Free ∷ rs) ys low order = sorted_append s (n + 1) rs ys low order
  sorted_append s n (Used slot ∷ rs) ys low order =
      true_both _ _ (below_append (s, n) (rows_from s (n + 1) rs) ys (below_rows s n (n + 1) rs (omega arith)) (low n)) (sorted_append s (n + 1) rs ys low order)
  sorted_append s n (Bad ∷ rs) ys low order = sorted_append s (n + 1) rs ys low order

  all_sorted : (k : ℕ) (ss : List Shape) → AreNumbered k ss → T (is_sorted place_cmp (rows_in c ss))
  all_sorted k [] numbered = tt
  all_sorted k (s ∷ ss) numbered =
      let rest = all_sorted (k + 1) ss numbered.1 in
      elim (is_data_set (Some s)) as (λ b. T (is_sorted place_cmp (turn c b s (rows_in c ss)))) [
        | true ↦ sorted_append s.number 1 (slots_of s (file_in c s)) (rows_in c ss) (λ m. below_behind (k + 1) ss numbered.1 s.number m (omega (arith, numbered.0))) rest
        | false ↦ rest
      ]

-- A map with the records of the slots under their numbers, and none under 0, has them in their order.
pub entries_are : (desc : Described) (c : Content) (m : Records) → AreNumbered 1 desc.structures → ((set n : ℕ) → 1 ≤ n → get m (set, n) ≡ rec_in c (structure_of desc set) n) → ((set : ℕ) → get m (set, 0) ≡ None) → entries m ≡ rows_in c desc.structures
entries_are desc c m numbered records none =
    let order = all_sorted c 1 desc.structures numbered in
    ap (λ (x : Records). entries x) (same_map places_total places_same _ _ (λ q. at q.0 q.1 ∙ sym (get-from_sorted place_cmp (rows_in c desc.structures) q order)))
    ∙ entries-from_sorted place_cmp (rows_in c desc.structures) order
  where
    at : (set n : ℕ) → get m (set, n) ≡ find place_cmp (set, n) (rows_in c desc.structures)
    at set zero = none set ∙ sym (rows_none c set desc.structures)
    at set (suc n) = records set (suc n) (omega arith) ∙ sym (rows_get desc c numbered set (suc n) (omega arith))
