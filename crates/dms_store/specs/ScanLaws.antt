-- The first member of a data set behind a bound is the first used slot from there on, and the last before one the last.
use Rattle.std.proofs.Common.{◌≡◌, ◌≢◌, ◌∙◌, ◌+◌, ◌-◌, ◌≤◌, ◌<◌, ℕ, zero, suc, List, [], ◌∷◌, ◌++◌, Bool, true, false, cond, Some, None, refl, sym, ap, take, drop, slice_get, length, arith}
use Rattle.std.specs.Prelude.{◌&&◌, ◌==◌, nat_le, nat_lt}
use Rattle.std.specs.List.{list_any}
use Rattle.std.specs.declared.option.Option.{Option}
use Rattle.std.specs.FinMap.{entries}
use Rattle.std.specs.Ordering.{nat_cmp, ordering_then, is_lt, is_gt}
use Rattle.std.specs.declared.cmp.Ordering.TheVariants.{Greater}
use Rattle.std.proofs.lemmas.Bool.Decides.{nat_tests}
use Rattle.std.proofs.lemmas.Option.{same_Some}
use Rattle.dms_base.specs.declared.value.Value.{Value}
use Rattle.dms_block.specs.Content.{Content}
use Rattle.dms_desc.specs.declared.bound.Bound.{Bound}
use Rattle.dms_desc.specs.declared.bound.Bound.TheVariants.{Start, End, At, From}
use Rattle.dms_desc.specs.declared.structure.KeyPart.{KeyPart}
use Rattle.dms_desc.specs.declared.record.Record.{Record}
use Rattle.dms_desc.specs.Keys.{key_cmp}
use Rattle.dms_desc.specs.Kinds.{over, takes}
use Rattle.dms_desc.specs.Lookups.{structure_of}
use Rattle.dms_desc.specs.Shape.{Shape, Described}
use Rattle.dms_desc.specs.Sorted.{sort, place_in, first, last, or_else}
use Rattle.dms_layout.specs.declared.slot.SlotRead.{SlotRead}
use Rattle.dms_layout.specs.declared.slot.SlotRead.TheVariants.{Free, Used, Bad}
use Rattle.dms_model.specs.declared.spot.Spot.{Spot}
use Rattle.dms_model.specs.Db.{Place, SubsetEntry}
use Rattle.dms_model.specs.Members.{belongs, first_member, first_of, is_after_bound, is_before, is_before_bound, last_member, last_of, members, names, spot_of, spots_of}
use Rattle.dms_model.specs.Valid.{is_data_set}
use Rattle.dms_slots.specs.SlotBlocks.{or_free, slots_of}
use Rattle.dms_spelling.specs.ServingLaws.{structure_there}
use Rattle.dms_links.specs.Rows.{AreNumbered, rows_from, rows_in, file_in}
use Rattle.dms_store.specs.Rows.{entries_in}
use Rattle.dms_store.specs.Scans.{spot, owned_spot, first_used, last_used, start_of, stop_of}
use Rattle.dms_spelling.specs.Spelled.{db_in}

-- ---- the members are the owner's used slots

abbrev with_spot : Option Spot → List Spot → List Spot
with_spot None xs = xs
with_spot (Some x) xs = x ∷ xs

abbrev spots_from : ℕ → ℕ → List SlotRead → List Spot
spots_from owner n [] = []
spots_from owner n (r ∷ rs) = with_spot (owned_spot owner n r) (spots_from owner (n + 1) rs)

-- a data set: its records are its own, without a key
record IsDataSetShape (s : Shape) : Type 0 where
  low : 1 ≤ s.kind
  most : s.kind ≤ 2
  keyless : s.parts ≡ []

of_set : (s : Shape) → is_data_set (Some s) ≡ true → s.parts ≡ [] → IsDataSetShape s
of_set s h keyless = record { low = grind (arith, nat_tests); most = grind (arith, nat_tests); keyless = keyless }

own_belongs : (s : Shape) (owner n : ℕ) (rec : Record) → IsDataSetShape s → belongs s [] owner ((s.number, n), rec) ≡ (owner == rec.owner)
own_belongs s owner n rec is =
    let a : nat_lt s.kind 3 ≡ true = grind (arith, nat_tests, is.most) in
    let b : (s.kind == 5) ≡ false = grind (arith, nat_tests, is.most) in
    let d : (s.kind == 4) ≡ false = grind (arith, nat_tests, is.most) in
    let e : (s.number == s.number) ≡ true = grind (arith, nat_tests) in
    rw a (rw b (rw d (rw e (and_true (owner == rec.owner)))))
  where
    and_true : (b : Bool) → (b && true) ≡ b
    and_true true = refl
    and_true false = refl

other_belongs : (s : Shape) (owner set n : ℕ) (rec : Record) → IsDataSetShape s → s.number ≢ set → belongs s [] owner ((set, n), rec) ≡ false
other_belongs s owner set n rec is apart =
    let a : nat_lt s.kind 3 ≡ true = grind (arith, nat_tests, is.most) in
    let e : (s.number == set) ≡ false = grind (arith, nat_tests, apart) in
    rw a (rw e refl)

module _ (s : Shape) (is : IsDataSetShape s) (owner : ℕ) where
  spots_are : (n : ℕ) (rs : List SlotRead) (more : List (Place × Record)) → spots_of s [] owner more ≡ [] → spots_of s [] owner (rows_from s.number n rs ++ more) ≡ spots_from owner n rs
  spots_are n [] more none = none
  spots_are n (Free ∷ rs) more none = spots_are (n + 1) rs more none
  spots_are n (Used slot ∷ rs) more none =
      let rest = spots_are (n + 1) rs more none in
      ap (λ b. cond b (spot_of s.parts ((s.number, n), slot.rec) ∷ spots_of s [] owner (rows_from s.number (n + 1) rs ++ more)) (spots_of s [] owner (rows_from s.number (n + 1) rs ++ more))) (own_belongs s owner n slot.rec is)
      ∙ (λ i. cond (owner == slot.rec.owner) (spot_of (is.keyless i) ((s.number, n), slot.rec) ∷ rest i) (rest i))
      ∙ take_spot (owner == slot.rec.owner) (spot n slot.rec) (spots_from owner (n + 1) rs)
    where
      take_spot : (b : Bool) (x : Spot) (xs : List Spot) → cond b (x ∷ xs) xs ≡ with_spot (cond b (Some x) None) xs
      take_spot true x xs = refl
      take_spot false x xs = refl
  spots_are n (Bad ∷ rs) more none = spots_are (n + 1) rs more none

  spots_none : (set n : ℕ) (rs : List SlotRead) (more : List (Place × Record)) → s.number ≢ set → spots_of s [] owner (rows_from set n rs ++ more) ≡ spots_of s [] owner more
  spots_none set n [] more apart = refl
  spots_none set n (Free ∷ rs) more apart = spots_none set (n + 1) rs more apart
  spots_none set n (Used slot ∷ rs) more apart =
      ap (λ b. cond b (spot_of s.parts ((set, n), slot.rec) ∷ spots_of s [] owner (rows_from set (n + 1) rs ++ more)) (spots_of s [] owner (rows_from set (n + 1) rs ++ more))) (other_belongs s owner set n slot.rec is apart)
      ∙ spots_none set (n + 1) rs more apart
  spots_none set n (Bad ∷ rs) more apart = spots_none set (n + 1) rs more apart

  module _ (c : Content) where
    spots_behind : (k : ℕ) (ss : List Shape) → AreNumbered k ss → s.number < k → spots_of s [] owner (rows_in c ss) ≡ []
    spots_behind k [] numbered low = refl
    spots_behind k (t ∷ ss) numbered low =
        let rest = spots_behind (k + 1) ss numbered.1 (omega (arith, low)) in
        elim (is_data_set (Some t)) as (λ b. spots_of s [] owner (cond b (rows_from t.number 1 (slots_of t (file_in c t)) ++ rows_in c ss) (rows_in c ss)) ≡ []) [
          | true ↦ spots_none t.number 1 (slots_of t (file_in c t)) (rows_in c ss) (λ e. omega (arith, e, low, numbered.0)) ∙ rest
          | false ↦ rest
        ]

    spots_in : (k i : ℕ) (ss : List Shape) → AreNumbered k ss → is_data_set (Some s) ≡ true → slice_get ss i ≡ Some s → spots_of s [] owner (rows_in c ss) ≡ spots_from owner 1 (slots_of s (file_in c s))
    spots_in k i [] numbered set at = absurd (cc)
    spots_in k zero (t ∷ ss) numbered set at =
        let same : t ≡ s = some_shape t s at in
        let number : s.number ≡ k = ap (λ (x : Shape). x.number) (sym same) ∙ numbered.0 in
        ap (λ (x : Shape). spots_of s [] owner (cond (is_data_set (Some x)) (rows_from x.number 1 (slots_of x (file_in c x)) ++ rows_in c ss) (rows_in c ss))) same
        ∙ ap (λ b. spots_of s [] owner (cond b (rows_from s.number 1 (slots_of s (file_in c s)) ++ rows_in c ss) (rows_in c ss))) set
        ∙ spots_are 1 (slots_of s (file_in c s)) (rows_in c ss) (spots_behind (k + 1) ss numbered.1 (omega (arith, number)))
      where
        some_shape : (x y : Shape) → ◌≡◌ {A = Option Shape} (Some x) (Some y) → x ≡ y
        some_shape x y h = cc
    spots_in k (suc i) (t ∷ ss) numbered set at =
        let rest = spots_in (k + 1) i ss numbered.1 set at in
        let apart = behind (k + 1) i ss numbered.1 at in
        elim (is_data_set (Some t)) as (λ b. spots_of s [] owner (cond b (rows_from t.number 1 (slots_of t (file_in c t)) ++ rows_in c ss) (rows_in c ss)) ≡ spots_from owner 1 (slots_of s (file_in c s))) [
          | true ↦ spots_none t.number 1 (slots_of t (file_in c t)) (rows_in c ss) (λ e. omega (arith, e, apart, numbered.0)) ∙ rest
          | false ↦ rest
        ]
      where
        some_shape : (x y : Shape) → ◌≡◌ {A = Option Shape} (Some x) (Some y) → x ≡ y
        some_shape x y h = cc

        behind : (k i : ℕ) (ss : List Shape) → AreNumbered k ss → slice_get ss i ≡ Some s → k ≤ s.number
        behind k i [] numbered at = absurd (cc)
        behind k zero (t ∷ ss) numbered at = omega (arith, numbered.0, ap (λ (x : Shape). x.number) (some_shape t s at))
        behind k (suc i) (t ∷ ss) numbered at = omega (arith, behind (k + 1) i ss numbered.1 at)

-- ---- they are in order already

place_if : (b : Bool) (x y : Spot) (xs : List Spot) → x.number < y.number → place_in (is_before []) x xs ≡ x ∷ xs
    → place_in (is_before []) x (with_spot (cond b (Some y) None) xs) ≡ x ∷ with_spot (cond b (Some y) None) xs
place_if true x y xs low rest =
    let t : is_lt (nat_cmp x.number y.number) ≡ true = grind (arith, nat_tests, low) in
    ap (λ b. cond b (x ∷ y ∷ xs) (y ∷ place_in (is_before []) x xs)) t
place_if false x y xs low rest = rest

module _ (owner : ℕ) where
  place_low : (x : Spot) (n : ℕ) (rs : List SlotRead) → x.number < n → place_in (is_before []) x (spots_from owner n rs) ≡ x ∷ spots_from owner n rs
  place_low x n [] low = refl
  place_low x n (Free ∷ rs) low = place_low x (n + 1) rs (omega (arith, low))
  place_low x n (Used slot ∷ rs) low = place_if (owner == slot.rec.owner) x (spot n slot.rec) (spots_from owner (n + 1) rs) low (place_low x (n + 1) rs (omega (arith, low)))
  place_low x n (Bad ∷ rs) low = place_low x (n + 1) rs (omega (arith, low))

sorted_if : (b : Bool) (y : Spot) (xs : List Spot) → place_in (is_before []) y xs ≡ y ∷ xs → sort (is_before []) xs ≡ xs
    → sort (is_before []) (with_spot (cond b (Some y) None) xs) ≡ with_spot (cond b (Some y) None) xs
sorted_if true y xs placed rest = ap (place_in (is_before []) y) rest ∙ placed
sorted_if false y xs placed rest = rest

module _ (owner : ℕ) where
  sorted_are : (n : ℕ) (rs : List SlotRead) → sort (is_before []) (spots_from owner n rs) ≡ spots_from owner n rs
  sorted_are n [] = refl
  sorted_are n (Free ∷ rs) = sorted_are (n + 1) rs
  sorted_are n (Used slot ∷ rs) =
      sorted_if (owner == slot.rec.owner) (spot n slot.rec) (spots_from owner (n + 1) rs) (place_low owner (spot n slot.rec) (n + 1) rs (omega arith)) (sorted_are (n + 1) rs)
  sorted_are n (Bad ∷ rs) = sorted_are (n + 1) rs

-- ---- searches by a number

or_nothing : (o : Option Spot) → or_else o None ≡ o
or_nothing None = refl
or_nothing (Some x) = refl

module _ (p : Spot → Bool) (y : Spot) (xs : List Spot) where
  first_yes : (b : Bool) → p y ≡ true → first p (with_spot (cond b (Some y) None) xs) ≡ or_else (cond b (Some y) None) (first p xs)
  first_yes true h = ap (λ t. cond t (Some y) (first p xs)) h
  first_yes false h = refl

  first_no : (b : Bool) → p y ≡ false → first p (with_spot (cond b (Some y) None) xs) ≡ first p xs
  first_no true h = ap (λ t. cond t (Some y) (first p xs)) h
  first_no false h = refl

  last_yes : (b : Bool) → p y ≡ true → last p (with_spot (cond b (Some y) None) xs) ≡ or_else (last p xs) (cond b (Some y) None)
  last_yes true h = ap (λ t. or_else (last p xs) (cond t (Some y) None)) h
  last_yes false h = sym (or_nothing (last p xs))

  last_no : (b : Bool) → p y ≡ false → last p (with_spot (cond b (Some y) None) xs) ≡ last p xs
  last_no true h = ap (λ t. or_else (last p xs) (cond t (Some y) None)) h ∙ or_nothing (last p xs)
  last_no false h = refl

module _ (owner : ℕ) where
  -- tests that agree on the members find the same
  first_same : (p q : Spot → Bool) (n : ℕ) (rs : List SlotRead) → 1 ≤ n → ((x : Spot) → 1 ≤ x.number → p x ≡ q x) → first p (spots_from owner n rs) ≡ first q (spots_from owner n rs)
  first_same p q n [] le same = refl
  first_same p q n (Free ∷ rs) le same = first_same p q (n + 1) rs (omega (arith, le)) same
  first_same p q n (Used slot ∷ rs) le same = so (owner == slot.rec.owner) (spot n slot.rec) (spots_from owner (n + 1) rs) (same (spot n slot.rec) le) (first_same p q (n + 1) rs (omega (arith, le)) same)
    where
      so : (b : Bool) (y : Spot) (xs : List Spot) → p y ≡ q y → first p xs ≡ first q xs → first p (with_spot (cond b (Some y) None) xs) ≡ first q (with_spot (cond b (Some y) None) xs)
      so true y xs h rest = λ i. cond (h i) (Some y) (rest i)
      so false y xs h rest = rest
  first_same p q n (Bad ∷ rs) le same = first_same p q (n + 1) rs (omega (arith, le)) same

  last_same : (p q : Spot → Bool) (n : ℕ) (rs : List SlotRead) → ((x : Spot) → p x ≡ q x) → last p (spots_from owner n rs) ≡ last q (spots_from owner n rs)
  last_same p q n [] same = refl
  last_same p q n (Free ∷ rs) same = last_same p q (n + 1) rs same
  last_same p q n (Used slot ∷ rs) same = so (owner == slot.rec.owner) (spot n slot.rec) (spots_from owner (n + 1) rs) (same (spot n slot.rec)) (last_same p q (n + 1) rs same)
    where
      so : (b : Bool) (y : Spot) (xs : List Spot) → p y ≡ q y → last p xs ≡ last q xs → last p (with_spot (cond b (Some y) None) xs) ≡ last q (with_spot (cond b (Some y) None) xs)
      so true y xs h rest = λ i. or_else (rest i) (cond (h i) (Some y) None)
      so false y xs h rest = rest
  last_same p q n (Bad ∷ rs) same = last_same p q (n + 1) rs same

  all_pass : (m n : ℕ) (rs : List SlotRead) → m ≤ n → first (λ x. nat_le m x.number) (spots_from owner n rs) ≡ first_used owner n rs
  all_pass m n [] le = refl
  all_pass m n (Free ∷ rs) le = all_pass m (n + 1) rs (omega (arith, le))
  all_pass m n (Used slot ∷ rs) le =
      let t : nat_le m n ≡ true = grind (arith, nat_tests) in
      first_yes (λ x. nat_le m x.number) (spot n slot.rec) (spots_from owner (n + 1) rs) (owner == slot.rec.owner) t
      ∙ ap (or_else (owned_spot owner n (Used slot))) (all_pass m (n + 1) rs (omega (arith, le)))
  all_pass m n (Bad ∷ rs) le = all_pass m (n + 1) rs (omega (arith, le))

  -- the first from a number on
  skip_before : (i n m : ℕ) (rs : List SlotRead) → m ≡ n + i → first (λ x. nat_le m x.number) (spots_from owner n rs) ≡ first_used owner m (drop i rs)
  skip_before zero n m rs is = all_pass m n rs (omega (arith, is)) ∙ ap (λ j. first_used owner j rs) (let e : n ≡ m = omega (arith, is) in e)
  skip_before (suc i) n m [] is = refl
  skip_before (suc i) n m (Free ∷ rs) is = skip_before i (n + 1) m rs (omega (arith, is))
  skip_before (suc i) n m (Used slot ∷ rs) is =
      let t : nat_le m n ≡ false = grind (arith, nat_tests, is) in
      first_no (λ x. nat_le m x.number) (spot n slot.rec) (spots_from owner (n + 1) rs) (owner == slot.rec.owner) t ∙ skip_before i (n + 1) m rs (omega (arith, is))
  skip_before (suc i) n m (Bad ∷ rs) is = skip_before i (n + 1) m rs (omega (arith, is))

  none_low : (m n : ℕ) (rs : List SlotRead) → m ≤ n → last (λ x. nat_lt x.number m) (spots_from owner n rs) ≡ None
  none_low m n [] le = refl
  none_low m n (Free ∷ rs) le = none_low m (n + 1) rs (omega (arith, le))
  none_low m n (Used slot ∷ rs) le =
      let t : nat_lt n m ≡ false = grind (arith, nat_tests) in
      last_no (λ x. nat_lt x.number m) (spot n slot.rec) (spots_from owner (n + 1) rs) (owner == slot.rec.owner) t ∙ none_low m (n + 1) rs (omega (arith, le))
  none_low m n (Bad ∷ rs) le = none_low m (n + 1) rs (omega (arith, le))

  -- the last below a number
  upto : (i n m : ℕ) (rs : List SlotRead) → m ≡ n + i → last (λ x. nat_lt x.number m) (spots_from owner n rs) ≡ last_used owner n (take i rs)
  upto zero n m rs is = none_low m n rs (omega (arith, is))
  upto (suc i) n m [] is = refl
  upto (suc i) n m (Free ∷ rs) is = upto i (n + 1) m rs (omega (arith, is)) ∙ sym (or_nothing (last_used owner (n + 1) (take i rs)))
  upto (suc i) n m (Used slot ∷ rs) is =
      let t : nat_lt n m ≡ true = grind (arith, nat_tests, is) in
      last_yes (λ x. nat_lt x.number m) (spot n slot.rec) (spots_from owner (n + 1) rs) (owner == slot.rec.owner) t
      ∙ ap (λ o. or_else o (owned_spot owner n (Used slot))) (upto i (n + 1) m rs (omega (arith, is)))
  upto (suc i) n m (Bad ∷ rs) is = upto i (n + 1) m rs (omega (arith, is)) ∙ sym (or_nothing (last_used owner (n + 1) (take i rs)))

  last_all : (p : Spot → Bool) (n : ℕ) (rs : List SlotRead) → ((x : Spot) → p x ≡ true) → last p (spots_from owner n rs) ≡ last_used owner n rs
  last_all p n [] all = refl
  last_all p n (Free ∷ rs) all = last_all p (n + 1) rs all ∙ sym (or_nothing (last_used owner (n + 1) rs))
  last_all p n (Used slot ∷ rs) all =
      last_yes p (spot n slot.rec) (spots_from owner (n + 1) rs) (owner == slot.rec.owner) (all (spot n slot.rec)) ∙ ap (λ o. or_else o (owned_spot owner n (Used slot))) (last_all p (n + 1) rs all)
  last_all p n (Bad ∷ rs) all = last_all p (n + 1) rs all ∙ sym (or_nothing (last_used owner (n + 1) rs))

-- ---- bounds

no_parts : (n : ℕ) → take {A = KeyPart} n [] ≡ []
no_parts zero = refl
no_parts (suc n) = refl

from_all : (key : List Value) (x : Spot) → is_after_bound [] (From key) x ≡ true
from_all key x = ap (λ (ps : List KeyPart). is_gt (ordering_then (key_cmp ps (take (length key) x.key) key) Greater)) (no_parts (length key))

from_none : (key : List Value) (x : Spot) → is_before_bound [] (From key) x ≡ nat_lt x.number 0
from_none key x = ap (λ (ps : List KeyPart). is_lt (ordering_then (key_cmp ps (take (length key) x.key) key) Greater)) (no_parts (length key)) ∙ low x.number
  where
    low : (n : ℕ) → false ≡ nat_lt n 0
    low n = grind (arith, nat_tests)

at_test : (a m : ℕ) → is_gt (nat_cmp a m) ≡ nat_le (1 + m) a
at_test a m = grind (arith, nat_tests)

under_test : (a m : ℕ) → is_lt (nat_cmp a m) ≡ nat_lt a m
under_test a m = grind (arith, nat_tests)

one_test : (a : ℕ) → 1 ≤ a → true ≡ nat_le (1 + 0) a
one_test a le = grind (arith, nat_tests)

none_test : (a : ℕ) → false ≡ nat_lt a 0
none_test a = grind (arith, nat_tests)

module _ (owner : ℕ) where
  behind : (from : Bound) (m : ℕ) (rs : List SlotRead) → start_of from ≡ Some m → first (is_after_bound [] from) (spots_from owner 1 rs) ≡ first_used owner (1 + m) (drop m rs)
  behind Start m rs is = first_same owner _ _ 1 rs (omega arith) (λ x le. one_test x.number le) ∙ skip_before owner 0 1 (1 + 0) rs (omega arith) ∙ ap (λ j. first_used owner (1 + j) (drop j rs)) (same_Some 0 m is)
  behind End m rs is = absurd (cc is)
  behind (At key n) m rs is = first_same owner _ _ 1 rs (omega arith) (λ x le. at_test x.number n) ∙ skip_before owner n 1 (1 + n) rs refl ∙ ap (λ j. first_used owner (1 + j) (drop j rs)) (same_Some n m is)
  behind (From key) m rs is = first_same owner _ _ 1 rs (omega arith) (λ x le. from_all key x ∙ one_test x.number le) ∙ skip_before owner 0 1 (1 + 0) rs (omega arith) ∙ ap (λ j. first_used owner (1 + j) (drop j rs)) (same_Some 0 m is)

  behind_none : (from : Bound) (xs : List Spot) → start_of from ≡ None → first (is_after_bound [] from) xs ≡ None
  behind_none Start xs is = absurd (cc is)
  behind_none End [] is = refl
  behind_none End (x ∷ xs) is = behind_none End xs is
  behind_none (At key n) xs is = absurd (cc is)
  behind_none (From key) xs is = absurd (cc is)

  before : (bound : Bound) (rs : List SlotRead) → last (is_before_bound [] bound) (spots_from owner 1 rs) ≡ last_used owner 1 (take (stop_of bound (length rs)) rs)
  before Start rs = last_same owner _ _ 1 rs (λ x. none_test x.number) ∙ none_low owner 0 1 rs (omega arith)
  before End rs = last_all owner _ 1 rs (λ x. refl) ∙ ap (last_used owner 1) (sym (whole rs))
    where
      whole : (xs : List SlotRead) → take (length xs) xs ≡ xs
      whole [] = refl
      whole (x ∷ xs) = ap (λ (ys : List SlotRead). x ∷ ys) (whole xs)
  before (At key zero) rs = last_same owner _ _ 1 rs (λ x. under_test x.number 0) ∙ none_low owner 0 1 rs (omega arith)
  before (At key (suc n)) rs = last_same owner _ _ 1 rs (λ x. under_test x.number (suc n)) ∙ upto owner (suc n - 1) 1 (suc n) rs (omega arith)
  before (From key) rs = last_same owner _ _ 1 rs (λ x. from_none key x) ∙ none_low owner 0 1 rs (omega arith)

-- ---- the members of a data set

-- what is asked of a path that is a data set
pub record IsSetPath (desc : Described) (path : ℕ) (s : Shape) : Type 0 where
  pub numbered : AreNumbered 1 desc.structures
  pub is : structure_of desc path ≡ Some s
  pub set : is_data_set (Some s) ≡ true
  pub keyless : s.parts ≡ []

-- entries of manual subsets make no difference to it
no_entries : (s : Shape) (manual : List SubsetEntry) (owner : ℕ) → (s.kind == 5) ≡ false → (es : List (Place × Record)) → spots_of s manual owner es ≡ spots_of s [] owner es
no_entries s manual owner off [] = refl
no_entries s manual owner off (e ∷ es) = λ i. cond (here i) (spot_of s.parts e ∷ no_entries s manual owner off es i) (no_entries s manual owner off es i)
  where
    here : belongs s manual owner e ≡ belongs s [] owner e
    here =
        ap (λ b. (over s == e.0.0) && cond b (list_any (names s.number owner e.0.1) manual) ((owner == e.1.owner) && takes s e.1.values)) off
        ∙ sym (ap (λ b. (over s == e.0.0) && cond b (list_any (names s.number owner e.0.1) []) ((owner == e.1.owner) && takes s e.1.values)) off)

not_five : (s : Shape) → is_data_set (Some s) ≡ true → (s.kind == 5) ≡ false
not_five s h = grind (arith, nat_tests, h)

module _ (desc : Described) (path : ℕ) (s : Shape) (at : IsSetPath desc path s) (c : Content) (owner : ℕ) where
  own : IsDataSetShape s
  own = of_set s at.set at.keyless

  members_are : members s (db_in desc c) owner ≡ spots_from owner 1 (slots_of s (file_in c s))
  members_are =
      ap (sort (is_before s.parts)) (no_entries s (db_in desc c).entries owner (not_five s at.set) (entries (db_in desc c).records))
      ∙ ap (λ es. sort (is_before s.parts) (spots_of s [] owner es)) (entries_in desc c at.numbered)
      ∙ ap (sort (is_before s.parts)) (spots_in s own owner c 1 (path - 1) desc.structures at.numbered at.set (structure_there desc.structures path s at.is))
      ∙ ap (λ ps. sort (is_before ps) (spots_from owner 1 (slots_of s (file_in c s)))) at.keyless
      ∙ sorted_are owner 1 (slots_of s (file_in c s))

  pub first_at : (from : Bound) (m : ℕ) → start_of from ≡ Some m → first_member desc (db_in desc c) path owner from ≡ first_used owner (1 + m) (drop m (slots_of s (file_in c s)))
  unfolding first_member
  first_at from m is =
      ap (λ o. first_of o (db_in desc c) owner from) at.is
      ∙ (λ i. first (is_after_bound (at.keyless i) from) (members_are i))
      ∙ behind owner from m (slots_of s (file_in c s)) is

  pub first_end : (from : Bound) → start_of from ≡ None → first_member desc (db_in desc c) path owner from ≡ None
  unfolding first_member
  first_end from is =
      ap (λ o. first_of o (db_in desc c) owner from) at.is
      ∙ (λ i. first (is_after_bound (at.keyless i) from) (members_are i))
      ∙ behind_none owner from (spots_from owner 1 (slots_of s (file_in c s))) is

  pub last_at : (bound : Bound) → last_member desc (db_in desc c) path owner bound ≡ last_used owner 1 (take (stop_of bound (length (slots_of s (file_in c s)))) (slots_of s (file_in c s)))
  unfolding last_member
  last_at bound =
      ap (λ o. last_of o (db_in desc c) owner bound) at.is
      ∙ (λ i. last (is_before_bound (at.keyless i) bound) (members_are i))
      ∙ before owner bound (slots_of s (file_in c s))

-- ---- a scan goes on

module _ (owner : ℕ) where
  -- over one more slot
  pub scan_on : (n i : ℕ) (rs : List SlotRead) (r : SlotRead) → i < length rs → or_free (slice_get rs i) ≡ r
      → first_used owner n (drop i rs) ≡ or_else (owned_spot owner n r) (first_used owner (n + 1) (drop (i + 1) rs))
  scan_on n i [] r low is = absurd (omega (arith, low))
  scan_on n zero (x ∷ rs) r low is = ap (λ y. or_else (owned_spot owner n y) (first_used owner (n + 1) rs)) is
  scan_on n (suc i) (x ∷ rs) r low is = scan_on n i rs r (omega (arith, low)) is ∙ ap (λ j. or_else (owned_spot owner n r) (first_used owner (n + 1) (drop j (x ∷ rs)))) (let e : suc (i + 1) ≡ suc i + 1 = omega arith in e)

  else_again : (a b d : Option Spot) → or_else (or_else a b) d ≡ or_else a (or_else b d)
  else_again None b d = refl
  else_again (Some x) b d = refl

  -- from the last one on
  pub scan_back : (n i : ℕ) (rs : List SlotRead) (r : SlotRead) → i < length rs → or_free (slice_get rs i) ≡ r
      → last_used owner n (take (i + 1) rs) ≡ or_else (owned_spot owner (n + i) r) (last_used owner n (take i rs))
  scan_back n i [] r low is = absurd (omega (arith, low))
  scan_back n zero (x ∷ rs) r low is =
      ap (λ y. owned_spot owner n y) is ∙ ap (λ m. owned_spot owner m r) (let e : n ≡ n + 0 = omega arith in e) ∙ sym (or_nothing (owned_spot owner (n + 0) r))
  scan_back n (suc i) (x ∷ rs) r low is =
      let e : suc i + 1 ≡ suc (i + 1) = omega arith in
      let f : (n + 1) + i ≡ n + suc i = omega arith in
      ap (λ j. last_used owner n (take j (x ∷ rs))) e
      ∙ ap (λ o. or_else o (owned_spot owner n x)) (scan_back (n + 1) i rs r (omega (arith, low)) is)
      ∙ ap (λ m. or_else (or_else (owned_spot owner m r) (last_used owner (n + 1) (take i rs))) (owned_spot owner n x)) f
      ∙ else_again (owned_spot owner (n + suc i) r) (last_used owner (n + 1) (take i rs)) (owned_spot owner n x)
