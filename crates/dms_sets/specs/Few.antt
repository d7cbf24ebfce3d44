-- A set has no more entries than its data set has numbers.
use Rattle.std.proofs.Common.{◌≡◌, ℕ, ◌+◌, ◌≤◌, ◌<◌, List, [], ◌∷◌, Bool, true, false, cond, Some, None, refl, sym, ap, ◌∙◌, length, arith}
use Rattle.std.specs.Prelude.{T, ◌&&◌, ◌==◌, not}
use Rattle.std.specs.List.{AllByRecursion}
use Rattle.std.specs.declared.option.Option.{Option}
use Rattle.std.specs.FinMap.{get, get-entries, entries, entries_sorted, is_sorted, keys}
use Rattle.std.specs.FinMap.Entries.{below_all, by_order}
use Rattle.std.specs.Ordering.{is_lt, nat_cmp, ordering_then}
use Rattle.std.specs.declared.cmp.Ordering.{Ordering}
use Rattle.std.specs.declared.cmp.Ordering.TheVariants.{Less, Equal, Greater}
use Rattle.std.proofs.lemmas.Bool.Decides.{nat_tests}
use Rattle.dms_desc.specs.declared.record.Record.{Record}
use Rattle.dms_desc.specs.Shape.{Shape, Described}
use Rattle.dms_desc.specs.Kinds.{over, takes}
use Rattle.dms_desc.specs.Keys.{key_of}
use Rattle.dms_model.specs.Db.{Db, Place, place_cmp}
use Rattle.dms_chain.specs.Lists.{bytes_cmp, empty_keys, keys_with, with_entry, without, without_in, is_same}
use Rattle.dms_sets.specs.Changes.{HasRoom}
use Rattle.dms_sets.specs.Entries.{entry_bytes}
use Rattle.dms_sets.specs.Listing.{listing, with_opt}
use Rattle.dms_sets.specs.Sets.{entries_of, entry_of, kinds_over}
use Rattle.dms_sets.specs.Spots.{StandsAmong, all_found}
use Rattle.dms_model.specs.Fresh.{second_true, first_true}

-- a record of the data set has a number behind the first of these and up to the last
abbrev Within : ℕ → ℕ → ℕ → Place → Type 0
Within set low most p = p.0 ≡ set → (low < p.1) × (p.1 ≤ most)

abbrev AllWithin : ℕ → ℕ → ℕ → List (Place × Record) → Type 0
AllWithin set low most [] = Unit {0}
AllWithin set low most (e ∷ es) = Within set low most e.0 × AllWithin set low most es

second_less : (p q : Ordering) → T (is_lt (ordering_then p q)) → p ≡ Equal → q ≡ Less
second_less Less q h e = absurd (cc e)
second_less Greater q h e = absurd (cc e)
second_less Equal Less h e = refl
second_less Equal Equal h e = absurd h
second_less Equal Greater h e = absurd h

number_less : (a b : Place) → T (is_lt (place_cmp a b)) → a.0 ≡ b.0 → a.1 < b.1
number_less a b h same =
    let equal : nat_cmp a.0 b.0 ≡ Equal = grind (arith, nat_tests, same) in
    let less = second_less (nat_cmp a.0 b.0) (nat_cmp a.1 b.1) h equal in
    grind (arith, nat_tests, less)

-- those behind a record of the data set have greater numbers
behind : (set low most : ℕ) (x : Place) (es : List (Place × Record)) → x.0 ≡ set → T (below_all place_cmp x es) → AllWithin set low most es → AllWithin set x.1 most es
behind set low most x [] same h all = tt
behind set low most x (e ∷ es) same h all =
    ((λ of. (number_less x e.0 (first_true _ _ h) (same ∙ sym of), (all.0 of).1)), behind set low most x es same (second_true _ _ h) all.1)

with_long : (x : List ℕ) (ys : List (List ℕ)) → length (with_entry x ys) ≤ length ys + 1
with_long x [] = omega arith
with_long x (y ∷ ys) = step (bytes_cmp x y) (with_long x ys)
  where
    step : (o : Ordering) → length (with_entry x ys) ≤ length ys + 1 → length (by_order o (x ∷ y ∷ ys) (y ∷ ys) (y ∷ with_entry x ys)) ≤ length (y ∷ ys) + 1
    step Less le = omega arith
    step Equal le = omega arith
    step Greater le = omega (arith, le)

module _ (member : Place → Record → Option (List ℕ)) (set most : ℕ) (own : (p : Place) (r : Record) (q : List ℕ) → member p r ≡ Some q → p.0 ≡ set) where
  few_turn : (o : Option (List ℕ)) (low : ℕ) (e : Place × Record) (es : List (Place × Record)) → member e.0 e.1 ≡ o → low ≤ most → T (below_all place_cmp e.0 es) → AllWithin set low most (e ∷ es)
      → ((l : ℕ) → l ≤ most → AllWithin set l most es → length (keys (listing member es)) + l ≤ most) → length (keys (with_opt o (listing member es))) + low ≤ most
  few_turn None low e es is le h all rest = rest low le all.1
  few_turn (Some q) low e es is le h all rest =
      let of = own e.0 e.1 q is in
      let here = all.0 of in
      let then = rest e.0.1 here.1 (behind set low most e.0 es of h all.1) in
      omega (arith, here.0, then, ap length (keys_with q (listing member es)), with_long q (keys (listing member es)))

  few : (low : ℕ) (es : List (Place × Record)) → low ≤ most → T (is_sorted place_cmp es) → AllWithin set low most es → length (keys (listing member es)) + low ≤ most
  few low [] le h all = omega (arith, le, ap length empty_keys)
  few low (e ∷ es) le h all =
      few_turn (member e.0 e.1) low e es refl le (first_true _ _ h) all (λ l le' within. few l es le' (second_true _ _ h) within)

own_set : (b t : Bool) (s : Shape) (p : Place) (x : List ℕ) (q : List ℕ) → (over s == p.0) ≡ b → cond (b && t) (Some x) None ≡ Some q → p.0 ≡ over s
own_set true t s p x q same h = grind (arith, nat_tests, same)
own_set false t s p x q same h = absurd (cc h)

found_within : (db : Db) (set most : ℕ) (es : List (Place × Record)) → ((n : ℕ) (rec : Record) → get db.records (set, n) ≡ Some rec → (1 ≤ n) × (n ≤ most)) → AllByRecursion (StandsAmong (entries db.records)) es → AllWithin set 0 most es
found_within db set most [] numbers found = tt
found_within db set most (e ∷ es) numbers found =
    ((λ of. let at : get db.records (set, e.0.1) ≡ Some e.1 = ap (λ n. get db.records (n, e.0.1)) (sym of) ∙ get-entries db.records e.0 ∙ found.0 in let h = numbers e.0.1 e.1 at in (omega (arith, h.0), h.1)), found_within db set most es numbers found.1)

-- where the records of the data set have numbers from 1 on
pub entries_few : (desc : Described) (db : Db) (s : Shape) (most : ℕ) → ((n : ℕ) (rec : Record) → get db.records (over s, n) ≡ Some rec → (1 ≤ n) × (n ≤ most)) → length (entries_of desc db s) ≤ most
entries_few desc db s most numbers =
    let member = entry_of (kinds_over desc s) s in
    let own : (p : Place) (r : Record) (q : List ℕ) → member p r ≡ Some q → p.0 ≡ over s = λ p r q h.
    own_set (over s == p.0) (takes s r.values) s p (entry_bytes (kinds_over desc s) s.parts r.owner (key_of s.parts r.values) p.1) q refl h in
    let all = found_within db (over s) most (entries db.records) numbers (all_found (entries db.records) (entries_sorted db.records)) in
    omega (arith, few member (over s) most own 0 (entries db.records) (omega arith) (entries_sorted db.records) all)

without_long : (x : List ℕ) (ys : List (List ℕ)) → length (without x ys) ≤ length ys
without_long x [] = omega arith
without_long x (y ∷ ys) = step (is_same x y) (without_long x ys)
  where
    step : (b : Bool) → length (without x ys) ≤ length ys → length (cond (not b) (y ∷ without x ys) (without x ys)) ≤ length (y ∷ ys)
    step true le = omega (arith, le)
    step false le = omega (arith, le)

-- So the list of a set has room for one more entry, also without an old one.
pub few_room : (o : Option (List ℕ)) (xs : List (List ℕ)) (most : ℕ) → length xs ≤ most → most ≤ 1000000 → HasRoom (without_in o xs)
few_room None xs most few le = omega (arith, few, le)
few_room (Some q) xs most few le = omega (arith, few, le, without_long q xs)
