-- The first difference of two rising lists.
use Rattle.std.proofs.Common.{◌≡◌, ℕ, suc, List, [], ◌∷◌, Bool, true, false, cond, Some, None, refl, sym, ap, subst, ◌∙◌}
use Rattle.std.specs.Prelude.{◌||◌, not}
use Rattle.std.specs.declared.option.Option.{Option}
use Rattle.std.specs.Option.{option_map}
use Rattle.std.specs.Ordering.{is_eq, is_gt, ordering_reverse}
use Rattle.std.specs.declared.cmp.Ordering.{Ordering}
use Rattle.std.specs.declared.cmp.Ordering.TheVariants.{Less, Equal, Greater}
use Rattle.std.specs.Cmp.Lexicographic.{nat_list_cmp_total}
use Rattle.dms_chain.specs.Lists.{AreAllAbove, AreInByteOrder, bytes_cmp, bytes_same, first, has_entry, is_same, is_under}
use Rattle.dms_chain.specs.Leads.{above_through, lead}
use Rattle.dms_differ.specs.Differ.{first_diff, first_out, less_of, place_of}

-- ---- orders

turned : (x y : List ℕ) (o : Ordering) → bytes_cmp x y ≡ o → bytes_cmp y x ≡ ordering_reverse o
turned x y o h = nat_list_cmp_total.antisymm y x ∙ ap ordering_reverse h

itself : (x : List ℕ) → bytes_cmp x x ≡ Equal
itself x = own (bytes_cmp x x) (nat_list_cmp_total.antisymm x x)
  where
    own : (o : Ordering) → o ≡ ordering_reverse o → o ≡ Equal
    own Less h = absurd (cc h)
    own Equal h = refl
    own Greater h = absurd (cc h)

-- ---- entries above others

none_above : (x : List ℕ) (ys : List (List ℕ)) → AreAllAbove x ys → has_entry x ys ≡ false
none_above x [] all = refl
none_above x (y ∷ ys) all = ap (λ (o : Ordering). is_eq o || has_entry x ys) all.0 ∙ none_above x ys all.1

above_if : (x y q : List ℕ) (t : Bool) (o : Option (List ℕ)) → bytes_cmp x y ≡ Less → (o ≡ Some q → bytes_cmp x q ≡ Less) → cond t (Some y) o ≡ Some q → bytes_cmp x q ≡ Less
above_if x y q true o low rest is = let e : y ≡ q = cc is in ap (bytes_cmp x) (sym e) ∙ low
above_if x y q false o low rest is = rest is

-- what is found is above
first_above : (p : List ℕ → Bool) (x : List ℕ) (ys : List (List ℕ)) (q : List ℕ) → AreAllAbove x ys → first p ys ≡ Some q → bytes_cmp x q ≡ Less
first_above p x [] q all is = absurd (cc is)
first_above p x (y ∷ ys) q all is = above_if x y q (p y) (first p ys) all.0 (first_above p x ys q all.1) is

-- an entry in front of a list is none of those above it
past_out : (x : List ℕ) (xs ys : List (List ℕ)) → AreAllAbove x xs → first_out xs (x ∷ ys) ≡ first_out xs ys
past_out x [] ys all = refl
past_out x (z ∷ xs) ys all =
    let off : is_same z x ≡ false = ap is_eq (turned x z Less all.0) in
    ap (λ t. cond (not (t || has_entry z ys)) (Some z) (first_out xs (x ∷ ys))) off ∙ ap (λ o. cond (not (has_entry z ys)) (Some z) o) (past_out x xs ys all.1)

-- an entry that stands in front of both is passed
own_out : (x : List ℕ) (xs ys : List (List ℕ)) → first_out (x ∷ xs) (x ∷ ys) ≡ first_out xs (x ∷ ys)
own_out x xs ys = ap (λ (o : Ordering). cond (not (is_eq o || has_entry x ys)) (Some x) (first_out xs (x ∷ ys))) (itself x)

both_out : (x : List ℕ) (xs ys : List (List ℕ)) → AreAllAbove x xs → first_out (x ∷ xs) (x ∷ ys) ≡ first_out xs ys
both_out x xs ys all = own_out x xs ys ∙ past_out x xs ys all

-- ---- the less of two

-- it is what both are
less_holds : (P : List ℕ → Type 0) (a b : Option (List ℕ)) → ((q : List ℕ) → a ≡ Some q → P q) → ((q : List ℕ) → b ≡ Some q → P q) → (q : List ℕ) → less_of a b ≡ Some q → P q
less_holds P None b pa pb q is = pb q is
less_holds P (Some a) None pa pb q is = pa q is
less_holds P (Some a) (Some b) pa pb q is = by_test (is_gt (bytes_cmp a b)) is
  where
    by_test : (t : Bool) → cond t (Some b) (Some a) ≡ Some q → P q
    by_test true is = pb q is
    by_test false is = pa q is

-- one is less than what the other may be
less_first : (a : List ℕ) (b : Option (List ℕ)) → ((q : List ℕ) → b ≡ Some q → bytes_cmp a q ≡ Less) → less_of (Some a) b ≡ Some a
less_first a None low = refl
less_first a (Some b) low = ap (λ (o : Ordering). cond (is_gt o) (Some b) (Some a)) (low b refl)

less_second : (a : Option (List ℕ)) (b : List ℕ) → ((q : List ℕ) → a ≡ Some q → bytes_cmp b q ≡ Less) → less_of a (Some b) ≡ Some b
less_second None b low = refl
less_second (Some a) b low = ap (λ (o : Ordering). cond (is_gt o) (Some b) (Some a)) (turned b a Less (low a refl))

-- ---- places

-- behind one more entry in front, which is less
place_on : (x : List ℕ) (xs : List (List ℕ)) (o : Option (List ℕ)) → ((q : List ℕ) → o ≡ Some q → bytes_cmp x q ≡ Less)
    → option_map (place_of (x ∷ xs)) o ≡ option_map suc (option_map (place_of xs) o)
place_on x xs None low = refl
place_on x xs (Some q) low = ap (λ (r : Ordering). Some (suc (cond (is_gt r) (suc (lead q xs)) 0))) (turned x q Less (low q refl))

front_place : (x : List ℕ) (xs : List (List ℕ)) → place_of (x ∷ xs) x ≡ 1
front_place x xs = ap (λ (r : Ordering). suc (cond (is_gt r) (suc (lead x xs)) 0)) (itself x)

low_place : (q x : List ℕ) (xs : List (List ℕ)) → bytes_cmp q x ≡ Less → place_of (x ∷ xs) q ≡ 1
low_place q x xs low = ap (λ (r : Ordering). suc (cond (is_gt r) (suc (lead q xs)) 0)) low

-- ---- the law

out_in : (x : List ℕ) (xs ys : List (List ℕ)) → has_entry x ys ≡ false → first_out (x ∷ xs) ys ≡ Some x
out_in x xs ys off = ap (λ t. cond (not t) (Some x) (first_out xs ys)) off

-- what is first in the second list and isn't less than its front is above what is less than that front
out_above : (x y : List ℕ) (ys xs : List (List ℕ)) → bytes_cmp x y ≡ Less → AreAllAbove y ys → (q : List ℕ) → first_out (y ∷ ys) xs ≡ Some q → bytes_cmp x q ≡ Less
out_above x y ys xs low all q is = first_above (λ z. not (has_entry z xs)) x (y ∷ ys) q (low, above_through x y ys low all) is

-- an equal front is passed
equal : (x : List ℕ) (xs ys : List (List ℕ)) → AreInByteOrder (x ∷ xs) → first_diff xs ys ≡ option_map (place_of xs) (less_of (first_out xs ys) (first_out ys xs)) → AreInByteOrder (x ∷ ys)
    → option_map suc (first_diff xs ys) ≡ option_map (place_of (x ∷ xs)) (less_of (first_out (x ∷ xs) (x ∷ ys)) (first_out (x ∷ ys) (x ∷ xs)))
equal x xs ys r rest s =
    let least = less_of (first_out xs ys) (first_out ys xs) in
    let both : less_of (first_out (x ∷ xs) (x ∷ ys)) (first_out (x ∷ ys) (x ∷ xs)) ≡ least = λ i. less_of (both_out x xs ys r.0 i) (both_out x ys xs s.0 i) in
    ap (option_map suc) rest
    ∙ sym (place_on x xs least (less_holds (λ q. bytes_cmp x q ≡ Less) (first_out xs ys) (first_out ys xs) (λ q h. first_above _ x xs q r.0 h) (λ q h. first_above _ x ys q s.0 h)))
    ∙ ap (option_map (place_of (x ∷ xs))) (sym both)

by_order : (o : Ordering) (x y : List ℕ) (xs ys : List (List ℕ)) → bytes_cmp x y ≡ o → AreInByteOrder (x ∷ xs) → AreInByteOrder (y ∷ ys)
    → first_diff xs ys ≡ option_map (place_of xs) (less_of (first_out xs ys) (first_out ys xs))
    → cond (is_eq o) (option_map suc (first_diff xs ys)) (Some 1) ≡ option_map (place_of (x ∷ xs)) (less_of (first_out (x ∷ xs) (y ∷ ys)) (first_out (y ∷ ys) (x ∷ xs)))
by_order Less x y xs ys is r s rest =
    let out : first_out (x ∷ xs) (y ∷ ys) ≡ Some x = out_in x xs (y ∷ ys) (none_above x (y ∷ ys) (is, above_through x y ys is s.0)) in
    let least : less_of (Some x) (first_out (y ∷ ys) (x ∷ xs)) ≡ Some x = less_first x _ (out_above x y ys (x ∷ xs) is s.0) in
    sym (ap (λ a. option_map (place_of (x ∷ xs)) (less_of a (first_out (y ∷ ys) (x ∷ xs)))) out ∙ ap (option_map (place_of (x ∷ xs))) least ∙ ap (λ n. Some n) (front_place x xs))
by_order Greater x y xs ys is r s rest =
    let low : bytes_cmp y x ≡ Less = turned x y Greater is in
    let out : first_out (y ∷ ys) (x ∷ xs) ≡ Some y = out_in y ys (x ∷ xs) (none_above y (x ∷ xs) (low, above_through y x xs low r.0)) in
    let least : less_of (first_out (x ∷ xs) (y ∷ ys)) (Some y) ≡ Some y = less_second _ y (out_above y x xs (y ∷ ys) low r.0) in
    sym (ap (λ a. option_map (place_of (x ∷ xs)) (less_of (first_out (x ∷ xs) (y ∷ ys)) a)) out ∙ ap (option_map (place_of (x ∷ xs))) least ∙ ap (λ n. Some n) (low_place y x xs low))
by_order Equal x y xs ys is r s rest =
    subst (λ z. AreInByteOrder (z ∷ ys) → option_map suc (first_diff xs ys) ≡ option_map (place_of (x ∷ xs)) (less_of (first_out (x ∷ xs) (z ∷ ys)) (first_out (z ∷ ys) (x ∷ xs)))) (bytes_same x y is) (equal x xs ys r rest) s

pub first_by_least : (xs ys : List (List ℕ)) → AreInByteOrder xs → AreInByteOrder ys → first_diff xs ys ≡ option_map (place_of xs) (less_of (first_out xs ys) (first_out ys xs))
first_by_least [] [] r s = refl
first_by_least [] (y ∷ ys) r s = refl
first_by_least (x ∷ xs) [] r s = sym (ap (λ n. Some n) (front_place x xs))
first_by_least (x ∷ xs) (y ∷ ys) r s = by_order (bytes_cmp x y) x y xs ys refl r s (first_by_least xs ys r.1 s.1)

no_suc : (o : Option ℕ) → option_map suc o ≡ None → o ≡ None
no_suc None h = refl
no_suc (Some n) h = absurd (cc h)

same_by : (x y : List ℕ) (xs ys : List (List ℕ)) (o : Ordering) → bytes_cmp x y ≡ o → (first_diff xs ys ≡ None → xs ≡ ys) → cond (is_eq o) (option_map suc (first_diff xs ys)) (Some 1) ≡ None → x ∷ xs ≡ y ∷ ys
same_by x y xs ys Less is rest h = absurd (cc h)
same_by x y xs ys Greater is rest h = absurd (cc h)
same_by x y xs ys Equal is rest h = λ i. bytes_same x y is i ∷ rest (no_suc (first_diff xs ys) h) i

pub same_where_none : (xs ys : List (List ℕ)) → first_diff xs ys ≡ None → xs ≡ ys
same_where_none [] [] h = refl
same_where_none [] (y ∷ ys) h = absurd (cc h)
same_where_none (x ∷ xs) [] h = absurd (cc h)
same_where_none (x ∷ xs) (y ∷ ys) h = same_by x y xs ys (bytes_cmp x y) refl (same_where_none xs ys) h
