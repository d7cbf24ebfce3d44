-- Entries with one front stand side by side.
use Rattle.std.proofs.Common.{◌≡◌, ℕ, zero, suc, ◌+◌, ◌-◌, ◌≤◌, List, [], ◌∷◌, ◌++◌, Bool, true, false, cond, Some, None, refl, sym, ap, subst, ◌∙◌, length, take, drop, arith}
use Rattle.std.specs.Prelude.{◌||◌}
use Rattle.std.specs.declared.option.Option.{Option}
use Rattle.std.specs.Ordering.{is_eq, nat_cmp, ordering_then, ordering_reverse}
use Rattle.std.specs.declared.cmp.Ordering.{Ordering}
use Rattle.std.specs.declared.cmp.Ordering.TheVariants.{Less, Equal, Greater}
use Rattle.std.specs.Cmp.Lexicographic.{nat_list_cmp_total}
use Rattle.std.proofs.lemmas.Bool.{true≢false}
use Rattle.dms_chain.specs.Lists.{AreAllAbove, AreInByteOrder, bytes_cmp, bytes_same, has_entry, is_same}
use Rattle.dms_differ.specs.Twins.{AreWide, TwinsAreNeighbours, first_twin, front_of, twin_at}

-- ---- orders of fronts

then_assoc : (o p r : Ordering) → ordering_then (ordering_then o p) r ≡ ordering_then o (ordering_then p r)
then_assoc Less p r = refl
then_assoc Equal p r = refl
then_assoc Greater p r = refl

-- the order of the first n bytes decides first
parts_cmp : (n : ℕ) (x y : List ℕ) → n ≤ length x → n ≤ length y → bytes_cmp x y ≡ ordering_then (bytes_cmp (take n x) (take n y)) (bytes_cmp (drop n x) (drop n y))
parts_cmp zero x y le le' = refl
parts_cmp (suc n) [] y le le' = absurd (omega (arith, le))
parts_cmp (suc n) (a ∷ x) [] le le' = absurd (omega (arith, le'))
parts_cmp (suc n) (a ∷ x) (b ∷ y) le le' =
    ap (ordering_then (nat_cmp a b)) (parts_cmp n x y (omega (arith, le)) (omega (arith, le')))
    ∙ sym (then_assoc (nat_cmp a b) (bytes_cmp (take n x) (take n y)) (bytes_cmp (drop n x) (drop n y)))

less_then : (o p : Ordering) → ordering_then o p ≡ Less → (o ≡ Greater → ⊥)
less_then Less p h g = absurd (cc (g))
less_then Equal p h g = absurd (cc (g))
less_then Greater p h g = absurd (cc (h))

-- what is between two with one front has it
squeeze : (o p : Ordering) → (o ≡ Greater → ⊥) → (p ≡ Greater → ⊥) → p ≡ ordering_reverse o → o ≡ Equal
squeeze Less p low high turned = absurd (high turned)
squeeze Equal p low high turned = refl
squeeze Greater p low high turned = absurd (low refl)

between : (n : ℕ) (x z y : List ℕ) → n ≤ length x → n ≤ length z → n ≤ length y → bytes_cmp x z ≡ Less → bytes_cmp z y ≡ Less → take n x ≡ take n y → take n x ≡ take n z
between n x z y lx lz ly first second same =
    let p = take n x in
    let q = take n z in
    let low = less_then (bytes_cmp p q) (bytes_cmp (drop n x) (drop n z)) (sym (parts_cmp n x z lx lz) ∙ first) in
    let high = less_then (bytes_cmp q (take n y)) (bytes_cmp (drop n z) (drop n y)) (sym (parts_cmp n z y lz ly) ∙ second) in
    let turned : bytes_cmp q (take n y) ≡ ordering_reverse (bytes_cmp p q) = ap (bytes_cmp q) (sym same) ∙ nat_list_cmp_total.antisymm q p in
    bytes_same p q (squeeze (bytes_cmp p q) (bytes_cmp q (take n y)) low high turned)

itself : (x : List ℕ) → bytes_cmp x x ≡ Equal
itself x = own (bytes_cmp x x) (nat_list_cmp_total.antisymm x x)
  where
    own : (o : Ordering) → o ≡ ordering_reverse o → o ≡ Equal
    own Less h = absurd (cc h)
    own Equal h = refl
    own Greater h = absurd (cc h)

same_of : (x y : List ℕ) (o : Ordering) → bytes_cmp x y ≡ o → is_eq o ≡ true → x ≡ y
same_of x y Equal is h = bytes_same x y is
same_of x y Less is h = absurd (true≢false (sym h))
same_of x y Greater is h = absurd (true≢false (sym h))

-- ---- lists

-- none of these has the front
Apart : List ℕ → List (List ℕ) → Type 0
Apart x ys = (y : List ℕ) → has_entry y ys ≡ true → front_of x ≡ front_of y → ⊥

test : (t : Bool) (i : ℕ) (o : Option ℕ) → cond t (Some i) o ≡ None → (t ≡ false) × (o ≡ None)
test true i o h = absurd (cc h)
test false i o h = (refl, h)

above_at : (x : List ℕ) (ys : List (List ℕ)) (y : List ℕ) → AreAllAbove x ys → has_entry y ys ≡ true → bytes_cmp x y ≡ Less
above_at x [] y all h = absurd (true≢false (sym h))
above_at x (z ∷ ys) y all h = by (is_same y z) refl h (λ more. above_at x ys y all.1 more)
  where
    by : (t : Bool) → is_same y z ≡ t → (t || has_entry y ys) ≡ true → (has_entry y ys ≡ true → bytes_cmp x y ≡ Less) → bytes_cmp x y ≡ Less
    by true is h rest = ap (bytes_cmp x) (same_of y z (bytes_cmp y z) refl is) ∙ all.0
    by false is h rest = rest h

wide_at : (width : ℕ) (ys : List (List ℕ)) (y : List ℕ) → AreWide width ys → has_entry y ys ≡ true → length y ≡ width
wide_at width [] y all h = absurd (true≢false (sym h))
wide_at width (z ∷ ys) y all h = by (is_same y z) refl h (λ more. wide_at width ys y all.1 more)
  where
    by : (t : Bool) → is_same y z ≡ t → (t || has_entry y ys) ≡ true → (has_entry y ys ≡ true → length y ≡ width) → length y ≡ width
    by true is h rest = ap length (same_of y z (bytes_cmp y z) refl is) ∙ all.0
    by false is h rest = rest h

-- the front of the first is none of those behind it
apart_first : (width i : ℕ) (x : List ℕ) (xs : List (List ℕ)) → 4 ≤ width → length x ≡ width → AreWide width xs → AreInByteOrder (x ∷ xs) → twin_at i x xs ≡ None → Apart x xs
unfolding Apart
apart_first width i x [] four long wide rises none y h same = true≢false (sym h)
apart_first width i x (z ∷ zs) four long wide rises none y h same =
    let here = test (is_same (front_of x) (front_of z)) i (twin_at (i + 1) z zs) none in
    by (is_same y z) refl here.0 h
  where
    front_same : (u v : List ℕ) → front_of u ≡ front_of v → is_same (front_of u) (front_of v) ≡ true
    front_same u v e = ap (λ (o : Ordering). is_eq o) (ap (bytes_cmp (front_of u)) (sym e) ∙ itself (front_of u))

    by : (t : Bool) → is_same y z ≡ t → is_same (front_of x) (front_of z) ≡ false → (t || has_entry y zs) ≡ true → ⊥
    by true is off h = true≢false (sym (front_same x z (same ∙ ap front_of (same_of y z (bytes_cmp y z) refl is))) ∙ off)
    by false is off h =
        let n = width - 4 in
        let ly = wide_at width zs y wide.1 h in
        let fx : front_of x ≡ take n x = ap (λ k. take (k - 4) x) long in
        let fy : front_of y ≡ take n y = ap (λ k. take (k - 4) y) ly in
        let fz : front_of z ≡ take n z = ap (λ k. take (k - 4) z) wide.0 in
        let mid = between n x z y (omega (arith, long)) (omega (arith, wide.0)) (omega (arith, ly)) rises.0.0 (above_at z zs y rises.1.0 h) (sym fx ∙ same ∙ fy) in
        true≢false (sym (front_same x z (fx ∙ mid ∙ sym fz)) ∙ off)

twin_on : (i : ℕ) (x z : List ℕ) (zs : List (List ℕ)) → twin_at i x (z ∷ zs) ≡ None → twin_at (i + 1) z zs ≡ None
twin_on i x z zs none = (test (is_same (front_of x) (front_of z)) i (twin_at (i + 1) z zs) none).1

pair_by : (x : List ℕ) (xs : List (List ℕ)) (a b : List ℕ) → Apart x xs → (has_entry a xs ≡ true → has_entry b xs ≡ true → a ≡ b) → front_of a ≡ front_of b
    → (s : Bool) → is_same a x ≡ s → (t : Bool) → is_same b x ≡ t → (s || has_entry a xs) ≡ true → (t || has_entry b xs) ≡ true → a ≡ b
unfolding Apart
pair_by x xs a b apart rest same true ax true bx ha hb = same_of a x (bytes_cmp a x) refl ax ∙ sym (same_of b x (bytes_cmp b x) refl bx)
pair_by x xs a b apart rest same true ax false bx ha hb = absurd (apart b hb (ap front_of (sym (same_of a x (bytes_cmp a x) refl ax)) ∙ same))
pair_by x xs a b apart rest same false ax true bx ha hb = absurd (apart a ha (ap front_of (sym (same_of b x (bytes_cmp b x) refl bx)) ∙ sym same))
pair_by x xs a b apart rest same false ax false bx ha hb = rest ha hb

pairs : (width i : ℕ) (x : List ℕ) (xs : List (List ℕ)) → 4 ≤ width → length x ≡ width → AreWide width xs → AreInByteOrder (x ∷ xs) → twin_at i x xs ≡ None
    → (a b : List ℕ) → has_entry a (x ∷ xs) ≡ true → has_entry b (x ∷ xs) ≡ true → front_of a ≡ front_of b → a ≡ b
pairs width i x [] four long wide rises none a b ha hb same =
    pair_by x [] a b (apart_first width i x [] four long wide rises none) (λ h k. absurd (true≢false (sym h))) same (is_same a x) refl (is_same b x) refl ha hb
pairs width i x (z ∷ zs) four long wide rises none a b ha hb same =
    pair_by x (z ∷ zs) a b (apart_first width i x (z ∷ zs) four long wide rises none)
    (λ h k. pairs width (i + 1) z zs four wide.0 wide.1 rises.1 (twin_on i x z zs none) a b h k same) same (is_same a x) refl (is_same b x) refl ha hb

pub twins_are_neighbours : TwinsAreNeighbours
twins_are_neighbours width [] four rises wide none a b ha hb same = absurd (true≢false (sym ha))
twins_are_neighbours width (x ∷ xs) four rises wide none a b ha hb same = pairs width 2 x xs four wide.0 wide.1 rises none a b ha hb same
