-- Byte strings by their prefix.
use Rattle.std.proofs.Common.{◌≡◌, ℕ, ◌<◌, List, [], ◌∷◌, ◌++◌, Bool, true, false, cond, Some, refl, sym, ap, ◌∙◌, length, arith}
use Rattle.std.specs.Prelude.{◌||◌, not, is_some}
use Rattle.std.specs.List.{list_any}
use Rattle.std.specs.Ordering.{is_eq, is_lt, is_gt, nat_cmp, ordering_then, ordering_reverse, MatchOrdering}
use Rattle.std.specs.declared.cmp.Ordering.{Ordering}
use Rattle.std.specs.declared.cmp.Ordering.TheVariants.{Less, Equal, Greater}
use Rattle.std.specs.Cmp.Lexicographic.{nat_list_cmp_total}
use Rattle.std.proofs.lemmas.Cmp.{ranked}
use Rattle.dms_desc.specs.Sorted.{first, NoneLess, InOrder, that_passes, first_narrow}
use Rattle.dms_key.specs.ByteOrder.{less_is, equal_is, then_assoc}
use Rattle.dms_chain.specs.Lists.{AreAllAbove, AreInByteOrder, bytes_cmp, bytes_same}

-- a prefix against the beginning of a string
abbrev pub front_cmp : List ℕ → List ℕ → Ordering
front_cmp [] q = Equal
front_cmp (a ∷ p) [] = Greater
front_cmp (a ∷ p) (b ∷ q) = ordering_then (nat_cmp a b) (front_cmp p q)

-- a string begins with this prefix
abbrev pub starts : List ℕ → List ℕ → Bool
starts p q = is_eq (front_cmp p q)

-- a string isn't below this prefix
abbrev pub reaches : List ℕ → List ℕ → Bool
reaches p q = not (is_gt (front_cmp p q))

-- prefixes of strings that begin with as many bytes
pub front_append : (x y p q : List ℕ) → length x ≡ length y → front_cmp (x ++ p) (y ++ q) ≡ ordering_then (bytes_cmp x y) (front_cmp p q)
front_append [] [] p q e = refl
front_append [] (b ∷ y) p q e = absurd (omega (arith, e))
front_append (a ∷ x) [] p q e = absurd (omega (arith, e))
front_append (a ∷ x) (b ∷ y) p q e = ap (ordering_then (nat_cmp a b)) (front_append x y p q (omega (arith, e))) ∙ sym (then_assoc (nat_cmp a b) (bytes_cmp x y) (front_cmp p q))

pub front_whole : (x y q : List ℕ) → length x ≡ length y → front_cmp x (y ++ q) ≡ bytes_cmp x y
front_whole [] [] q e = refl
front_whole [] (b ∷ y) q e = absurd (omega (arith, e))
front_whole (a ∷ x) [] q e = absurd (omega (arith, e))
front_whole (a ∷ x) (b ∷ y) q e = ap (ordering_then (nat_cmp a b)) (front_whole x y q (omega (arith, e)))

pub gt_then : (o p r : Ordering) → is_gt p ≡ is_gt r → is_gt (ordering_then o p) ≡ is_gt (ordering_then o r)
gt_then Less p r h = refl
gt_then Equal p r h = h
gt_then Greater p r h = refl

-- to be below a prefix is to be below it as a string, so a comparison of strings finds where it is reached
pub reaches_is : (p q : List ℕ) → is_gt (front_cmp p q) ≡ is_gt (bytes_cmp p q)
reaches_is [] [] = refl
reaches_is [] (b ∷ q) = refl
reaches_is (a ∷ p) [] = refl
reaches_is (a ∷ p) (b ∷ q) = gt_then (nat_cmp a b) (front_cmp p q) (bytes_cmp p q) (reaches_is p q)

less_on : (o r : Ordering) (a b c : ℕ) (f g h : Ordering) → MatchOrdering o (a < b) (a ≡ b) (b < a) → MatchOrdering r (b < c) (b ≡ c) (c < b) → (f ≡ Less → g ≡ Less → h ≡ Less)
    → ordering_then o f ≡ Less → ordering_then r g ≡ Less → ordering_then (nat_cmp a c) h ≡ Less
less_on Less Less a b c f g h x y rest p q = ap (λ o. ordering_then o h) (less_is a c (omega (arith, x, y)))
less_on Less Equal a b c f g h x y rest p q = ap (λ o. ordering_then o h) (less_is a c (omega (arith, x, y)))
less_on Equal Less a b c f g h x y rest p q = ap (λ o. ordering_then o h) (less_is a c (omega (arith, x, y)))
less_on Equal Equal a b c f g h x y rest p q = ap (λ o. ordering_then o h) (equal_is a c (omega (arith, x, y))) ∙ rest p q
less_on Greater r a b c f g h x y rest p q = absurd (cc)
less_on o Greater a b c f g h x y rest p q = absurd (cc)

-- what is above a string that is above a prefix is above it too
pub front_less : (p x y : List ℕ) → front_cmp p x ≡ Less → bytes_cmp x y ≡ Less → front_cmp p y ≡ Less
front_less [] x y h k = absurd (cc)
front_less (a ∷ p) [] y h k = absurd (cc)
front_less (a ∷ p) (b ∷ x) [] h k = absurd (cc)
front_less (a ∷ p) (b ∷ x) (c ∷ y) h k =
    less_on (nat_cmp a b) (nat_cmp b c) a b c (front_cmp p x) (bytes_cmp x y) (front_cmp p y) (ranked a b (nat_cmp a b) refl) (ranked b c (nat_cmp b c) refl) (front_less p x y) h k

greater_then : (o p r : Ordering) → (p ≡ Greater → r ≡ Greater) → ordering_then o p ≡ Greater → ordering_then o r ≡ Greater
greater_then Less p r f h = absurd (cc)
greater_then Equal p r f h = f h
greater_then Greater p r f h = refl

-- what is below a prefix is below a longer one
pub front_longer : (p r q : List ℕ) → front_cmp p q ≡ Greater → front_cmp (p ++ r) q ≡ Greater
front_longer [] r q h = absurd (cc)
front_longer (a ∷ p) r [] h = refl
front_longer (a ∷ p) r (b ∷ q) h = greater_then (nat_cmp a b) (front_cmp p q) (front_cmp (p ++ r) q) (front_longer p r q) h

-- lists that rise are in order by byte order

abbrev pub is_below : List ℕ → List ℕ → Bool
is_below x y = is_lt (bytes_cmp x y)

none_less : (x : List ℕ) (ys : List (List ℕ)) → AreAllAbove x ys → NoneLess is_below x ys
none_less x [] all = tt
none_less x (y ∷ ys) all = (ap is_lt (nat_list_cmp_total.antisymm y x ∙ ap ordering_reverse all.0), none_less x ys all.1)

pub in_order : (xs : List (List ℕ)) → AreInByteOrder xs → InOrder is_below xs
in_order [] rise = tt
in_order (x ∷ xs) rise = (none_less x xs rise.0, in_order xs rise.1)

within_front : (o : Ordering) → is_eq o ≡ true → not (is_gt o) ≡ true
within_front Less h = refl
within_front Equal h = refl
within_front Greater h = absurd (cc)

pub past_front : (o : Ordering) → not (is_gt o) ≡ true → is_eq o ≡ false → o ≡ Less
past_front Less h k = refl
past_front Equal h k = absurd (cc)
past_front Greater h k = absurd (cc)

upto_less : (o : Ordering) (p x y : List ℕ) → bytes_cmp x y ≡ o → front_cmp p x ≡ Less → is_lt (ordering_reverse o) ≡ false → front_cmp p y ≡ Less
upto_less Less p x y is h k = front_less p x y h is
upto_less Equal p x y is h k = ap (front_cmp p) (sym (bytes_same x y is)) ∙ h
upto_less Greater p x y is h k = absurd (cc)

-- behind a string that is past a prefix, all strings are
pub still_past : (p x y : List ℕ) → front_cmp p x ≡ Less → is_below y x ≡ false → front_cmp p y ≡ Less
still_past p x y h k = upto_less (bytes_cmp x y) p x y refl h (ap is_lt (sym (nat_list_cmp_total.antisymm y x)) ∙ k)

-- The first string with a prefix is the first one that reaches it, where that one has it. Else there is none.
pub first_starts : (p : List ℕ) (xs : List (List ℕ)) → AreInByteOrder xs → first (starts p) xs ≡ that_passes (starts p) (first (reaches p) xs)
first_starts p xs rise =
    first_narrow is_below (reaches p) (starts p) (λ x h. within_front (front_cmp p x) h)
    (λ x y w n none. ap is_eq (still_past p x y (past_front (front_cmp p x) w n) none)) xs (in_order xs rise)

pub any_first : {A : Type 0} (p : A → Bool) (xs : List A) → list_any p xs ≡ is_some (first p xs)
any_first p [] = refl
any_first p (x ∷ xs) =
    elim (p x) as (λ b. (b || list_any p xs) ≡ is_some (cond b (Some x) (first p xs))) [ true ↦ refl | false ↦ any_first p xs ]
