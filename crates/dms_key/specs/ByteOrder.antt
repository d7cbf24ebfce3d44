-- The order of byte strings of one length.
use Rattle.std.proofs.Common.{◌≡◌, ℕ, zero, suc, ◌+◌, ◌-◌, ◌*◌, ◌/◌, ◌%◌, ◌^◌, ◌≤◌, ◌<◌, List, [], ◌∷◌, ◌++◌, refl, sym, ap, ◌∙◌, map, length, arith}
use Rattle.std.specs.Int.{byte_at, bytes_high_first}
use Rattle.std.specs.Ordering.{nat_cmp, ordering_then, ordering_reverse, MatchOrdering}
use Rattle.std.specs.declared.cmp.Ordering.{Ordering}
use Rattle.std.specs.declared.cmp.Ordering.TheVariants.{Less, Equal, Greater}
use Rattle.std.proofs.lemmas.Cmp.{ranked}
use Rattle.std.proofs.lemmas.Bool.Decides.{nat_tests}
use Rattle.std.proofs.Math.Nat as nat
use Rattle.std.proofs.lemmas.Nat.{mod-mul-add}
use Rattle.dms_key.specs.KeyBytes.{bytes_cmp}

pub less_is : (a b : ℕ) → a < b → nat_cmp a b ≡ Less
less_is a b h = grind (arith, nat_tests, h)

pub equal_is : (a b : ℕ) → a ≡ b → nat_cmp a b ≡ Equal
equal_is a b h = grind (arith, nat_tests, h)

pub greater_is : (a b : ℕ) → b < a → nat_cmp a b ≡ Greater
greater_is a b h = grind (arith, nat_tests, h)

pub then_assoc : (o p r : Ordering) → ordering_then (ordering_then o p) r ≡ ordering_then o (ordering_then p r)
then_assoc Less p r = refl
then_assoc Equal p r = refl
then_assoc Greater p r = refl

-- of strings that begin with as many bytes, those come first
pub append_cmp : (x y xs ys : List ℕ) → length x ≡ length y → bytes_cmp (x ++ xs) (y ++ ys) ≡ ordering_then (bytes_cmp x y) (bytes_cmp xs ys)
append_cmp [] [] xs ys e = refl
append_cmp [] (b ∷ y) xs ys e = absurd (omega (arith, e))
append_cmp (a ∷ x) [] xs ys e = absurd (omega (arith, e))
append_cmp (a ∷ x) (b ∷ y) xs ys e = ap (ordering_then (nat_cmp a b)) (append_cmp x y xs ys (omega (arith, e))) ∙ sym (then_assoc (nat_cmp a b) (bytes_cmp x y) (bytes_cmp xs ys))

abbrev pub AreBytes : List ℕ → Type 0
AreBytes [] = Unit {0}
AreBytes (b ∷ bs) = (b ≤ 255) × AreBytes bs

reverse_then : (o p : Ordering) → ordering_reverse (ordering_then o p) ≡ ordering_then (ordering_reverse o) (ordering_reverse p)
reverse_then Less p = refl
reverse_then Equal p = refl
reverse_then Greater p = refl

complement_at : (o : Ordering) (a b : ℕ) → MatchOrdering o (a < b) (a ≡ b) (b < a) → a ≤ 255 → b ≤ 255 → nat_cmp (255 - a) (255 - b) ≡ ordering_reverse o
complement_at Less a b h p q = greater_is (255 - a) (255 - b) (omega (arith, h, p, q))
complement_at Equal a b h p q = equal_is (255 - a) (255 - b) (omega (arith, h, p, q))
complement_at Greater a b h p q = less_is (255 - a) (255 - b) (omega (arith, h, p, q))

-- complements stand the other way round
pub complement_cmp : (x y : List ℕ) → length x ≡ length y → AreBytes x → AreBytes y → bytes_cmp (map (λ b. 255 - b) x) (map (λ b. 255 - b) y) ≡ ordering_reverse (bytes_cmp x y)
complement_cmp [] [] e p q = refl
complement_cmp [] (b ∷ y) e p q = absurd (omega (arith, e))
complement_cmp (a ∷ x) [] e p q = absurd (omega (arith, e))
complement_cmp (a ∷ x) (b ∷ y) e p q =
    let here = complement_at (nat_cmp a b) a b (ranked a b (nat_cmp a b) refl) p.0 q.0 in
    let rest = complement_cmp x y (omega (arith, e)) p.1 q.1 in
    (λ i. ordering_then (here i) (rest i)) ∙ sym (reverse_then (nat_cmp a b) (bytes_cmp x y))

-- numbers by their digits

moved_at : (o : Ordering) (c a b : ℕ) → MatchOrdering o (a < b) (a ≡ b) (b < a) → nat_cmp (c + a) (c + b) ≡ o
moved_at Less c a b is = less_is (c + a) (c + b) (omega (arith, is))
moved_at Equal c a b is = equal_is (c + a) (c + b) (omega (arith, is))
moved_at Greater c a b is = greater_is (c + a) (c + b) (omega (arith, is))

pub moved_cmp : (c a b : ℕ) → nat_cmp (c + a) (c + b) ≡ nat_cmp a b
moved_cmp c a b = moved_at (nat_cmp a b) c a b (ranked a b (nat_cmp a b) refl)

digits_at : (o : Ordering) (p h l k m : ℕ) → MatchOrdering o (h < k) (h ≡ k) (k < h) → l < p → m < p → ordering_then o (nat_cmp l m) ≡ nat_cmp (h * p + l) (k * p + m)
digits_at Less p h l k m is s t =
    let more : suc h * p ≤ k * p = nat.mul-le-mul_right p is in
    sym (less_is (h * p + l) (k * p + m) (omega (arith, more, s, nat.suc-mul h p)))
digits_at Equal p h l k m is s t = sym (moved_cmp (h * p) l m) ∙ ap (λ x. nat_cmp (h * p + l) (x * p + m)) is
digits_at Greater p h l k m is s t =
    let more : suc k * p ≤ h * p = nat.mul-le-mul_right p is in
    sym (greater_is (h * p + l) (k * p + m) (omega (arith, more, t, nat.suc-mul k p)))

pow_some : (k : ℕ) → 0 < 256 ^ k
pow_some zero = omega arith
pow_some (suc k) = omega (arith, nat.pow-suc 256 k, pow_some k)

parts_again : (n p d r q e : ℕ) → n ≡ d * p + r → d ≡ q * 256 + e → n ≡ q * (p * 256) + (e * p + r)
parts_again n p d r q e h k = h ∙ ap (λ x. x * p + r) k ∙ omega arith

mod_split : (n p : ℕ) → 0 < p → n % (p * 256) ≡ n / p % 256 * p + n % p
mod_split n p some =
    let d = n / p in
    let whole : n ≡ d * p + n % p = sym (nat.div-add-mod' n p) in
    let digit : d ≡ d / 256 * 256 + d % 256 = omega arith in
    let low : n % p < p = nat.mod-lt n some in
    let high : d % 256 * p ≤ 255 * p = nat.mul-le-mul_right p (omega arith) in
    ap (λ x. x % (p * 256)) (parts_again n p d (n % p) (d / 256) (d % 256) whole digit)
    ∙ mod-mul-add (d / 256) (p * 256) (d % 256 * p + n % p) (omega (arith, high, low))

-- a number by its highest byte of so many and the rest
split_bytes : (k n : ℕ) → n % 256 ^ suc k ≡ byte_at k n * 256 ^ k + n % 256 ^ k
split_bytes zero n = omega arith
split_bytes (suc k) n = ap (λ x. n % x) (nat.pow-suc 256 (suc k)) ∙ mod_split n (256 ^ suc k) (pow_some (suc k))

-- the order of numbers is that of their bytes, the highest first
pub high_first_cmp : (k a b : ℕ) → bytes_cmp (bytes_high_first k a) (bytes_high_first k b) ≡ nat_cmp (a % 256 ^ k) (b % 256 ^ k)
high_first_cmp zero a b = sym (equal_is (a % 1) (b % 1) (omega arith))
high_first_cmp (suc k) a b =
    ap (ordering_then (nat_cmp (byte_at k a) (byte_at k b))) (high_first_cmp k a b)
    ∙ digits_at (nat_cmp (byte_at k a) (byte_at k b)) (256 ^ k) (byte_at k a) (a % 256 ^ k) (byte_at k b) (b % 256 ^ k) (ranked (byte_at k a) (byte_at k b) (nat_cmp (byte_at k a) (byte_at k b)) refl) (nat.mod-lt a (pow_some k)) (nat.mod-lt b (pow_some k))
    ∙ (λ i. nat_cmp (sym (split_bytes k a) i) (sym (split_bytes k b) i))

pub high_first_length : (k n : ℕ) → length (bytes_high_first k n) ≡ k
high_first_length zero n = refl
high_first_length (suc k) n = ap suc (high_first_length k n)

pub byte_small : (k n : ℕ) → byte_at k n ≤ 255
byte_small zero n = omega arith
byte_small (suc k) n = omega arith

pub high_first_bytes : (k n : ℕ) → AreBytes (bytes_high_first k n)
high_first_bytes zero n = tt
high_first_bytes (suc k) n = (byte_small k n, high_first_bytes k n)
