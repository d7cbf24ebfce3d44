-- Whether blocks are too many, and none where none may be.
use Rattle.std.proofs.Common.{◌≡◌, ℕ, ◌<◌, ◌≤◌, List, [], ◌∷◌, Bool, true, false, Some, None, refl, sym, ap, length, arith}
use Rattle.std.specs.Prelude.{◌&&◌, ◌||◌, nat_le}
use Rattle.std.proofs.lemmas.Bool.Decides.{nat_tests}
use Rattle.dms_rowflaws.specs.Blocks.{first_of_any}

pub too_many : (n : ℕ) (b : Bool) → 1048576 < n → false ≡ (nat_le n 1048576 && b)
too_many n b more = let off : nat_le n 1048576 ≡ false = grind (arith, nat_tests, more) in sym (ap (λ t. t && b) off)

-- a data set has no other shape
pub rows_shaped : (n : ℕ) (d k : Bool) → n ≤ 1048576 → d ≡ true → true ≡ (nat_le n 1048576 && (d || k))
rows_shaped n d k few is = let on : nat_le n 1048576 ≡ true = grind (arith, nat_tests, few) in sym (λ i. on i && (is i || k))

pub list_shaped : (n : ℕ) (d k : Bool) → n ≤ 1048576 → d ≡ false → k ≡ (nat_le n 1048576 && (d || k))
list_shaped n d k few is = let on : nat_le n 1048576 ≡ true = grind (arith, nat_tests, few) in sym (λ i. on i && (is i || k))

pub none_unowned : (bs : List (List ℕ)) → length bs ≡ 0 → None ≡ first_of_any bs
none_unowned [] none = refl
none_unowned (b ∷ bs) none = absurd (omega (arith, none))

pub some_unowned : (bs : List (List ℕ)) → (length bs ≡ 0 → ⊥) → Some 0 ≡ first_of_any bs
some_unowned [] some = absurd (some refl)
some_unowned (b ∷ bs) some = refl
