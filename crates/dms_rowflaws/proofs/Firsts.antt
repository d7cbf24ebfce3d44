-- A walk through the numbers of structures, and one through the blocks of a file.
use Rattle.std.proofs.Common.{◌≡◌, ◌+◌, ◌-◌, ◌<◌, ◌≤◌, ◌∙◌, ℕ, zero, suc, List, [], ◌∷◌, Bool, true, false, Some, None, cond, refl, sym, ap, length, drop, slice_get, arith}
use Rattle.std.specs.declared.option.Option.{Option}
use Rattle.std.proofs.lemmas.List.{drop_all}
use Rattle.dms_desc.specs.Shape.{Shape}
use Rattle.dms_desc.specs.Sorted.{or_else}
use Rattle.dms_rowflaws.specs.Blocks.{first_unformed, is_formed}
use Rattle.dms_rowflaws.specs.Numbers.{first_from}

-- ---- numbers of structures

module _ {A : Type 0} (find : ℕ → Option A) (n : ℕ) (r : Option A) where
  left_more : n < 201 → 201 - n ≡ suc (201 - (n + 1))
  left_more low = omega arith

  seen_by : n < 201 → first_from find (201 - n) n ≡ r → or_else (find n) (first_from find (201 - (n + 1)) (n + 1)) ≡ r
  seen_by low so_far = ap (λ k. first_from find k n) (sym (left_more low)) ∙ so_far

  -- nothing is found at this one
  pub number_passed : n < 201 → find n ≡ None → first_from find (201 - n) n ≡ r → first_from find (201 - (n + 1)) (n + 1) ≡ r
  number_passed low none so_far = ap (λ (o : Option A). or_else o (first_from find (201 - (n + 1)) (n + 1))) (sym none) ∙ seen_by low so_far

  pub number_found : n < 201 → (x : A) → find n ≡ Some x → first_from find (201 - n) n ≡ r → Some x ≡ r
  number_found low x found so_far = ap (λ (o : Option A). or_else o (first_from find (201 - (n + 1)) (n + 1))) (sym found) ∙ seen_by low so_far

  pub numbers_passed : 201 ≤ n → first_from find (201 - n) n ≡ r → None ≡ r
  numbers_passed past so_far = ap (λ k. first_from find k n) (let none : 0 ≡ 201 - n = omega (arith, past) in none) ∙ so_far

-- ---- blocks of a file

-- what stands at a number
pub at_number : (bs : List (List ℕ)) (n : ℕ) → n < length bs → (b : List ℕ) × (slice_get bs n ≡ Some b)
at_number [] n low = absurd (omega (arith, low))
at_number (b ∷ bs) zero low = (b, refl)
at_number (b ∷ bs) (suc n) low = at_number bs n (omega (arith, low))

opened : (bs : List (List ℕ)) (n : ℕ) (b : List ℕ) → slice_get bs n ≡ Some b → drop n bs ≡ b ∷ drop (suc n) bs
opened [] n b at = absurd (cc (at))
opened (x ∷ bs) zero b at = ap (λ (o : Option (List ℕ)). (held x o) ∷ bs) at where
  held : List ℕ → Option (List ℕ) → List ℕ
  held d None = d
  held d (Some y) = y
opened (x ∷ bs) (suc n) b at = opened bs n b at

plus_one : (n : ℕ) → suc n ≡ n + 1
plus_one n = omega arith

module _ (s : Shape) (width n : ℕ) (bs : List (List ℕ)) (b : List ℕ) (r : Option ℕ) (at : slice_get bs n ≡ Some b) (so_far : first_unformed s width n (drop n bs) ≡ r) where
  block_seen : cond (is_formed s width n b) (first_unformed s width (suc n) (drop (suc n) bs)) (Some n) ≡ r
  block_seen = ap (first_unformed s width n) (sym (opened bs n b at)) ∙ so_far

  pub block_passed : is_formed s width n b ≡ true → first_unformed s width (n + 1) (drop (n + 1) bs) ≡ r
  block_passed good =
      ap (λ k. first_unformed s width k (drop k bs)) (sym (plus_one n))
      ∙ sym (ap (λ (t : Bool). cond t (first_unformed s width (suc n) (drop (suc n) bs)) (Some n)) good) ∙ block_seen

  pub block_found : is_formed s width n b ≡ false → Some n ≡ r
  block_found bad = sym (ap (λ (t : Bool). cond t (first_unformed s width (suc n) (drop (suc n) bs)) (Some n)) bad) ∙ block_seen

pub blocks_passed : (s : Shape) (width n : ℕ) (bs : List (List ℕ)) (r : Option ℕ) → length bs ≤ n → first_unformed s width n (drop n bs) ≡ r → None ≡ r
blocks_passed s width n bs r past so_far = ap (first_unformed s width n) (sym (drop_all n bs past)) ∙ so_far
