-- By half fill: how few levels there are, and so how few blocks one change writes.
use Rattle.std.proofs.Common.{◌≡◌, ℕ, zero, suc, ◌+◌, ◌*◌, ◌/◌, ◌^◌, ◌≤◌, ◌<◌, ◌⊎◌, inl, inr, List, [], ◌∷◌, ◌++◌, refl, sym, ap, ◌∙◌, length, length-append, arith}
use Rattle.std.specs.declared.option.Option.{Option}
use Rattle.std.proofs.Math.Nat as nat
use Rattle.dms_chain.specs.Linked.{numbers, times}
use Rattle.dms_chain.specs.LinkedLaws.{numbers_length, numbers_times, times_own}
use Rattle.dms_tree.specs.Levels.{Hangs, Inner, kids_of}
use Rattle.dms_tree.specs.OpenTree.{Placed, all_inner}
use Rattle.dms_tree.specs.Steps.{EachIn, EachOf, HasMore, each_first, each_second}
use Rattle.dms_tree.specs.TreeBlocks.{inner_half}

-- entries of at most 104 bytes: an inner block that is half full has four separators
pub four_at_least : (width : ℕ) → width ≤ 104 → 4 ≤ inner_half width
four_at_least width most =
    let nine : 9 ≤ 1017 / (width + 4) = (nat.le-div_iff_mul-le {k = width + 4} {x = 9} {y = 1017} (omega arith)).1 (omega (arith, most)) in
    omega (arith, nine)

abbrev pub HasFive : Inner → Type 0
HasFive u = 5 ≤ length u.1.0

kids_five : (us : List Inner) → EachOf HasFive us → 5 * length us ≤ length (kids_of us)
kids_five [] all = omega arith
kids_five (u ∷ us) all = omega (arith, length-append u.1.0 (kids_of us), kids_five us all.1, all.0)

pub more_times : (a b w : ℕ) → a ≤ b → a * w ≤ b * w
more_times a b w h = grind arith

power_more : (n : ℕ) → 5 ^ suc n ≡ 5 * 5 ^ n
power_more n = grind arith

five_times : (a m : ℕ) → 5 * a * m ≡ a * (5 * m)
five_times a m = grind arith

pub levels_five : (ns : List ℕ) (us : List (List Inner)) (leaves : List ℕ) → Hangs ns us leaves → EachIn HasFive us → length ns * 5 ^ length us ≤ length leaves
levels_five ns [] leaves hangs all = omega (arith, ap (λ (l : List ℕ). length l) hangs)
levels_five ns (u ∷ us) leaves hangs all =
    let below = levels_five (kids_of u) us leaves hangs.1 all.1 in
    let step : length u * (5 * 5 ^ length us) ≤ length (kids_of u) * 5 ^ length us = omega (arith, more_times (5 * length u) (length (kids_of u)) (5 ^ length us) (kids_five u all.0), five_times (length u) (5 ^ length us)) in
    let same : length ns * 5 ^ suc (length us) ≡ length u * (5 * 5 ^ length us) = (λ i. (sym (ap (λ (l : List ℕ). length l) hangs.0) ∙ numbers_length u) i * power_more (length us) i) in
    omega (arith, below, step, same)

-- the blocks under the root
module _ (width : ℕ) (look : ℕ → Option (List ℕ)) (root : ℕ) (low : width ≤ 104) where
  five_one : (u : Inner) → (u.0 ≡ root → ⊥) → HasMore u → Placed width look root [] u → HasFive u
  five_one u off more (inl is) = absurd (omega (arith, is))
  five_one u off more (inr h) = by_half h.1
    where
      by_half : (u.0 ≡ root) ⊎ (inner_half width ≤ length u.1.1) → HasFive u
      by_half (inl e) = absurd (off e)
      by_half (inr half) = omega (arith, half, four_at_least width low, more)

  five_level : (us : List Inner) → times root (numbers us) ≡ 0 → EachOf HasMore us → EachOf (Placed width look root []) us → EachOf HasFive us
  five_level [] none more placed = tt
  five_level (u ∷ us) none more placed =
      (five_one u (λ e. absurd (omega (arith, none, times_own root, ap (λ k. times root (k ∷ [])) e))) more.0 placed.0, five_level us (omega (arith, none)) more.1 placed.1)

  pub fives : (us : List (List Inner)) → times root (numbers (all_inner us)) ≡ 0 → EachOf HasMore (all_inner us) → EachOf (Placed width look root []) (all_inner us) → EachIn HasFive us
  fives [] none more placed = tt
  fives (u ∷ us) none more placed =
      let apart = numbers_times root u (all_inner us) in (
        five_level u (omega (arith, none, apart)) (each_first HasMore u (all_inner us) more) (each_first (Placed width look root []) u (all_inner us) placed),
        fives us (omega (arith, none, apart)) (each_second HasMore u (all_inner us) more) (each_second (Placed width look root []) u (all_inner us) placed),
      )
