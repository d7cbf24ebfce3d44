-- The blocks above two neighbours aren't these: what was read of them stays.
use Rattle.std.proofs.Common.{◌≡◌, ℕ, zero, suc, ◌+◌, ◌≤◌, ◌<◌, List, [], ◌∷◌, ◌++◌, refl, sym, ap, subst, ◌∙◌, length, slice_get, get_or, append_assoc, arith}
use Rattle.dms_chain.specs.Linked.{numbers, times}
use Rattle.dms_chain.specs.LinkedLaws.{numbers_times, times_append, times_own}
use Rattle.dms_tree.specs.declared.removing.Joint.{Joint}
use Rattle.dms_tree.specs.LaceLaws.{kids_append}
use Rattle.dms_tree.specs.Levels.{Hangs, Inner, inner_numbers, kids_of}
use Rattle.dms_tree.specs.Mends.{IsJointUp}
use Rattle.dms_tree.specs.OpenTree.{tree_times}
use Rattle.dms_tree.specs.Paths.{IsPath, LastStep, Step, hangs_pair, path_last}
use Rattle.dms_tree.specs.Steps.{numbers_in}

pub upper_off : (count : ℕ) (bs : List (List ℕ)) (j : Joint) (xs : List (List ℕ)) (up : IsJointUp count bs j xs) (k : ℕ) → 0 < times k (inner_numbers up.pair.over) → (k ≡ j.first → ⊥) × (k ≡ j.second → ⊥)
upper_off count bs j xs up k some =
    let p = up.pair in
    let level : List Inner = p.ahead ++ (j.first, (up.low, up.a)) ∷ (j.second, (up.high, up.b)) ∷ p.rest in
    let once : times k (inner_numbers p.over) + times k (j.first ∷ []) + times k (j.second ∷ []) ≤ 1 =
    omega (
      arith,
      p.opened.once k,
      tree_times k (p.over ++ level ∷ p.lower) p.leaves p.spares,
      ap (times k) (numbers_in p.over (level ∷ p.lower)),
      times_append k (inner_numbers p.over) (numbers level ++ inner_numbers p.lower),
      times_append k (numbers level) (inner_numbers p.lower),
      numbers_times k p.ahead ((j.first, (up.low, up.a)) ∷ (j.second, (up.high, up.b)) ∷ p.rest),
    ) in
    (λ e. absurd (omega (arith, once, some, times_own k, ap (λ n. times k (n ∷ [])) e)), λ e. absurd (omega (arith, once, some, times_own k, ap (λ n. times k (n ∷ [])) e)))

pub kid_in : (kids : List ℕ) (j : ℕ) → j < length kids → 0 < times (get_or kids j 0) kids
kid_in [] j low = absurd (omega (arith, low))
kid_in (n ∷ kids) zero low = omega (arith, times_own n)
kid_in (n ∷ kids) (suc j) low = omega (arith, kid_in kids j (omega (arith, low)))
