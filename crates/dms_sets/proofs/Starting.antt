-- Std's word for a prefix is that of the laws.
use Rattle.std.proofs.Common.{◌≡◌, ℕ, List, [], ◌∷◌, eqb, arith, refl, sym, ◌∙◌}
use Rattle.std.specs.Prelude.{◌&&◌}
use Rattle.std.specs.List as list
use Rattle.std.specs.Ordering.{is_eq, nat_cmp}
use Rattle.std.specs.declared.cmp.Ordering.{Ordering}
use Rattle.std.specs.declared.cmp.Ordering.TheVariants.{Less, Equal, Greater}
use Rattle.std.proofs.lemmas.Bool.Decides.{nat_tests}
use Rattle.dms_sets.specs.Prefixes.{starts, front_cmp}
use Rattle.dms_sets.specs.Clashes.{eq_of_then}

eq_at : (o : Ordering) (a b : ℕ) → nat_cmp a b ≡ o → eqb a b ≡ is_eq o
eq_at Less a b h = grind (arith, nat_tests, h)
eq_at Equal a b h = grind (arith, nat_tests, h)
eq_at Greater a b h = grind (arith, nat_tests, h)

pub starts_is : (q p : List ℕ) → list.starts_with eqb q p ≡ starts p q
starts_is q [] = refl
starts_is [] (a ∷ p) = refl
starts_is (b ∷ q) (a ∷ p) = (λ i. eq_at (nat_cmp a b) a b refl i && starts_is q p i) ∙ sym (eq_of_then (nat_cmp a b) (front_cmp p q))
