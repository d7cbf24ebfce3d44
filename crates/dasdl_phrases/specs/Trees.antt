-- Conditions as trees.
use Rattle.std.specs.Prelude.{ℕ, refl}
use Rattle.std.specs.Coded.{Coded, code_by, coded×, coded_ℕ}
use Rattle.dasdl_phrases.specs.declared.conditions.CondTree.{CondTree, Compare, And', Or', Not'}
use Rattle.dasdl_phrases.specs.TreeCodes.{WrittenTree, tree_code}
use Rattle.dasdl_phrases.specs.TreeCodes.WrittenTree.{Test, Both, Either, Turned}

-- a condition without the places of its parts in memory
abbrev pub tree_of : CondTree → WrittenTree
tree_of (Compare name op literal) = Test name op literal
tree_of (And' p a q b) = Both (tree_of a) (tree_of b)
tree_of (Or' p a q b) = Either (tree_of a) (tree_of b)
tree_of (Not' p a) = Turned (tree_of a)

-- a condition, and the place of its word
pub record Condition : Type 0 where
  pub place : ℕ
  pub tree : WrittenTree

abbrev pub condition_code : Coded Condition
condition_code = code_by (ℕ × WrittenTree) (coded× coded_ℕ tree_code) (λ c. (c.place, c.tree)) (λ p. record { place = p.0; tree = p.1 }) (λ _. refl)
