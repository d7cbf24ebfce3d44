-- One level of a tree, and the one under it.
use Rattle.std.specs.Prelude.{ℕ, ◌≡◌, ◌≤◌, Bool, false, List, [], ◌∷◌, length, Some, None, if◌then◌else◌, is_some, slice_get}
use Rattle.std.specs.declared.option.Option.{Option}
use Rattle.dms_shapes.specs.declared.level.Level.{Level}
use Rattle.dms_tree.specs.Levels.{Inner, kids_of, lace, seps_of}
use Rattle.dms_tree.specs.TreeBlocks.{inner_half, inner_in}
use Rattle.dms_tree.specs.TreeIn.{is_half, level_step, says}

-- what an inner block says, where it is the root or at least half full
abbrev pub full_inner : ℕ → ℕ → ℕ → Option (List ℕ × List (List ℕ)) → Option (List ℕ × List (List ℕ))
full_inner width root n None = None
full_inner width root n (Some x) = if is_half root (inner_half width) n (length x.1) then Some x else None

-- the inner blocks at these numbers, where each is the root or at least half full
abbrev pub full_level : ℕ → ℕ → (ℕ → Option (List ℕ)) → List ℕ → Option (List Inner)
full_level width root look [] = Some []
full_level width root look (n ∷ ns) = level_step n (full_inner width root n (says (inner_in width) (look n))) (full_level width root look ns)

-- an inner block stands at the first of these numbers
abbrev pub is_inner_level : ℕ → (ℕ → Option (List ℕ)) → List ℕ → Bool
is_inner_level width look [] = false
is_inner_level width look (n ∷ ns) = is_some (says (inner_in width) (look n))

-- the separator at a place, where there is one
abbrev pub bar_of : Option (List ℕ) → List (List ℕ)
bar_of None = []
bar_of (Some f) = f ∷ []

abbrev pub bar_at : List (List ℕ) → ℕ → List (List ℕ)
bar_at fs place = bar_of (slice_get fs place)

-- the children of the level at these numbers, and the separators between them
pub record HasLevel (width root : ℕ) (look : ℕ → Option (List ℕ)) (ns : List ℕ) (fs : List (List ℕ)) (kids : List ℕ) (fences : List (List ℕ)) : Type 0 where
  pub level : List Inner
  pub is : full_level width root look ns ≡ Some level
  pub kids_are : kids_of level ≡ kids
  pub fences_are : lace (seps_of level) fs ≡ fences

-- no such level has so few children
abbrev pub LevelAnswer : ℕ → ℕ → (ℕ → Option (List ℕ)) → List ℕ → List (List ℕ) → ℕ → Option Level → Type 0
LevelAnswer width root look ns fs room None = (u : List Inner) → full_level width root look ns ≡ Some u → length (kids_of u) ≤ room → ⊥
LevelAnswer width root look ns fs room (Some l) = HasLevel width root look ns fs l.numbers.items l.fences.items
