-- The tree under a root, as a walk finds it from level to level.
use Rattle.std.specs.Prelude.{ℕ, ◌≡◌, ◌<◌, ◌≤◌, Bool, true, List, [], ◌∷◌, ◌++◌, length, Some, None}
use Rattle.std.specs.declared.option.Option.{Option}
use Rattle.dms_chain.specs.Lists.{AreInByteOrder}
use Rattle.dms_chain.specs.Linked.{BlockChain, numbers}
use Rattle.dms_chain.specs.ListBlocks.{leaf_in}
use Rattle.dms_chain.specs.ListIn.{Leaf}
use Rattle.dms_shapes.specs.declared.descent.Bottom.{Bottom}
use Rattle.dms_shapes.specs.Marks.{Marked}
use Rattle.dms_shapes.specs.Walks.{AreFresh}
use Rattle.dms_tree.specs.Levels.{Hangs, Inner, fences, inner_numbers, top_numbers, weave}
use Rattle.dms_tree.specs.TreeIn.{SayLevels, all_half, half_level}

-- Levels and leaves hang from a root, in order, and each block but the root is at least half full.
pub record IsGrown (width : ℕ) (look : ℕ → Option (List ℕ)) (root : ℕ) (us : List (List Inner)) (ls : List Leaf) : Type 0 where
  pub inner : SayLevels width look us
  pub chain : BlockChain (leaf_in width) look ls 0
  pub hangs : Hangs (top_numbers root) us (numbers ls)
  pub some : 0 < length us → 0 < length (top_numbers root)
  pub rises : AreInByteOrder (weave us ls)
  pub half : all_half width root us ls ≡ true

-- the numbers of their blocks
abbrev pub grown_numbers : List (List Inner) → List Leaf → List ℕ
grown_numbers us ls = inner_numbers us ++ numbers ls

-- The tree under a root has so many blocks, all fresh ones.
pub record HasTree (width : ℕ) (look : ℕ → Option (List ℕ)) (root : ℕ) (old seen : List Bool) (met : ℕ) : Type 0 where
  pub inner : List (List Inner)
  pub leaves : List Leaf
  pub grown : IsGrown width look root inner leaves
  pub marked : Marked old seen (grown_numbers inner leaves)
  pub size : length (grown_numbers inner leaves) ≡ met

-- there is no such tree
abbrev pub NoTree : ℕ → (ℕ → Option (List ℕ)) → ℕ → List Bool → Type 0
NoTree width look root old = (us : List (List Inner)) (ls : List Leaf) → IsGrown width look root us ls → AreFresh old (grown_numbers us ls) → length (grown_numbers us ls) ≤ length old → ⊥

abbrev pub TreeAnswer : ℕ → (ℕ → Option (List ℕ)) → ℕ → List Bool → List Bool → Option ℕ → Type 0
TreeAnswer width look root old seen None = NoTree width look root old
TreeAnswer width look root old seen (Some met) = HasTree width look root old seen met

-- each level but the leaves is half full
abbrev pub AreHalf : ℕ → ℕ → List (List Inner) → Type 0
AreHalf width root [] = Unit {0}
AreHalf width root (u ∷ us) = (half_level width root u ≡ true) × AreHalf width root us

-- Down from the root lead levels of inner blocks to these numbers, where no inner block stands first; no tree has other levels.
pub record HasBottom (width : ℕ) (look : ℕ → Option (List ℕ)) (root : ℕ) (old seen : List Bool) (met : ℕ) (ns : List ℕ) (fs : List (List ℕ)) : Type 0 where
  pub inner : List (List Inner)
  pub said : SayLevels width look inner
  pub hangs : Hangs (top_numbers root) inner ns
  pub full : AreHalf width root inner
  pub fences_are : fences [] inner ≡ fs
  pub marked : Marked old seen (inner_numbers inner ++ ns)
  pub size : length (inner_numbers inner ++ ns) ≡ met
  pub only : (us : List (List Inner)) (ls : List Leaf) → IsGrown width look root us ls → (us ≡ inner) × (numbers ls ≡ ns)

abbrev pub BottomAnswer : ℕ → (ℕ → Option (List ℕ)) → ℕ → List Bool → List Bool → Option Bottom → Type 0
BottomAnswer width look root old seen None = NoTree width look root old
BottomAnswer width look root old seen (Some b) = HasBottom width look root old seen b.met b.level.numbers.items b.level.fences.items
