-- The entries of a list, one by one.
use Rattle.std.specs.Prelude.{ℕ, ◌≡◌, ◌≤◌, List, [], ◌∷◌, ◌++◌, length, drop, Some, None, slice_get}
use Rattle.std.specs.declared.option.Option.{Option}
use Rattle.dms_block.specs.Content.{Content}
use Rattle.dms_chain.specs.Linked.{BlockChain, front, numbers, said_by}
use Rattle.dms_chain.specs.ListBlocks.{leaf_in}
use Rattle.dms_chain.specs.ListIn.{Leaf, entries_of, list_in}
use Rattle.dms_lists.specs.Forms.{kept_in}
use Rattle.dms_lists.specs.declared.form.ListForm.{ListForm}
use Rattle.dms_shapes.specs.Marks.{AreBelow}
use Rattle.dms_shapes.specs.declared.walk.ListWalk.{ListWalk}
use Rattle.dms_tree.specs.TreeBlocks.{root_in}
use Rattle.dms_tree.specs.TreeIn.{tree_in}

-- A chain of blocks of entries begins at a number, and has these entries.
pub record IsAhead (width : ℕ) (bs : List (List ℕ)) (at : ℕ) (xs : List (List ℕ)) : Type 0 where
  pub leaves : List Leaf
  pub chain : BlockChain (leaf_in width) (slice_get bs) leaves 0
  pub begins : front leaves 0 ≡ at
  pub low : AreBelow (length bs) (numbers leaves)
  pub entries : entries_of leaves ≡ xs

-- a list in one chain, if the blocks are one, begins at a number, whatever the width of its entries
abbrev pub ListBegins : List (List ℕ) → ℕ → Type 0
ListBegins bs n = (width : ℕ) (xs : List (List ℕ)) → list_in width bs ≡ Some xs → IsAhead width bs n xs

-- a tree, if the blocks are one, has its first leaf at a number
abbrev pub TreeBegins : ℕ → List (List ℕ) → ℕ → Type 0
TreeBegins width bs n = (xs : List (List ℕ)) → tree_in width bs ≡ Some xs → IsAhead width bs n xs

-- the same of one whose head names this root
abbrev pub RootBegins : ℕ → List (List ℕ) → ℕ → ℕ → Type 0
RootBegins width bs root n = (free : ℕ) → said_by root_in (slice_get bs 0) ≡ Some (root, free) → TreeBegins width bs n

-- a list in its form, if the blocks are one, begins at a number
abbrev pub KeptBegins : ListForm → ℕ → List (List ℕ) → ℕ → Type 0
KeptBegins form width bs n = (xs : List (List ℕ)) → kept_in form width bs ≡ Some xs → IsAhead width bs n xs

-- These entries are to come: those left of the block that was read last, and those of the blocks behind it.
pub record IsLeft (c : Content) (w : ListWalk) (left : List (List ℕ)) : Type 0 where
  pub behind : List (List ℕ)
  pub ahead : IsAhead w.width (c w.file) w.at behind
  pub is : drop w.place w.entries.items ++ behind ≡ left

-- all entries of a file's list are to come, if its blocks are one
abbrev pub Begins : ListForm → ℕ → Content → ℕ → ListWalk → Type 0
Begins form width c file w = (xs : List (List ℕ)) → kept_in form width (c file) ≡ Some xs → IsLeft c w xs

-- the first of them stands in the block that was read last, if there is one
pub record IsFilled (c : Content) (w : ListWalk) (left : List (List ℕ)) : Type 0 where
  pub still : IsLeft c w left
  pub none : length w.entries.items ≤ w.place → left ≡ []

-- one of them was taken, and the others are to come
pub record IsTaken (c : Content) (w : ListWalk) (left : List (List ℕ)) (x : List ℕ) : Type 0 where
  pub rest : List (List ℕ)
  pub is : left ≡ x ∷ rest
  pub others : IsLeft c w rest

-- the next entry, and none where none is to come
abbrev pub Taken : Content → ListWalk → List (List ℕ) → Option (List ℕ) → Type 0
Taken c w left None = left ≡ []
Taken c w left (Some x) = IsTaken c w left x

-- a walk through the same list
pub record IsSameWalk (old new : ListWalk) : Type 0 where
  pub file : new.file ≡ old.file
  pub width : new.width ≡ old.width

-- what is to come stays, and is held
abbrev pub Fills : Content → ListWalk → ListWalk → Type 0
Fills c old new = (left : List (List ℕ)) → IsLeft c old left → IsFilled c new left

-- the next entry of what is to come
abbrev pub Takes : Content → ListWalk → ListWalk → Option (List ℕ) → Type 0
Takes c old new o = (left : List (List ℕ)) → IsLeft c old left → Taken c new left o

-- the same where it is held
abbrev pub TakesHeld : ListWalk → ListWalk → Option (List ℕ) → Type 0
TakesHeld old new o = (c : Content) (left : List (List ℕ)) → IsFilled c old left → Taken c new left o
