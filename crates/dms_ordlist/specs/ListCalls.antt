-- What calls that change a file's list say of its blocks.
use Rattle.std.specs.Prelude.{ℕ, ◌≡◌, ◌/◌, IsTrue, List, [], Some, length, take, drop}
use Rattle.dms_block.specs.declared.blocks.Blocks.{Ghosts}
use Rattle.dms_block.specs.declared.overlay.Overlay.{Overlay}
use Rattle.dms_block.specs.Content.{Content, put_block, with_block}
use Rattle.dms_block.specs.View.{overlay_content, under}
use Rattle.dms_chain.specs.Linked.{front}
use Rattle.dms_chain.specs.ListBlocks.{head_bytes, leaf_bytes}
use Rattle.dms_chain.specs.ListIn.{Leaf, Spare, list_in}
use Rattle.dms_chain.specs.Written.{GrownBy}
use Rattle.dms_ordlist.specs.ListWrites.{Taken}
use Rattle.dms_ordlist.specs.Looks.{ListOr}

-- of all counts of blocks only that of one file rises, by two at most
abbrev pub CountGrown : ℕ → (ℕ → ℕ) → (ℕ → ℕ) → Type 0
CountGrown file a b = GrownBy 2 file a b

-- a content in which the list of a file has this head
abbrev pub with_head : ℕ → ℕ → ℕ → Content → Content
with_head file first free c = with_block c file 0 (head_bytes first free)

-- the blocks of a file with another head of its list
abbrev pub laid_head : ℕ → ℕ → List (List ℕ) → List (List ℕ)
laid_head first free bs = put_block 0 (head_bytes first free) bs

-- blocks in which entries stand half in their block and half in a fresh one behind it
abbrev pub with_halves : (number fresh next : ℕ) → List (List ℕ) → List (List ℕ) → List (List ℕ)
with_halves number fresh next es bs = put_block number (leaf_bytes fresh (take (length es / 2) es)) (put_block fresh (leaf_bytes next (drop (length es / 2) es)) bs)

module _ {B : Type 0} {g : Ghosts B} where
  -- a block is taken from a file's list whose first free one is this, and another becomes the first free one
  abbrev pub TakesBlock : ℕ → ℕ → Overlay B g → ℕ → ℕ → Type 0
  TakesBlock file free o taken next = IsTrue (under o).told → (w : ℕ) (ls : List Leaf) (fs : List Spare) → ListOr w (overlay_content o file) ls fs → free ≡ front fs 0 → Taken w (overlay_content o file) (front ls 0) ls taken next

  -- it holds where a file has an empty list whose first free block is this, and its content is told
  abbrev pub IfEmpty : ℕ → ℕ → ℕ → Overlay B g → Type 0 → Type 0
  IfEmpty file width free o P = IsTrue (under o).told → (fs : List Spare) → ListOr width (overlay_content o file) [] fs → free ≡ front fs 0 → P

  -- a file's list becomes another
  abbrev pub BecomesList : ℕ → ℕ → Overlay B g → Overlay B g → List (List ℕ) → List (List ℕ) → Type 0
  BecomesList file width a b xs ys = list_in width (overlay_content a file) ≡ Some xs → list_in width (overlay_content b file) ≡ Some ys
