-- A leaf that has an entry too many, before blocks are taken for it.
use Rattle.std.proofs.Common.{◌≡◌, ◌≢◌, ℕ, ◌+◌, ◌*◌, ◌≤◌, ◌<◌, IsTrue, List, Some, refl, sym, ap, subst, ◌∙◌, length, slice_get, arith}
use Rattle.dms_block.specs.declared.blocks.Blocks.{Ghosts}
use Rattle.dms_block.specs.declared.overlay.Overlay.{Overlay}
use Rattle.dms_block.specs.View.{overlay_content, seen_counts, under}
use Rattle.dms_chain.specs.Lists.{AreInByteOrder}
use Rattle.dms_chain.specs.Seen.{IsListWidth, look}
use Rattle.dms_chain.specs.SpellLaws.{AllWide}
use Rattle.dms_tree.specs.declared.raising.PathStep.{PathStep}
use Rattle.dms_tree.specs.Finishing.{IsLeafUp, LeafHolds}
use Rattle.dms_tree.specs.LeafCuts.{AreTaken}
use Rattle.dms_tree.specs.Ups.{ArePassed, Follow, end_after, needs}

pub record LeafReady (count width : ℕ) (path : List PathStep) (number : ℕ) (es : List (List ℕ)) : Type 0 where
  pub wide_is : IsListWidth width
  pub near : number < count
  pub wide : AllWide width es
  pub rising : AreInByteOrder es
  pub many : 1017 < length es * width
  pub almost : length es * width ≤ 1017 + width
  pub passed : ArePassed width count path

pub ready_holds : (count width : ℕ) (fresh : List ℕ) (path : List PathStep) (number : ℕ) (es : List (List ℕ)) → LeafReady count width path number es → Follow count fresh → length fresh ≡ needs width path → LeafHolds count width fresh path number es
ready_holds count width fresh path number es r follows size = record { wide_is = r.wide_is; near = r.near; follows = follows; wide = r.wide; rising = r.rising; many = r.many; almost = r.almost; passed = r.passed; needs_is = size }

module _ {B : Type 0} {g : Ghosts B} where
  -- whichever blocks are taken, so many at most: where none of them is past these, none of the file's is
  abbrev pub WithinTaken : Overlay B g → Overlay B g → (file free most : ℕ) → Type 0
  WithinTaken a b file free most = IsTrue (under a).told → (n : ℕ)
      → ((fresh : List ℕ) (first end : ℕ) → length fresh ≤ most → AreTaken (look a file) (seen_counts a file) free fresh first end → end ≤ n) → seen_counts b file ≤ n

  -- whichever blocks are taken, the leaf stands in a tree that spells these entries
  abbrev pub IfTaken : Overlay B g → (file width root free : ℕ) → List PathStep → (number next : ℕ) → List (List ℕ) → List (List ℕ) → Type 0
  IfTaken o file width root free path number next es xs = (fresh : List ℕ) (first : ℕ) → AreTaken (look o file) (seen_counts o file) free fresh first (end_after (seen_counts o file) fresh)
      → IsLeafUp width (end_after (seen_counts o file) fresh) first (overlay_content o file) root path number next es fresh xs
