-- Reading the neighbours of the blocks that a path leads to.
use Rattle.std.proofs.Common.{◌≡◌, ℕ, zero, suc, ◌+◌, ◌≤◌, ◌<◌, IsTrue, List, [], ◌∷◌, ◌++◌, Some, None, refl, sym, ap, subst, ◌∙◌, length, take, slice_get, get_or, arith}
use Rattle.std.specs.declared.option.Option.{Option}
use Rattle.dms_block.specs.declared.blocks.Blocks.{Ghosts}
use Rattle.dms_block.specs.declared.overlay.Overlay.{Overlay}
use Rattle.dms_block.specs.View.{seen_counts, under}
use Rattle.dms_chain.specs.Linked.{said_by}
use Rattle.dms_chain.specs.ListBlocks.{leaf_in}
use Rattle.dms_chain.specs.Seen.{look}
use Rattle.dms_tree.specs.declared.raising.PathStep.{PathStep}
use Rattle.dms_tree.specs.TreeBlocks.{inner_in}
use Rattle.dms_tree.specs.TreeIn.{says}
use Rattle.dms_tree.specs.TreeSpells.{inner_no_leaf}
use Rattle.dms_tree.specs.Mates.{mate_place}
use Rattle.dms_tree.specs.UpMates.{HaveMates}

module _ {B : Type 0} {g : Ghosts B} where
  -- a block of the file, where no inner block stands at a number
  abbrev pub NoInnerAt : ℕ → Overlay B g → ℕ → ℕ → ℕ → ℕ → Type 0
  NoInnerAt width o file at f b = (f ≡ file) × (b < seen_counts o file) × (IsTrue (under o).told → says (inner_in width) (look o file at) ≡ None)

  -- a block of the file, where a block that a path leads to has no neighbour
  abbrev pub NoMates : ℕ → Overlay B g → ℕ → List PathStep → ℕ → ℕ → Type 0
  NoMates width o file path f b = (f ≡ file) × (b < seen_counts o file) × (IsTrue (under o).told → HaveMates width (look o file) path → ⊥)

-- a leaf is no inner block
pub leaf_no_inner : (width : ℕ) (o : Option (List ℕ)) (y : ℕ × List (List ℕ)) → said_by (leaf_in width) o ≡ Some y → says (inner_in width) o ≡ None
leaf_no_inner width None y said = refl
leaf_no_inner width (Some b) y said = by (inner_in width b) refl
  where
    some_none : (o : Option (ℕ × List (List ℕ))) (y : ℕ × List (List ℕ)) → o ≡ Some y → o ≡ None → ⊥
    some_none None y a b = cc a
    some_none (Some z) y a b = cc b

    by : (o : Option (List ℕ × List (List ℕ))) → inner_in width b ≡ o → inner_in width b ≡ None
    by None is = is
    by (Some x) is = absurd (some_none (leaf_in width b) y said (inner_no_leaf width b x is))

take_by : (ps : List PathStep) (i : ℕ) (p : PathStep) → i < length ps → p ≡ get_or ps i p → take (suc i) ps ≡ take i ps ++ p ∷ []
take_by [] i p low at = absurd (omega (arith, low))
take_by (q ∷ ps) zero p low at = ap (λ (x : PathStep). x ∷ []) (sym at)
take_by (q ∷ ps) (suc i) p low at = ap (λ (l : List PathStep). q ∷ l) (take_by ps i p (omega (arith, low)) at)

pub take_next : (ps : List PathStep) (i : ℕ) (p : PathStep) → i < length ps → p ≡ get_or ps i p → take (i + 1) ps ≡ take i ps ++ p ∷ []
take_next ps i p low at = ap (λ n. take n ps) (let e : i + 1 ≡ suc i = omega arith in e) ∙ take_by ps i p low at

pub take_all : (ps : List PathStep) (i : ℕ) → length ps ≤ i → take i ps ≡ ps
take_all [] zero past = refl
take_all [] (suc i) past = refl
take_all (p ∷ ps) zero past = absurd (omega (arith, past))
take_all (p ∷ ps) (suc i) past = ap (λ (l : List PathStep). p ∷ l) (take_all ps i (omega (arith, past)))

get_any : (kids : List ℕ) (j v : ℕ) → j < length kids → get_or kids j v ≡ get_or kids j 0
get_any [] j v low = absurd (omega (arith, low))
get_any (n ∷ kids) zero v low = refl
get_any (n ∷ kids) (suc j) v low = get_any kids j v (omega (arith, low))

-- the number of the neighbour, as it is read
pub mate_behind : (kids : List ℕ) (taken v : ℕ) → taken ≡ 0 → 1 < length kids → v ≡ get_or kids 1 v → v ≡ get_or kids (mate_place taken) 0
mate_behind kids taken v none low is = is ∙ get_any kids 1 v low ∙ ap (λ n. get_or kids (mate_place n) 0) (sym none)

pub mate_before : (kids : List ℕ) (taken k v : ℕ) → suc k ≡ taken → k < length kids → v ≡ get_or kids k v → v ≡ get_or kids (mate_place taken) 0
mate_before kids taken k v more low is = is ∙ get_any kids k v low ∙ ap (λ n. get_or kids (mate_place n) 0) more
