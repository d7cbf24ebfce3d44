-- One turn of the way up of a remove.
use Rattle.std.proofs.Common.{◌≡◌, ◌≢◌, ℕ, zero, suc, ◌+◌, ◌*◌, ◌≤◌, ◌<◌, IsTrue, List, [], ◌∷◌, ◌++◌, Some, refl, sym, ap, subst, ◌∙◌, length, slice_get, get_or, arith}
use Rattle.std.specs.declared.option.Option.{Option}
use Rattle.dms_block.specs.declared.blocks.Blocks.{Ghosts}
use Rattle.dms_block.specs.declared.overlay.Overlay.{Overlay}
use Rattle.dms_block.specs.View.{overlay_content, seen_counts, under}
use Rattle.dms_chain.specs.Seen.{IsListWidth}
use Rattle.dms_chain.specs.SpellLaws.{AllWide}
use Rattle.dms_tree.specs.declared.node.InnerBlock.{InnerBlock}
use Rattle.dms_tree.specs.declared.raising.PathStep.{PathStep}
use Rattle.dms_tree.specs.declared.removing.Gap.{Gap}
use Rattle.dms_tree.specs.declared.removing.Joint.{Joint}
use Rattle.dms_tree.specs.Joins.{IsGap}
use Rattle.dms_tree.specs.Mates.{GapHolds, IsMated, less_by, low_place, mate_place, mated_up}
use Rattle.dms_tree.specs.Mends.{IsGapUp, IsJointUp, Mends}
use Rattle.dms_tree.specs.TreeBlocks.{inner_in}
use Rattle.dms_tree.specs.TreeIn.{says}
use Rattle.dms_tree.specs.UpMates.{SayMates, SaysMate, joint_mates, mate_of}
use Rattle.dms_tree.specs.Ups.{ArePassed, IsPassed, more_times, step_of, steps_of}

-- the block that isn't written yet stands below a block of the path
abbrev pub IsGapUnder : ℕ → List (List ℕ) → Gap → PathStep → List (List ℕ) → Type 0
IsGapUnder count bs h step xs = IsGap h.width count (slice_get bs) h.root h.free (steps_of h.path.items ++ step_of step ∷ []) h.number h.inner.kids.items h.inner.seps.items (h.number ∷ []) [] xs

module _ {B : Type 0} {g : Ghosts B} where
  pub record Turns (a b : Overlay B g) (file : ℕ) (h : Gap) (step : PathStep) (mate : InnerBlock) (h' : Gap) : Type 0 where
    pub up : IsTrue (under a).told → (under a).sound → length (overlay_content a file) ≡ seen_counts a file → (length (overlay_content b file) ≡ seen_counts b file)
        × ((xs : List (List ℕ)) → IsGapUnder (seen_counts a file) (overlay_content a file) h step xs → SaysMate (overlay_content a file) h.width step mate → IsGapUp (seen_counts b file) (overlay_content b file) h' xs)
    pub mates : IsTrue (under a).told → (under a).sound → length (overlay_content a file) ≡ seen_counts a file → (xs : List (List ℕ)) → IsGapUnder (seen_counts a file) (overlay_content a file) h step xs → SaysMate (overlay_content a file) h.width step mate
        → (width more : ℕ) → ArePassed width more h.path.items → (ms : List InnerBlock) → SayMates (overlay_content a file) width h.path.items ms → SayMates (overlay_content b file) width h.path.items ms
    pub others : IsTrue (under a).told → (under a).sound → (f : ℕ) → f ≢ file → overlay_content b f ≡ overlay_content a f
    pub counts : (f : ℕ) → seen_counts b f ≡ seen_counts a f
    pub width_is : h'.width ≡ h.width
    pub root_is : h'.root ≡ h.root
    pub path_is : h'.path.items ≡ h.path.items
    pub number_is : h'.number ≡ step.number
    pub holds : GapHolds (seen_counts b file) h'

  pub turns_by : (a b : Overlay B g) (file : ℕ) (h : Gap) (step : PathStep) (mate : InnerBlock) (j : Joint) (h' : Gap) → GapHolds (seen_counts a file) h → IsPassed h.width (seen_counts a file) step → IsMated h step mate j → Mends a b file j h' → Turns a b file h step mate h'
  turns_by a b file h step mate j h' holds passed m p =
      let width = p.width_is ∙ m.width_is in
      let size : suc (length j.inner.seps.items) ≡ length step.inner.seps.items = omega (arith, ap (λ (l : List (List ℕ)). length l) m.seps_are, less_by step.inner.seps.items _ (low_place (seen_counts a file) h.width step passed)) in
      record {
        up = λ told sound long.
            let one = p.up told sound long in
            (one.0, λ xs up said. subst (λ n. IsGapUp n (overlay_content b file) h' xs) (sym (p.counts file)) (one.1 xs (mated_up (seen_counts a file) (overlay_content a file) h step mate j xs m passed up said)));
        mates = λ told sound long xs up said width more passed' ms said'.
            let bs = overlay_content a file in
            let joint = mated_up (seen_counts a file) bs h step mate j xs m passed up said in
            subst (λ (l : List PathStep). SayMates (overlay_content b file) width l ms) m.path_is
            (joint_mates (seen_counts a file) bs (overlay_content b file) width more j xs joint (p.still told sound long) (subst (ArePassed width more) (sym m.path_is) passed') ms (subst (λ (l : List PathStep). SayMates bs width l ms) (sym m.path_is) said'));
        others = p.others;
        counts = p.counts;
        width_is = width;
        root_is = p.root_is ∙ m.root_is;
        path_is = p.path_is ∙ m.path_is;
        number_is = p.number_is ∙ m.number_is;
        holds = record {
          wide_is = subst IsListWidth (sym width) holds.wide_is;
          near = omega (arith, p.counts file, p.number_is, m.number_is, passed.low);
          free_low = p.free_low;
          more = p.more;
          wide = subst (λ w. AllWide w h'.inner.seps.items) (sym p.width_is) p.wide;
          room = subst (λ w. length h'.inner.seps.items * (w + 4) ≤ 1017) (sym width) (omega (arith, passed.inner.room, more_times (length h'.inner.seps.items) (length step.inner.seps.items) (h.width + 4) (omega (arith, p.few, size))));
        };
      }
