-- What an insert that cuts its leaf leaves, from the leaf on.
use Rattle.std.proofs.Common.{◌≡◌, ◌≢◌, ℕ, zero, suc, ◌+◌, ◌*◌, ◌/◌, ◌≤◌, ◌<◌, max, IsTrue, List, [], ◌∷◌, ◌++◌, Some, refl, sym, ap, subst, ◌∙◌, length, take, drop, slice_get, get_or, arith}
use Rattle.std.proofs.lemmas.Bool.Decides.{nat_tests}
use Rattle.std.specs.Prelude.{OnOk}
use Rattle.std.specs.declared.result.Result.{Result}
use Rattle.std.specs.declared.result.Result.TheVariants.{Ok, Err}
use Rattle.dms_block.specs.declared.blocks.Blocks.{Ghosts}
use Rattle.dms_block.specs.declared.overlay.Overlay.{Overlay}
use Rattle.dms_block.specs.Content.{Content, put_block, raise_count, with_block}
use Rattle.dms_block.specs.ContentLaws.{in_file, in_others, laid_length}
use Rattle.dms_block.specs.View.{overlay_content, seen_counts, under}
use Rattle.dms_chain.specs.ListBlocks.{leaf_bytes}
use Rattle.dms_chain.specs.SpellLaws.{AllWide}
use Rattle.dms_chain.specs.declared.spelling.LeafBlock.{LeafBlock}
use Rattle.dms_tree.specs.declared.node.TreeHead.{TreeHead}
use Rattle.dms_tree.specs.declared.raising.Hole.{Hole}
use Rattle.dms_tree.specs.declared.raising.PathStep.{PathStep}
use Rattle.dms_tree.specs.Finishing.{AreLeafHalves, IsLeafUp, LeafHolds, finish_list, leaf_up, sep_wide}
use Rattle.dms_tree.specs.Settling.{Settles, needs_some, raised_comes, raised_at, raised_off}
use Rattle.dms_tree.specs.TreeBlocks.{inner_bytes, root_bytes}
use Rattle.dms_tree.specs.TreeIn.{tree_in}
use Rattle.dms_tree.specs.Ups.{Follow, HoleHolds, IsRaised, IsUp, end_after, end_more, hole_end, needs}

pub on_ok_two : {T E : Type 0} (P Q : Type 0) (r : Result T E) → OnOk r P → OnOk r Q → OnOk r (P × Q)
on_ok_two P Q (Ok x) p q = (p, q)
on_ok_two P Q (Err e) p q = tt

pub leaf_some : (count width : ℕ) (fresh : List ℕ) (path : List PathStep) (number : ℕ) (new : List (List ℕ)) → LeafHolds count width fresh path number new → 0 < length fresh
leaf_some count width fresh path number new holds = omega (arith, holds.needs_is, needs_some width 2 path (omega arith))

module _ {B : Type 0} {g : Ghosts B} where
  -- all other files stay as they were
  abbrev pub KeepsOthers : ℕ → Overlay B g → Overlay B g → Type 0
  KeepsOthers file a b = IsTrue (under a).told → (under a).sound → (f : ℕ) → f ≢ file → overlay_content b f ≡ overlay_content a f

  abbrev pub KeepsCounts : ℕ → Overlay B g → Overlay B g → Type 0
  KeepsCounts file a b = (f : ℕ) → f ≢ file → seen_counts b f ≡ seen_counts a f

  -- what holds where the content is told, and its blocks are as many as the counts say
  abbrev pub IfLong : ℕ → Overlay B g → Type 0 → Type 0
  IfLong file a P = IsTrue (under a).told → (under a).sound → length (overlay_content a file) ≡ seen_counts a file → P

  -- a block isn't written yet, after a leaf was cut
  pub record Comes (a b : Overlay B g) (file end : ℕ) (P : ℕ → List (List ℕ) → Type 0) (h : Hole) : Type 0 where
    pub up : IfLong file a ((length (overlay_content b file) ≡ seen_counts b file) × ((free : ℕ) (xs : List (List ℕ)) → P free xs → IsUp end free (overlay_content b file) h xs))
    pub others : KeepsOthers file a b
    pub counts : KeepsCounts file a b
    pub kept : seen_counts a file ≤ seen_counts b file
    pub end_is : hole_end (seen_counts b file) h ≡ end
    pub holds : HoleHolds (seen_counts b file) h

  -- A leaf that has an entry too many was cut in two: a child more in the block above it, which isn't written yet.
  abbrev pub CutsLeaf : Overlay B g → Overlay B g → ℕ → ℕ → ℕ → List PathStep → ℕ → LeafBlock → List ℕ → Hole → Type 0
  CutsLeaf a b file width root path number leaf fresh = Comes a b file (end_after (seen_counts a file) fresh) (λ free xs. IsLeafUp width (end_after (seen_counts a file) fresh) free (overlay_content a file) root path number leaf.next leaf.entries.items fresh xs)

  module _ (a b : Overlay B g) (below : b.below ≡ a.below) where
    pub told_on : IsTrue (under a).told → IsTrue (under b).told
    told_on told = subst (λ z. IsTrue (g.held z).told) (sym below) told

    pub sound_on : (under a).sound → (under b).sound
    sound_on sound = subst (λ z. (g.held z).sound) (sym below) sound

  pub comes_on : (a b c : Overlay B g) (file end : ℕ) (P : ℕ → List (List ℕ) → Type 0) (h h' : Hole) → b.below ≡ a.below → Comes a b file end P h → Settles b c file h h' → Comes a c file end P h'
  comes_on a b c file end P h h' below p q = record {
    up = λ told sound long.
        let one = p.up told sound long in
        let two = q.up (told_on a b below told) (sound_on a b below sound) one.0 in
        (two.0, λ free xs is. subst (λ n. IsUp n free (overlay_content c file) h' xs) p.end_is (two.1 free xs (subst (λ n. IsUp n free (overlay_content b file) h xs) (sym p.end_is) (one.1 free xs is))));
    others = λ told sound f off. q.others (told_on a b below told) (sound_on a b below sound) f off ∙ p.others told sound f off;
    counts = λ f off. q.counts f off ∙ p.counts f off;
    kept = omega (arith, p.kept, q.kept);
    end_is = q.end ∙ p.end_is;
    holds = q.holds;
  }

  pub leaf_comes : (a b d : Overlay B g) (file width root : ℕ) (path : List PathStep) (number next f : ℕ) (fresh all : List ℕ) (new low high : List (List ℕ)) (sep : List ℕ) (h' : Hole) (x y : List ℕ) → b.below ≡ a.below → all ≡ f ∷ fresh → LeafHolds (seen_counts a file) width all path number new
      → end_after (seen_counts a file) all ≤ 2097152 → AreLeafHalves new low high sep → h'.width ≡ width → IsRaised root fresh path number f sep h' → x ≡ leaf_bytes f low → y ≡ leaf_bytes next high
      → (IsTrue (under a).told → (under a).sound → overlay_content b ≡ with_block (overlay_content a) file number x) → seen_counts b ≡ raise_count (seen_counts a) file number
      → (IsTrue (under b).told → (under b).sound → overlay_content d ≡ with_block (overlay_content b) file f y) → seen_counts d ≡ raise_count (seen_counts b) file f
      → Comes a d file (end_after (seen_counts a file) all) (λ free xs. IsLeafUp width (end_after (seen_counts a file) all) free (overlay_content a file) root path number next new all xs) h'
  leaf_comes a b d file width root path number next f fresh all new low high sep h' x y below taken holds most halves width_is raised x_is y_is seen counts seen' counts' =
      let count = seen_counts a file in
      let follows : (f ≤ count) × Follow (max count (f + 1)) fresh = subst (Follow count) taken holds.follows in
      let one : seen_counts b file ≡ count = ap (λ (k : ℕ → ℕ). k file) counts ∙ raised_at (seen_counts a) file number ∙ (let e : max count (number + 1) ≡ count = omega (arith, holds.near) in e) in
      let two : seen_counts d file ≡ max count (f + 1) = ap (λ (k : ℕ → ℕ). k file) counts' ∙ raised_at (seen_counts b) file f ∙ ap (λ n. max n (f + 1)) one in
      let left : length fresh + 1 ≡ needs width path = omega (arith, ap (λ (l : List ℕ). length l) taken, holds.needs_is) in
      let after : IsTrue (under a).told → (under a).sound → overlay_content d ≡ with_block (with_block (overlay_content a) file number x) file f y =
      λ told sound. seen' (told_on a b below told) (sound_on a b below sound) ∙ ap (λ (c : Content). with_block c file f y) (seen told sound) in
      let laid : IsTrue (under a).told → (under a).sound → overlay_content d file ≡ put_block f y (put_block number x (overlay_content a file)) =
      λ told sound. ap (λ (c : Content). c file) (after told sound) ∙ in_file (with_block (overlay_content a) file number x) file f y ∙ ap (put_block f y) (in_file (overlay_content a) file number x) in
      let next_holds = raised_comes count width holds.wide_is root number path count h' f fresh sep (omega arith) follows holds.passed left width_is (sep_wide width new low high sep holds.wide_is holds.many holds.almost holds.wide halves) raised in
      record {
        up = λ told sound long.
            let bs = overlay_content a file in
            let near : number < length bs = omega (arith, long, holds.near) in
            let size = laid_length number x bs (omega (arith, near)) in (
              ap (λ (l : List (List ℕ)). length l) (laid told sound)
                  ∙ (let e : length (put_block f y (put_block number x bs)) ≡ max count (f + 1) = omega (arith, long, near, follows.0, laid_length f y (put_block number x bs) (omega (arith, long, near, follows.0, size)), size) in e)
                  ∙ sym two,
              λ free xs is.
                  subst (λ (l : List (List ℕ)). IsUp (end_after count all) free l h' xs) (sym (laid told sound ∙ (λ i. put_block f (y_is i) (put_block number (x_is i) bs))))
                  (subst (λ (t : ℕ × List ℕ). LeafHolds t.0 width t.1 path number new → end_after t.0 t.1 ≤ 2097152 → IsLeafUp width (end_after t.0 t.1) free bs root path number next new t.1 xs → IsUp (end_after t.0 t.1) free (put_block f (leaf_bytes next high) (put_block number (leaf_bytes f low) bs)) h' xs)
                  (λ i. (long i, sym taken i)) (λ holds' most' is'. leaf_up width bs root path number next f free fresh new low high sep h' xs holds' halves width_is most' raised is') holds most is),
            );
        others = λ told sound k off. ap (λ (c : Content). c k) (after told sound) ∙ in_others (with_block (overlay_content a) file number x) file f y k off ∙ in_others (overlay_content a) file number x k off;
        counts = λ k off. ap (λ (c : ℕ → ℕ). c k) counts' ∙ raised_off (seen_counts b) file f k off ∙ ap (λ (c : ℕ → ℕ). c k) counts ∙ raised_off (seen_counts a) file number k off;
        kept = omega (arith, two);
        end_is = ap (λ n. hole_end n h') two ∙ next_holds.1 ∙ sym (ap (end_after count) taken);
        holds = subst (λ n. HoleHolds n h') (sym two) next_holds.0;
      }

  -- the last two writes
  pub record Finishes (a b : Overlay B g) (file free : ℕ) (h : Hole) : Type 0 where
    pub list : IfLong file a ((xs : List (List ℕ)) → IsUp (hole_end (seen_counts a file) h) free (overlay_content a file) h xs → tree_in h.width (overlay_content b file) ≡ Some xs)
    pub others : KeepsOthers file a b
    pub counts : KeepsCounts file a b
    pub count_is : seen_counts b file ≡ hole_end (seen_counts a file) h

  pub finishes : (a b d : Overlay B g) (file free : ℕ) (h : Hole) (x y : List ℕ) → b.below ≡ a.below → HoleHolds (seen_counts a file) h → length h.inner.seps.items * (h.width + 4) ≤ 1017 → h.fresh.items ≡ [] → hole_end (seen_counts a file) h ≤ 2097152
      → x ≡ inner_bytes h.inner.kids.items h.inner.seps.items → y ≡ root_bytes h.root free
      → (IsTrue (under a).told → (under a).sound → overlay_content b ≡ with_block (overlay_content a) file h.number x) → seen_counts b ≡ raise_count (seen_counts a) file h.number
      → (IsTrue (under b).told → (under b).sound → overlay_content d ≡ with_block (overlay_content b) file 0 y) → seen_counts d ≡ raise_count (seen_counts b) file 0
      → Finishes a d file free h
  finishes a b d file free h x y below holds room none most x_is y_is seen counts seen' counts' =
      let count = seen_counts a file in
      let one : seen_counts b file ≡ max count (h.number + 1) = ap (λ (k : ℕ → ℕ). k file) counts ∙ raised_at (seen_counts a) file h.number in
      let two : seen_counts d file ≡ max count (h.number + 1) = ap (λ (k : ℕ → ℕ). k file) counts' ∙ raised_at (seen_counts b) file 0 ∙ (let e : max (seen_counts b file) (0 + 1) ≡ max count (h.number + 1) = omega (arith, one) in e) in
      let after : IsTrue (under a).told → (under a).sound → overlay_content d ≡ with_block (with_block (overlay_content a) file h.number x) file 0 y =
      λ told sound. seen' (told_on a b below told) (sound_on a b below sound) ∙ ap (λ (c : Content). with_block c file 0 y) (seen told sound) in
      record {
        list = λ told sound long xs up.
            let bs = overlay_content a file in
            ap (tree_in h.width) (ap (λ (c : Content). c file) (after told sound) ∙ in_file (with_block (overlay_content a) file h.number x) file 0 y ∙ ap (put_block 0 y) (in_file (overlay_content a) file h.number x) ∙ (λ i. put_block 0 (y_is i) (put_block h.number (x_is i) bs)))
            ∙ subst (λ n. HoleHolds n h → hole_end n h ≤ 2097152 → IsUp (hole_end n h) free bs h xs → tree_in h.width (put_block 0 (root_bytes h.root free) (put_block h.number (inner_bytes h.inner.kids.items h.inner.seps.items) bs)) ≡ Some xs) long
            (λ holds' most' up'. finish_list h.width bs h free xs holds' refl room none most' up') holds most up;
        others = λ told sound k off. ap (λ (c : Content). c k) (after told sound) ∙ in_others (with_block (overlay_content a) file h.number x) file 0 y k off ∙ in_others (overlay_content a) file h.number x k off;
        counts = λ k off. ap (λ (c : ℕ → ℕ). c k) counts' ∙ raised_off (seen_counts b) file 0 k off ∙ ap (λ (c : ℕ → ℕ). c k) counts ∙ raised_off (seen_counts a) file h.number k off;
        count_is = two ∙ sym (ap (end_after (max count (h.number + 1))) none);
      }

  -- the whole of it
  pub record Grows (a b : Overlay B g) (file width end : ℕ) (P : List (List ℕ) → Type 0) : Type 0 where
    pub list : IfLong file a ((xs : List (List ℕ)) → P xs → tree_in width (overlay_content b file) ≡ Some xs)
    pub others : KeepsOthers file a b
    pub counts : KeepsCounts file a b
    pub count_is : seen_counts b file ≡ end

  -- A leaf that has an entry too many was cut in two, and so were the blocks above it, as far as they were too full.
  abbrev pub GrowsLeaf : Overlay B g → Overlay B g → ℕ → ℕ → TreeHead → List PathStep → ℕ → LeafBlock → List ℕ → Type 0
  GrowsLeaf a b file width head path number leaf fresh = Grows a b file width (end_after (seen_counts a file) fresh) (λ xs. IsLeafUp width (end_after (seen_counts a file) fresh) head.free (overlay_content a file) head.root path number leaf.next leaf.entries.items fresh xs)

  pub grows_by : (a b c : Overlay B g) (file width end free : ℕ) (P : ℕ → List (List ℕ) → Type 0) (h : Hole) → b.below ≡ a.below → h.width ≡ width → Comes a b file end P h → Finishes b c file free h → Grows a c file width end (P free)
  grows_by a b c file width end free P h below width_is p q = record {
    list = λ told sound long xs is.
        let one = p.up told sound long in
        subst (λ w. tree_in w (overlay_content c file) ≡ Some xs) width_is (q.list (told_on a b below told) (sound_on a b below sound) one.0 xs (subst (λ n. IsUp n free (overlay_content b file) h xs) (sym p.end_is) (one.1 free xs is)));
    others = λ told sound f off. q.others (told_on a b below told) (sound_on a b below sound) f off ∙ p.others told sound f off;
    counts = λ f off. q.counts f off ∙ p.counts f off;
    count_is = q.count_is ∙ p.end_is;
  }
