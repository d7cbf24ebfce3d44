-- The way up of a remove, one level after another, and its end.
use Rattle.std.proofs.Common.{◌≡◌, ◌≢◌, ℕ, zero, suc, ◌+◌, ◌*◌, ◌^◌, ◌≤◌, ◌<◌, ◌⊎◌, inl, inr, IsTrue, List, [], ◌∷◌, ◌++◌, Some, refl, sym, ap, subst, ◌∙◌, length, take, drop, slice_get, get_or, arith}
use Rattle.std.specs.declared.option.Option.{Option}
use Rattle.dms_block.specs.declared.blocks.Blocks.{Ghosts}
use Rattle.dms_block.specs.declared.overlay.Overlay.{Overlay}
use Rattle.dms_block.specs.Content.{put_block, raise_count, with_block}
use Rattle.dms_block.specs.View.{overlay_content, seen_counts, under}
use Rattle.dms_chain.specs.ListBlocks.{free_bytes}
use Rattle.dms_tree.specs.declared.climbing.Climb.{Climb}
use Rattle.dms_tree.specs.declared.leaving.LeafJoint.{LeafJoint}
use Rattle.dms_tree.specs.declared.node.InnerBlock.{InnerBlock}
use Rattle.dms_tree.specs.declared.raising.PathStep.{PathStep}
use Rattle.dms_tree.specs.declared.removing.Gap.{Gap}
use Rattle.dms_tree.specs.Closes.{close_drop}
use Rattle.dms_tree.specs.Coming.{IfLong, KeepsOthers, sound_on, told_on}
use Rattle.dms_tree.specs.Ends.{Ends}
use Rattle.dms_tree.specs.Fives.{four_at_least}
use Rattle.dms_tree.specs.Joins.{IsGap}
use Rattle.dms_tree.specs.LeafJoints.{IsLeafJointUp}
use Rattle.dms_tree.specs.LeafMends.{LeafMends}
use Rattle.dms_tree.specs.Levels.{Inner}
use Rattle.dms_tree.specs.Mates.{GapHolds}
use Rattle.dms_tree.specs.Mends.{IsGapUp}
use Rattle.dms_tree.specs.Paths.{IsPath, Step}
use Rattle.dms_tree.specs.TreeBlocks.{inner_half, root_bytes}
use Rattle.dms_tree.specs.TreeIn.{tree_in}
use Rattle.dms_tree.specs.Turns.{Turns}
use Rattle.dms_tree.specs.TwoWrites.{two_counts, two_laid, two_others}
use Rattle.dms_tree.specs.UpMates.{LastMate, MatesHold, SayMates, hold_last, hold_passed, say_last}
use Rattle.dms_tree.specs.Ups.{ArePassed, steps_append, steps_of}

-- the last one is taken off
pub last_off : {A : Type 0} (xs ys : List A) (i : ℕ) (x : A) → i + 1 ≡ length xs → x ≡ get_or xs i x → ys ≡ take i xs ++ drop (i + 1) xs → xs ≡ ys ++ x ∷ []
last_off {A = A} xs ys i x size at rest = by xs i (omega (arith, size)) at ∙ ap (λ (l : List A). l ++ x ∷ []) (sym (rest ∙ ap (λ n. take i xs ++ drop n xs) (let e : i + 1 ≡ suc i = omega arith in e)))
  where
    by : (xs : List A) (i : ℕ) → suc i ≡ length xs → x ≡ get_or xs i x → xs ≡ (take i xs ++ drop (suc i) xs) ++ x ∷ []
    by [] i size at = absurd (omega (arith, size))
    by (y ∷ []) zero size at = ap (λ (z : A). z ∷ []) (sym at)
    by (y ∷ z ∷ xs) zero size at = absurd (omega (arith, size))
    by (y ∷ []) (suc i) size at = absurd (omega (arith, size))
    by (y ∷ z ∷ xs) (suc i) size at = ap (λ (l : List A). y ∷ l) (by (z ∷ xs) i (omega (arith, size)) at)

-- what holds of a block that isn't written yet and of the neighbours on its way
pub record ClimbHolds (count : ℕ) (c : Climb) : Type 0 where
  pub gap : GapHolds count c.gap
  pub mates : MatesHold c.gap.width count c.gap.path.items c.mates.items

-- it stands in an open tree, and the neighbours say what was read
abbrev pub IsClimbUp : ℕ → List (List ℕ) → Climb → List (List ℕ) → Type 0
IsClimbUp count bs c xs = IsGapUp count bs c.gap xs × SayMates bs c.gap.width c.gap.path.items c.mates.items

-- the block is the root, or has enough separators
abbrev pub IsEnough : Gap → Type 0
IsEnough h = (h.path.items ≡ []) ⊎ (inner_half h.width ≤ length h.inner.seps.items)

gap_root_by : (width count : ℕ) (look : ℕ → Option (List ℕ)) (root free n : ℕ) (over : List (List Inner)) (next : ℕ) → IsPath [] over 0 root next n → n ≡ root
gap_root_by width count look root free n [] next path = path.1
gap_root_by width count look root free n (u ∷ over) next path = absurd path

no_seps : (seps : List (List ℕ)) → length seps ≡ 0 → seps ≡ []
no_seps [] none = refl
no_seps (s ∷ seps) none = absurd (omega (arith, none))

one_kid : (kids : List ℕ) (c : ℕ) → length kids ≡ 1 → c ≡ get_or kids 0 c → kids ≡ c ∷ []
one_kid [] c one at = absurd (omega (arith, one))
one_kid (n ∷ []) c one at = ap (λ (k : ℕ). k ∷ []) (sym at)
one_kid (n ∷ m ∷ kids) c one at = absurd (omega (arith, one))

no_path : (path : List PathStep) (half n : ℕ) → n ≡ 0 → 4 ≤ half → (path ≡ []) ⊎ (half ≤ n) → path ≡ []
no_path path half n none four (inl is) = is
no_path path half n none four (inr le) = absurd (omega (arith, none, four, le))

enough_half : (h : Gap) (count : ℕ) (bs : List (List ℕ)) (xs : List (List ℕ)) → IsGapUp count bs h xs → IsEnough h → (h.number ≡ h.root) ⊎ (inner_half h.width ≤ length h.inner.seps.items)
enough_half h count bs xs up (inl none) = inl (gap_root_by h.width count (slice_get bs) h.root h.free h.number up.over (length up.ups) (subst (λ (l : List PathStep). IsPath (steps_of l) up.over 0 h.root (length up.ups) h.number) none up.path))
enough_half h count bs xs up (inr half) = inr half

-- both leaves stand in a tree, and the neighbours above say what was read
abbrev pub IsWholeUp : ℕ → List (List ℕ) → LeafJoint → List InnerBlock → List (List ℕ) → Type 0
IsWholeUp count bs j ms xs = IsLeafJointUp count bs j xs × SayMates bs j.width j.path.items ms

module _ {B : Type 0} {g : Ghosts B} where
  pub record Climbs (a b : Overlay B g) (file : ℕ) (c d : Climb) : Type 0 where
    pub up : IfLong file a ((length (overlay_content b file) ≡ seen_counts b file) × ((xs : List (List ℕ)) → IsClimbUp (seen_counts a file) (overlay_content a file) c xs → IsClimbUp (seen_counts b file) (overlay_content b file) d xs))
    pub others : KeepsOthers file a b
    pub counts : (f : ℕ) → seen_counts b f ≡ seen_counts a f
    pub holds : ClimbHolds (seen_counts b file) d
    pub width_is : d.gap.width ≡ c.gap.width

  pub climbs_none : (a : Overlay B g) (file : ℕ) (c : Climb) → ClimbHolds (seen_counts a file) c → Climbs a a file c c
  climbs_none a file c holds = record { up = λ told sound long. (long, λ xs is. is); others = λ told sound f off. refl; counts = λ f. refl; holds = holds; width_is = refl }

  pub climbs_on : (a b d : Overlay B g) (file : ℕ) (c e f : Climb) → b.below ≡ a.below → Climbs a b file c e → Climbs b d file e f → Climbs a d file c f
  climbs_on a b d file c e f below p q = record {
    up = λ told sound long.
        let one = p.up told sound long in
        let two = q.up (told_on a b below told) (sound_on a b below sound) one.0 in
        (two.0, λ xs is. two.1 xs (one.1 xs is));
    others = λ told sound k off. q.others (told_on a b below told) (sound_on a b below sound) k off ∙ p.others told sound k off;
    counts = λ k. q.counts k ∙ p.counts k;
    holds = q.holds;
    width_is = q.width_is ∙ p.width_is;
  }

  -- one level up
  pub climbs_by : (a b : Overlay B g) (file : ℕ) (c : Climb) (h : Gap) (step : PathStep) (mate : InnerBlock) (h' : Gap) (d : Climb) (ms : List InnerBlock) → ClimbHolds (seen_counts a file) c → h.width ≡ c.gap.width → h.root ≡ c.gap.root → h.free ≡ c.gap.free → h.number ≡ c.gap.number → h.inner ≡ c.gap.inner
      → c.gap.path.items ≡ h.path.items ++ step ∷ [] → c.mates.items ≡ ms ++ mate ∷ [] → d.gap ≡ h' → d.mates.items ≡ ms → Turns a b file h step mate h' → Climbs a b file c d
  climbs_by a b file c h step mate h' d ms holds e1 e2 e3 e4 e5 path_is mates_are gap_is left t =
      let count = seen_counts a file in
      let bs = overlay_content a file in
      let held = hold_last h.width count h.path.items ms step mate (subst (λ (x : ℕ × (List PathStep × List InnerBlock)). MatesHold x.0 count x.1.0 x.1.1) (λ i. (sym e1 i, (path_is i, mates_are i))) holds.mates) in
      record {
        up = λ told sound long.
            let one = t.up told sound long in (
              one.0,
              λ xs is.
                  let said = say_last bs h.width h.path.items ms step mate (subst (λ (x : ℕ × (List PathStep × List InnerBlock)). SayMates bs x.0 x.1.0 x.1.1) (λ i. (sym e1 i, (path_is i, mates_are i))) is.1) in
                  let under = subst (λ (x : ℕ × (ℕ × (ℕ × (ℕ × (InnerBlock × List Step))))). IsGap x.0 count (slice_get bs) x.1.0 x.1.1.0 x.1.1.1.1.1 x.1.1.1.0 x.1.1.1.1.0.kids.items x.1.1.1.1.0.seps.items (x.1.1.1.0 ∷ []) [] xs)
                  (λ i. (sym e1 i, (sym e2 i, (sym e3 i, (sym e4 i, (sym e5 i, (ap steps_of path_is ∙ steps_append h.path.items (step ∷ [])) i)))))) is.0 in
                  let up = one.1 xs under said.1 in
                  let mates = t.mates told sound long xs under said.1 h.width count (hold_passed h.width count h.path.items ms held.before) ms said.0 in (
                    subst (λ k. IsGapUp (seen_counts b file) (overlay_content b file) k xs) (sym gap_is) up,
                    subst (λ (x : ℕ × (List PathStep × List InnerBlock)). SayMates (overlay_content b file) x.0 x.1.0 x.1.1) (λ i. ((sym t.width_is ∙ ap (λ (k : Gap). k.width) (sym gap_is)) i, ((sym t.path_is ∙ ap (λ (k : Gap). k.path.items) (sym gap_is)) i, sym left i))) mates,
                  ),
            );
        others = t.others;
        counts = t.counts;
        holds = record {
          gap = subst (GapHolds (seen_counts b file)) (sym gap_is) t.holds;
          mates = subst (λ (x : (ℕ × ℕ) × (List PathStep × List InnerBlock)). MatesHold x.0.0 x.0.1 x.1.0 x.1.1)
              (λ i. (((sym t.width_is ∙ ap (λ (k : Gap). k.width) (sym gap_is)) i, sym (t.counts file) i), ((sym t.path_is ∙ ap (λ (k : Gap). k.path.items) (sym gap_is)) i, sym left i))) held.before;
        };
        width_is = ap (λ (k : Gap). k.width) gap_is ∙ t.width_is ∙ e1;
      }

  -- what the last two writes leave
  pub record Closes (a b : Overlay B g) (file : ℕ) (h : Gap) : Type 0 where
    pub list : IfLong file a ((xs : List (List ℕ)) → IsGapUp (seen_counts a file) (overlay_content a file) h xs → IsEnough h → tree_in h.width (overlay_content b file) ≡ Some xs)
    pub others : KeepsOthers file a b
    pub counts : (f : ℕ) → seen_counts b f ≡ seen_counts a f

  pub closes_by : (a b : Overlay B g) (file : ℕ) (h : Gap) → Ends a b file h → Closes a b file h
  closes_by a b file h e = record {
    list = λ told sound long xs up enough. e.list told sound long xs up (enough_half h (seen_counts a file) (overlay_content a file) xs up enough);
    others = e.others;
    counts = e.counts;
  }

  -- a root of one child falls away
  pub closes_drop : (a b d : Overlay B g) (file : ℕ) (h : Gap) (c : ℕ) (x y : List ℕ) → b.below ≡ a.below → GapHolds (seen_counts a file) h → length h.inner.seps.items ≡ 0 → c ≡ get_or h.inner.kids.items 0 c → seen_counts a file ≤ 2097152 → x ≡ free_bytes h.free → y ≡ root_bytes c h.number
      → (IsTrue (under a).told → (under a).sound → overlay_content b ≡ with_block (overlay_content a) file h.number x) → seen_counts b ≡ raise_count (seen_counts a) file h.number
      → (IsTrue (under b).told → (under b).sound → overlay_content d ≡ with_block (overlay_content b) file 0 y) → seen_counts d ≡ raise_count (seen_counts b) file 0
      → Closes a d file h
  closes_drop a b d file h c x y below holds none at most x_is y_is seen counts seen' counts' =
      let x' = free_bytes h.free in
      let y' = root_bytes c h.number in
      let some : 0 < seen_counts a file = omega (arith, holds.near) in
      record {
        list = λ told sound long xs up enough.
            let bs = overlay_content a file in
            let path : h.path.items ≡ [] = no_path h.path.items (inner_half h.width) (length h.inner.seps.items) none (four_at_least h.width holds.wide_is.most) enough in
            let kids = one_kid h.inner.kids.items c (omega (arith, holds.more, none)) at in
            let seps = no_seps h.inner.seps.items none in
            let gap = subst (λ (t : ℕ × (List PathStep × (List ℕ × List (List ℕ)))). IsGap h.width t.0 (slice_get bs) h.root h.free (steps_of t.1.0) h.number t.1.1.0 t.1.1.1 (h.number ∷ []) [] xs) (λ i. (sym long i, (path i, (kids i, seps i)))) up in
            ap (tree_in h.width) (two_laid a b d file h.number 0 x y x' y' below holds.near some x_is y_is seen counts seen' counts' told sound)
            ∙ close_drop h.width bs h.root h.free h.number c xs (omega (arith, long, most)) (omega (arith, long, holds.near)) holds.free_low gap;
        others = two_others a b d file h.number 0 x y x' y' below holds.near some x_is y_is seen counts seen' counts';
        counts = two_counts a b d file h.number 0 x y x' y' below holds.near some x_is y_is seen counts seen' counts';
      }

  -- the whole way, from two leaves on
  pub record Shrinks (a b : Overlay B g) (file width : ℕ) (P : List (List ℕ) → Type 0) : Type 0 where
    pub list : IfLong file a ((xs : List (List ℕ)) → P xs → tree_in width (overlay_content b file) ≡ Some xs)
    pub others : KeepsOthers file a b
    pub counts : (f : ℕ) → seen_counts b f ≡ seen_counts a f

  pub shrinks_by : (a b d e : Overlay B g) (file : ℕ) (j : LeafJoint) (ms : List InnerBlock) (h : Gap) (c c' : Climb) → b.below ≡ a.below → d.below ≡ b.below → c.gap ≡ h → c.mates.items ≡ ms → LeafMends a b file j h → Climbs b d file c c' → IsEnough c'.gap → Closes d e file c'.gap → Shrinks a e file j.width (IsWholeUp (seen_counts a file) (overlay_content a file) j ms)
  shrinks_by a b d e file j ms h c c' below below' gap_is mates_are p q enough r = record {
    list = λ told sound long xs is.
        let told' = told_on a b below told in
        let sound' = sound_on a b below sound in
        let one = p.up told sound long in
        let mates = p.mates told sound long xs is.0 ms is.1 in
        let two = q.up told' sound' one.0 in
        let start : IsClimbUp (seen_counts b file) (overlay_content b file) c xs = (subst (λ k. IsGapUp (seen_counts b file) (overlay_content b file) k xs) (sym gap_is) (one.1 xs is.0), subst (λ (t : Gap × List InnerBlock). SayMates (overlay_content b file) t.0.width t.0.path.items t.1) (λ i. (sym gap_is i, sym mates_are i)) mates) in
        let three = r.list (told_on b d below' told') (sound_on b d below' sound') two.0 xs (two.1 xs start).0 enough in
        subst (λ w. tree_in w (overlay_content e file) ≡ Some xs) (q.width_is ∙ ap (λ (k : Gap). k.width) gap_is ∙ p.width_is) three;
    others = λ told sound f off.
        let told' = told_on a b below told in
        let sound' = sound_on a b below sound in
        r.others (told_on b d below' told') (sound_on b d below' sound') f off ∙ q.others told' sound' f off ∙ p.others told sound f off;
    counts = λ f. r.counts f ∙ q.counts f ∙ p.counts f;
  }
