-- What two leaves that become one, or are shared anew, leave.
use Rattle.std.proofs.Common.{◌≡◌, ◌≢◌, ℕ, zero, suc, ◌+◌, ◌*◌, ◌/◌, ◌-◌, ◌^◌, ◌≤◌, ◌<◌, IsTrue, List, [], ◌∷◌, ◌++◌, Some, refl, sym, ap, subst, ◌∙◌, length, take, drop, slice_get, get_or, length-append, append-nil, arith}
use Rattle.std.specs.declared.option.Option.{Option}
use Rattle.std.proofs.Math.Nat as nat
use Rattle.std.proofs.lemmas.List.{take-append-drop}
use Rattle.dms_block.specs.declared.blocks.Blocks.{Ghosts}
use Rattle.dms_block.specs.declared.overlay.Overlay.{Overlay}
use Rattle.dms_block.specs.Content.{put_block, raise_count, with_block}
use Rattle.dms_block.specs.View.{overlay_content, seen_counts, under}
use Rattle.dms_chain.specs.Leads.{rises_first, rises_second, rising_is}
use Rattle.dms_chain.specs.Linked.{front, numbers, put, times}
use Rattle.dms_chain.specs.LinkedLaws.{numbers_times, times_own}
use Rattle.dms_chain.specs.ListBlocks.{flat, free_bytes, leaf_bytes, leaf_in}
use Rattle.dms_chain.specs.Lists.{AreInByteOrder}
use Rattle.dms_chain.specs.Parts.{front_low, wide_both, wide_drop, wide_first, wide_second, wide_take}
use Rattle.dms_chain.specs.Seen.{IsListWidth}
use Rattle.dms_chain.specs.SpellLaws.{AllWide, free_again, leaf_again, wide_room}
use Rattle.dms_tree.specs.declared.leaving.LeafJoint.{LeafJoint}
use Rattle.dms_tree.specs.declared.node.InnerBlock.{InnerBlock}
use Rattle.dms_tree.specs.declared.raising.PathStep.{PathStep}
use Rattle.dms_tree.specs.declared.removing.Gap.{Gap}
use Rattle.dms_tree.specs.Finishing.{AreLeafHalves, LeafSizes, first_off, last_off, over_half}
use Rattle.dms_tree.specs.Gaps.{gap_give}
use Rattle.dms_tree.specs.Joins.{IsGap}
use Rattle.dms_tree.specs.LeafJoints.{IsLeafJointUp, LeafJointHolds, leaf_step}
use Rattle.dms_tree.specs.Levels.{Hangs, Inner, inner_numbers, top_numbers}
use Rattle.dms_tree.specs.Mates.{GapHolds}
use Rattle.dms_tree.specs.Mends.{IsGapUp, after_at, before_at, gap_as, half_room, kids_less, kids_same, sep_at, size_at}
use Rattle.dms_tree.specs.OpenTree.{tree_times}
use Rattle.dms_tree.specs.Paths.{Step}
use Rattle.dms_tree.specs.Removes.{leaves_one, leaves_shared}
use Rattle.dms_tree.specs.TreeBlocks.{leaf_half}
use Rattle.dms_tree.specs.TwoWrites.{two_counts, two_look, two_long, two_laid, two_others, two_still}
use Rattle.dms_tree.specs.UpMates.{SayMates, mates_in, mates_stay}
use Rattle.dms_tree.specs.Ups.{more_times, steps_of}

-- both halves of what two leaves hold
pub shared_sizes : (width n a b : ℕ) → IsListWidth width → 1017 < n * width → n ≤ 2 * (1017 / width) → a ≡ n / 2 → n ≡ a + b → LeafSizes width a b
shared_sizes width n a b w many few is sum =
    let most = over_half width n (omega (arith, w.low)) many in
    let nine : 9 ≤ 1017 / width = (nat.le-div_iff_mul-le {k = width} {x = 9} {y = 1017} (omega (arith, w.low))).1 (omega (arith, w.most)) in
    record {
      low = omega (arith, most, is);
      high = omega (arith, most, is, sum);
      some = omega (arith, most, nine, is);
      some' = omega (arith, most, nine, is, sum);
      room = half_room width a (1017 / width) (omega (arith, w.low)) refl (omega (arith, few, is));
      room' = half_room width b (1017 / width) (omega (arith, w.low)) refl (omega (arith, few, is, sum));
    }

pub record SharedLeaves (width : ℕ) (low high : List (List ℕ)) (sep : List ℕ) : Type 0 where
  pub sizes : LeafSizes width (length low) (length high)
  pub wide : AllWide width low
  pub wide' : AllWide width high
  pub rooms : (length (flat low) ≤ 1017) × (length (flat high) ≤ 1017)
  pub sep_wide : length sep ≡ width

pub shared_leaves : (count : ℕ) (j : LeafJoint) (low high : List (List ℕ)) (sep : List ℕ) → LeafJointHolds count j → 1017 < length j.whole.entries.items * j.width → AreLeafHalves j.whole.entries.items low high sep → SharedLeaves j.width low high sep
shared_leaves count j low high sep holds many halves =
    let es = j.whole.entries.items in
    let s = shared_sizes j.width (length es) (length low) (length high) holds.wide_is many holds.most halves.half (omega (arith, ap (λ (l : List (List ℕ)). length l) halves.is, length-append low high)) in
    let wide = subst (AllWide j.width) halves.is holds.wide in
    let firsts = first_off high sep s.some' halves.first in
    record {
      sizes = s;
      wide = wide_first j.width low high wide;
      wide' = wide_second j.width low high wide;
      rooms = (wide_room j.width low (wide_first j.width low high wide) s.room, wide_room j.width high (wide_second j.width low high wide) s.room');
      sep_wide = (subst (AllWide j.width) firsts.1 (wide_second j.width low high wide)).0;
    }

module _ (bs : List (List ℕ)) (j : LeafJoint) (xs : List (List ℕ)) (holds : LeafJointHolds (length bs) j) (most : length bs ≤ 2097152) (up : IsLeafJointUp (length bs) bs j xs) where
  abbrev w : ℕ
  w = j.width

  abbrev k : ℕ
  k = j.taken

  abbrev ks : List ℕ
  ks = j.inner.kids.items

  abbrev ts : List (List ℕ)
  ts = j.inner.seps.items

  abbrev s : Step
  s = leaf_step j up.sep

  next : suc k < length ks
  next = omega (arith, holds.kids_more, holds.place)

  next_low : j.whole.next < 2 ^ 32
  next_low =
      let p = up.pair in
      let both = p.ahead ++ (j.first, up.es) ∷ (j.second, up.es') ∷ p.rest in
      omega (arith, most, p.next_is, front_low p.rest (length bs) (omega (arith, p.opened.count_is)) (λ n more. p.opened.low n (omega (arith, more, tree_times n p.us both p.spares, numbers_times n p.ahead ((j.first, up.es) ∷ (j.second, up.es') ∷ p.rest)))))

  -- one leaf of both
  pub leaf_join : length j.whole.entries.items * j.width ≤ 1017
      → IsGap j.width (length bs) (slice_get (put_block j.second (free_bytes j.free) (put_block j.first (leaf_bytes j.whole.next j.whole.entries.items) bs))) j.root j.second (steps_of j.path.items) j.number (take (j.taken + 1) j.inner.kids.items ++ drop (j.taken + 1 + 1) j.inner.kids.items) j.inner.seps.items (j.number ∷ []) [] xs
  leaf_join room =
      let es = j.whole.entries.items in
      let bytes = leaf_bytes j.whole.next es in
      let reads = leaf_again w j.whole.next es (omega (arith, holds.wide_is.low)) next_low holds.wide (record { some = holds.some; room = room; rising = rising_is es up.rises }) ∙ ap (λ (l : List (List ℕ)). Some (j.whole.next, l)) up.entries_are in
      let half = subst (λ (l : List (List ℕ)). leaf_half w ≤ length l) up.entries_are up.half in
      let one = leaves_one w (length bs) (slice_get bs) j.root j.free (steps_of j.path.items) s j.first up.es up.ds j.second up.es' up.gs j.whole.next xs up.pair next (size_at ts k up.sep holds.place) bytes reads half in
      let two = gap_give w (length bs) (put (slice_get bs) j.first bytes) j.root j.free (steps_of j.path.items) j.number (take k ks ++ j.first ∷ drop (suc (suc k)) ks) (take k s.seps ++ drop (suc k) s.seps) (j.number ∷ []) j.second [] xs (free_bytes j.free) one (free_again j.free holds.free_low) in
      gap_as w (length bs) _ _ j.root j.second (steps_of j.path.items) j.number (take k ks ++ j.first ∷ drop (suc (suc k)) ks) _ (take k s.seps ++ drop (suc k) s.seps) ts (j.number ∷ []) xs
      (sym (two_look bs j.first j.second bytes (free_bytes j.free) holds.first_near holds.second_near))
      (ap (λ (n : ℕ). take k ks ++ n ∷ drop (suc (suc k)) ks) up.first_is ∙ sym (kids_less ks k next))
      ((λ i. before_at ts k up.sep holds.place i ++ after_at ts k up.sep holds.place i) ∙ take-append-drop k ts) two

  -- two leaves of both
  pub leaf_share : (low high : List (List ℕ)) (sep : List ℕ) → 1017 < length j.whole.entries.items * j.width → AreLeafHalves j.whole.entries.items low high sep
      → IsGap j.width (length bs) (slice_get (put_block j.second (leaf_bytes j.whole.next high) (put_block j.first (leaf_bytes j.second low) bs))) j.root j.free (steps_of j.path.items) j.number j.inner.kids.items (take j.taken j.inner.seps.items ++ sep ∷ drop j.taken j.inner.seps.items) (j.number ∷ []) [] xs
  leaf_share low high sep many halves =
      let es = j.whole.entries.items in
      let h = shared_leaves (length bs) j low high sep holds many halves in
      let lasts = last_off low h.sizes.some in
      let firsts = first_off high sep h.sizes.some' halves.first in
      let rising = subst AreInByteOrder halves.is up.rises in
      let reads = leaf_again w j.second low (omega (arith, holds.wide_is.low)) (omega (arith, most, holds.second_near)) h.wide (record { some = h.sizes.some; room = h.sizes.room; rising = rising_is low (rises_first low high rising) }) ∙ ap (λ (l : List (List ℕ)). Some (j.second, l)) lasts.2 in
      let reads' = leaf_again w j.whole.next high (omega (arith, holds.wide_is.low)) next_low h.wide' (record { some = h.sizes.some'; room = h.sizes.room'; rising = rising_is high (rises_second low high rising) }) ∙ ap (λ (l : List (List ℕ)). Some (j.whole.next, l)) firsts.1 in
      let same = sym up.entries_are ∙ halves.is ∙ (λ i. lasts.2 i ++ firsts.1 i) in
      let wide = (wide_second w lasts.0 (lasts.1 ∷ []) (subst (AllWide w) lasts.2 h.wide)).0 ∙ sym h.sep_wide in
      let one = leaves_shared w (length bs) (slice_get bs) j.root j.free (steps_of j.path.items) s j.first up.es up.ds j.second up.es' up.gs j.whole.next xs up.pair next (size_at ts k up.sep holds.place) lasts.0 lasts.1 sep firsts.0 (leaf_bytes j.second low) (leaf_bytes j.whole.next high) same wide reads reads'
      (subst (λ (l : List (List ℕ)). leaf_half w ≤ length l) lasts.2 h.sizes.low) (subst (λ (l : List (List ℕ)). leaf_half w ≤ length l) firsts.1 h.sizes.high) in
      gap_as w (length bs) _ _ j.root j.free (steps_of j.path.items) j.number (take k ks ++ j.first ∷ j.second ∷ drop (suc (suc k)) ks) ks (take k s.seps ++ sep ∷ drop (suc k) s.seps) _ (j.number ∷ []) xs
      (sym (two_look bs j.first j.second (leaf_bytes j.second low) (leaf_bytes j.whole.next high) holds.first_near holds.second_near))
      (ap (λ (n : ℕ). take k ks ++ n ∷ j.second ∷ drop (suc (suc k)) ks) up.first_is ∙ sym (kids_same ks k j.second next up.second_is))
      (λ i. before_at ts k up.sep holds.place i ++ sep ∷ after_at ts k up.sep holds.place i) one

-- the neighbours further up stay
pub leaf_mates : (count : ℕ) (bs bs' : List (List ℕ)) (j : LeafJoint) (xs : List (List ℕ)) → LeafJointHolds count j → IsLeafJointUp count bs j xs → ((k : ℕ) → (k ≡ j.first → ⊥) → (k ≡ j.second → ⊥) → slice_get bs' k ≡ slice_get bs k) → (ms : List InnerBlock) → SayMates bs j.width j.path.items ms → SayMates bs' j.width j.path.items ms
leaf_mates count bs bs' j xs holds up still ms said =
    let p = up.pair in
    let both = p.ahead ++ (j.first, up.es) ∷ (j.second, up.es') ∷ p.rest in
    let hangs = subst (λ (l : List (List Inner)). Hangs (top_numbers j.root) l (numbers both)) (sym (append-nil p.us)) p.opened.hangs in
    let all = mates_in j.width count j.path.items (leaf_step j up.sep) p.us [] 0 j.root (length p.ahead) j.first (top_numbers j.root) (numbers both) p.path hangs holds.passed in
    let once : (k : ℕ) → times k (inner_numbers p.us) + times k (j.first ∷ []) + times k (j.second ∷ []) ≤ 1 = λ k. omega (arith, p.opened.once k, tree_times k p.us both p.spares, numbers_times k p.ahead ((j.first, up.es) ∷ (j.second, up.es') ∷ p.rest)) in
    mates_stay bs bs' j.width p.us (λ k some. still k (λ e. absurd (omega (arith, once k, some, times_own k, ap (λ n. times k (n ∷ [])) e))) (λ e. absurd (omega (arith, once k, some, times_own k, ap (λ n. times k (n ∷ [])) e)))) j.path.items all ms said

module _ {B : Type 0} {g : Ghosts B} where
  -- what both leaves held was written, and the block above isn't written yet
  pub record LeafMends (a b : Overlay B g) (file : ℕ) (j : LeafJoint) (h : Gap) : Type 0 where
    pub up : IsTrue (under a).told → (under a).sound → length (overlay_content a file) ≡ seen_counts a file → (length (overlay_content b file) ≡ seen_counts b file)
        × ((xs : List (List ℕ)) → IsLeafJointUp (seen_counts a file) (overlay_content a file) j xs → IsGapUp (seen_counts b file) (overlay_content b file) h xs)
    pub mates : IsTrue (under a).told → (under a).sound → length (overlay_content a file) ≡ seen_counts a file → (xs : List (List ℕ)) → IsLeafJointUp (seen_counts a file) (overlay_content a file) j xs
        → (ms : List InnerBlock) → SayMates (overlay_content a file) j.width j.path.items ms → SayMates (overlay_content b file) h.width h.path.items ms
    pub others : IsTrue (under a).told → (under a).sound → (f : ℕ) → f ≢ file → overlay_content b f ≡ overlay_content a f
    pub counts : (f : ℕ) → seen_counts b f ≡ seen_counts a f
    pub width_is : h.width ≡ j.width
    pub path_is : h.path.items ≡ j.path.items
    pub holds : GapHolds (seen_counts b file) h

  module _ (a b d : Overlay B g) (file : ℕ) (j : LeafJoint) (h : Gap) (x y : List ℕ) (below : b.below ≡ a.below) (holds : LeafJointHolds (seen_counts a file) j) (most : seen_counts a file ≤ 2097152)
      (seen : IsTrue (under a).told → (under a).sound → overlay_content b ≡ with_block (overlay_content a) file j.first x) (counts : seen_counts b ≡ raise_count (seen_counts a) file j.first)
      (seen' : IsTrue (under b).told → (under b).sound → overlay_content d ≡ with_block (overlay_content b) file j.second y) (counts' : seen_counts d ≡ raise_count (seen_counts b) file j.second)
      (e1 : h.width ≡ j.width) (e2 : h.root ≡ j.root) (e4 : h.path.items ≡ j.path.items) (e5 : h.number ≡ j.number) where
    counted : (f : ℕ) → seen_counts d f ≡ seen_counts a f
    counted = two_counts a b d file j.first j.second x y x y below holds.first_near holds.second_near refl refl seen counts seen' counts'

    mended : (kids : List ℕ) (seps : List (List ℕ)) (free : ℕ) → h.free ≡ free → h.inner.kids.items ≡ kids → h.inner.seps.items ≡ seps → length kids ≡ suc (length seps) → length seps ≤ suc (length j.inner.seps.items) → AllWide j.width seps → free < 2 ^ 32
        → ((bs : List (List ℕ)) (xs : List (List ℕ)) → LeafJointHolds (length bs) j → length bs ≤ 2097152 → IsLeafJointUp (length bs) bs j xs → IsGap j.width (length bs) (slice_get (put_block j.second y (put_block j.first x bs))) j.root free (steps_of j.path.items) j.number kids seps (j.number ∷ []) [] xs)
        → LeafMends a d file j h
    mended kids seps free e3 e6 e7 more few wide low done = record {
      up = λ told sound long. (
        two_long a b d file j.first j.second x y x y below holds.first_near holds.second_near refl refl seen counts seen' counts' told sound long,
        λ xs up.
            let bs = overlay_content a file in
            let laid = two_laid a b d file j.first j.second x y x y below holds.first_near holds.second_near refl refl seen counts seen' counts' told sound in
            let gap = done bs xs (subst (λ n. LeafJointHolds n j) (sym long) holds) (omega (arith, long, most)) (subst (λ n. IsLeafJointUp n bs j xs) (sym long) up) in
            subst (λ (t : ℕ × (List (List ℕ) × (ℕ × (ℕ × (ℕ × (List PathStep × (ℕ × (List ℕ × List (List ℕ))))))))). IsGap t.1.1.0 t.0 (slice_get t.1.0) t.1.1.1.0 t.1.1.1.1.0 (steps_of t.1.1.1.1.1.0) t.1.1.1.1.1.1.0 t.1.1.1.1.1.1.1.0 t.1.1.1.1.1.1.1.1 (t.1.1.1.1.1.1.0 ∷ []) [] xs)
            (λ i. ((long ∙ sym (counted file)) i, (sym laid i, (sym e1 i, (sym e2 i, (sym e3 i, (sym e4 i, (sym e5 i, (sym e6 i, sym e7 i))))))))) gap,
      );
      mates = λ told sound long xs up ms said.
          let still = two_still a b d file j.first j.second x y x y below holds.first_near holds.second_near refl refl seen counts seen' counts' told sound long in
          subst (λ (t : ℕ × List PathStep). SayMates (overlay_content d file) t.0 t.1 ms) (λ i. (sym e1 i, sym e4 i)) (leaf_mates (seen_counts a file) (overlay_content a file) (overlay_content d file) j xs holds up still ms said);
      others = two_others a b d file j.first j.second x y x y below holds.first_near holds.second_near refl refl seen counts seen' counts';
      counts = counted;
      width_is = e1;
      path_is = e4;
      holds = record {
        wide_is = subst IsListWidth (sym e1) holds.wide_is;
        near = omega (arith, counted file, e5, holds.near);
        free_low = omega (arith, e3, low);
        more = ap (λ (l : List ℕ). length l) e6 ∙ more ∙ sym (ap (λ (l : List (List ℕ)). suc (length l)) e7);
        wide = subst (λ (t : ℕ × List (List ℕ)). AllWide t.0 t.1) (λ i. (sym e1 i, sym e7 i)) wide;
        room = subst (λ (t : ℕ × List (List ℕ)). length t.1 * (t.0 + 4) ≤ 1017) (λ i. (sym e1 i, sym e7 i)) (let e : length seps * (j.width + 4) ≤ 1017 = omega (arith, holds.room_up, more_times (length seps) (suc (length j.inner.seps.items)) (j.width + 4) few) in e);
      };
    }

    pub join_leaf_mends : length j.whole.entries.items * j.width ≤ 1017 → x ≡ leaf_bytes j.whole.next j.whole.entries.items → y ≡ free_bytes j.free → h.free ≡ j.second → h.inner.kids.items ≡ take (j.taken + 1) j.inner.kids.items ++ drop (j.taken + 1 + 1) j.inner.kids.items
        → h.inner.seps.items ≡ j.inner.seps.items → LeafMends a d file j h
    join_leaf_mends room x_is y_is e3 e6 e7 =
        let ks = j.inner.kids.items in
        let k = j.taken in
        let kids = take (k + 1) ks ++ drop (k + 1 + 1) ks in
        let next : suc k < length ks = omega (arith, holds.kids_more, holds.place) in
        let more : length kids ≡ suc (length j.inner.seps.items) =
        ap (λ (l : List ℕ). length l) (kids_less ks k next)
        ∙ (let e : length (take k ks ++ get_or ks k 0 ∷ drop (suc (suc k)) ks) ≡ suc (length j.inner.seps.items) = omega (arith, holds.kids_more, length-append (take k ks) (get_or ks k 0 ∷ drop (suc (suc k)) ks), ap (λ (l : List ℕ). length l) (kids_same ks k (get_or ks (suc k) 0) next refl), length-append (take k ks) (get_or ks k 0 ∷ get_or ks (suc k) 0 ∷ drop (suc (suc k)) ks)) in e) in
        mended kids j.inner.seps.items j.second e3 e6 e7 more (omega arith) holds.wide_up (omega (arith, most, holds.second_near))
        (λ bs xs holds' most' up. subst (λ (t : List ℕ × List ℕ). IsGap j.width (length bs) (slice_get (put_block j.second t.1 (put_block j.first t.0 bs))) j.root j.second (steps_of j.path.items) j.number kids j.inner.seps.items (j.number ∷ []) [] xs) (λ i. (sym x_is i, sym y_is i))
        (leaf_join bs j xs holds' most' up room))

    pub share_leaf_mends : (low high : List (List ℕ)) (sep : List ℕ) → 1017 < length j.whole.entries.items * j.width → AreLeafHalves j.whole.entries.items low high sep → x ≡ leaf_bytes j.second low → y ≡ leaf_bytes j.whole.next high → h.free ≡ j.free → h.inner.kids.items ≡ j.inner.kids.items
        → h.inner.seps.items ≡ take j.taken j.inner.seps.items ++ sep ∷ drop j.taken j.inner.seps.items → LeafMends a d file j h
    share_leaf_mends low high sep many halves x_is y_is e3 e6 e7 =
        let ts = j.inner.seps.items in
        let k = j.taken in
        let seps = take k ts ++ sep ∷ drop k ts in
        let size : length seps ≡ suc (length ts) = omega (arith, length-append (take k ts) (sep ∷ drop k ts), length-append (take k ts) (drop k ts), ap (λ (l : List (List ℕ)). length l) (take-append-drop k ts)) in
        let s = shared_leaves (seen_counts a file) j low high sep holds many halves in
        mended j.inner.kids.items seps j.free e3 e6 e7 (holds.kids_more ∙ ap suc (sym size)) (omega (arith, size)) (wide_both j.width (take k ts) (sep ∷ drop k ts) (wide_take j.width k ts holds.wide_up) (s.sep_wide, wide_drop j.width k ts holds.wide_up)) holds.free_low
        (λ bs xs holds' most' up. subst (λ (t : List ℕ × List ℕ). IsGap j.width (length bs) (slice_get (put_block j.second t.1 (put_block j.first t.0 bs))) j.root j.free (steps_of j.path.items) j.number j.inner.kids.items seps (j.number ∷ []) [] xs) (λ i. (sym x_is i, sym y_is i))
        (leaf_share bs j xs holds' most' up low high sep many halves))
