-- A leaf that an entry left is joined in memory with its neighbour.
use Rattle.std.proofs.Common.{◌≡◌, ℕ, zero, suc, ◌+◌, ◌*◌, ◌/◌, ◌-◌, ◌^◌, ◌≤◌, ◌<◌, ◌⊎◌, inl, inr, List, [], ◌∷◌, ◌++◌, Some, refl, sym, ap, subst, ◌∙◌, length, take, drop, slice_get, get_or, length-append, append_assoc, arith}
use Rattle.std.specs.declared.option.Option.{Option}
use Rattle.dms_chain.specs.Leads.{rises_first, rises_second}
use Rattle.dms_chain.specs.Linked.{numbers, said_by, times}
use Rattle.dms_chain.specs.LinkedLaws.{numbers_times, times_append, times_own}
use Rattle.dms_chain.specs.ListBlocks.{leaf_in}
use Rattle.dms_chain.specs.ListIn.{Leaf, Spare, entries_of}
use Rattle.dms_chain.specs.Lists.{AreInByteOrder}
use Rattle.dms_chain.specs.Parts.{wide_both, wide_drop, wide_take}
use Rattle.dms_chain.specs.Seen.{IsListWidth}
use Rattle.dms_chain.specs.SpellLaws.{AllWide, IsLeaf}
use Rattle.dms_chain.specs.declared.spelling.LeafBlock.{LeafBlock}
use Rattle.dms_tree.specs.declared.leaving.LeafJoint.{LeafJoint}
use Rattle.dms_tree.specs.declared.leaving.ShortLeaf.{ShortLeaf}
use Rattle.dms_tree.specs.declared.raising.PathStep.{PathStep}
use Rattle.dms_tree.specs.Joins.{turn_to}
use Rattle.dms_tree.specs.Levels.{Inner, inner_numbers, top_numbers}
use Rattle.dms_tree.specs.Looks.{entries_append}
use Rattle.dms_tree.specs.Mates.{first_place, less_by, low_place, mate_place, most_of, over_some, place_is, with_sep}
use Rattle.dms_tree.specs.OpenLeaves.{half_second}
use Rattle.dms_tree.specs.OpenMoves.{top_is}
use Rattle.dms_tree.specs.OpenTree.{IsOpenTree, tree_times}
use Rattle.dms_tree.specs.Paths.{IsPath, Step, path_last}
use Rattle.dms_tree.specs.Removes.{IsLeafPair, IsLessLeaf, leaf_left, leaf_right}
use Rattle.dms_tree.specs.TreeBlocks.{leaf_half}
use Rattle.dms_tree.specs.UpMates.{mate_of}
use Rattle.dms_tree.specs.Ups.{ArePassed, IsPassed, more_times, step_of, steps_of}

-- the block above, with the separator between the two leaves
abbrev pub leaf_step : LeafJoint → List ℕ → Step
leaf_step j sep = record { number = j.number; kids = j.inner.kids.items; seps = take j.taken j.inner.seps.items ++ sep ∷ drop j.taken j.inner.seps.items; taken = j.taken }

-- what holds of both leaves in memory, in a file of so many blocks
pub record LeafJointHolds (count : ℕ) (j : LeafJoint) : Type 0 where
  pub wide_is : IsListWidth j.width
  pub near : j.number < count
  pub first_near : j.first < count
  pub second_near : j.second < count
  pub free_low : j.free < 2 ^ 32
  pub some : 0 < length j.whole.entries.items
  pub wide : AllWide j.width j.whole.entries.items
  pub most : length j.whole.entries.items ≤ 2 * (1017 / j.width)
  pub wide_up : AllWide j.width j.inner.seps.items
  pub kids_more : length j.inner.kids.items ≡ suc (suc (length j.inner.seps.items))
  pub place : j.taken ≤ length j.inner.seps.items
  pub room_up : suc (length j.inner.seps.items) * (j.width + 4) ≤ 1017
  pub passed : ArePassed j.width count j.path.items

-- they stand in a tree, in which the one leaf has an entry more
pub record IsLeafJointUp (count : ℕ) (bs : List (List ℕ)) (j : LeafJoint) (xs : List (List ℕ)) : Type 0 where
  pub sep : List ℕ
  pub es : List (List ℕ)
  pub ds : List (List ℕ)
  pub es' : List (List ℕ)
  pub gs : List (List ℕ)
  pub pair : IsLeafPair j.width count (slice_get bs) j.root j.free (steps_of j.path.items) (leaf_step j sep) j.first es ds j.second es' gs j.whole.next xs
  pub entries_are : j.whole.entries.items ≡ ds ++ gs
  pub half : leaf_half j.width ≤ length j.whole.entries.items
  pub rises : AreInByteOrder j.whole.entries.items
  pub first_is : j.first ≡ get_or j.inner.kids.items j.taken 0
  pub second_is : j.second ≡ get_or j.inner.kids.items (suc j.taken) 0

-- no leaf under another block is the root
leaf_off : (width count : ℕ) (look : ℕ → Option (List ℕ)) (root free : ℕ) (us : List (List Inner)) (ls : List Leaf) (fs : List Spare) (holes loose : List ℕ) → IsOpenTree width count look root free us ls fs holes loose → 0 < length us → (root ≡ 0 → ⊥) → times root (numbers ls) ≡ 0
leaf_off width count look root free [] ls fs holes loose o more some = absurd (omega (arith, more))
leaf_off width count look root free (v ∷ us) ls fs holes loose o more some =
    omega (arith, o.once root, tree_times root (v ∷ us) ls fs, times_append root (numbers v) (inner_numbers us), ap (times root) (o.hangs.0 ∙ top_is root some), times_own root)

is_half : (n root least a : ℕ) → (n ≡ root → ⊥) → (n ≡ root) ⊎ (least ≤ a) → least ≤ a
is_half n root least a off (inl e) = absurd (off e)
is_half n root least a off (inr h) = h

-- so both are half full
pub pair_halves : (width count : ℕ) (look : ℕ → Option (List ℕ)) (root free : ℕ) (ss : List Step) (s : Step) (c : ℕ) (es ds : List (List ℕ)) (f : ℕ) (es' gs : List (List ℕ)) (next : ℕ) (xs : List (List ℕ)) → IsLeafPair width count look root free ss s c es ds f es' gs next xs
    → (leaf_half width ≤ length es) × (leaf_half width ≤ length es')
pair_halves width count look root free ss s c es ds f es' gs next xs p =
    let both = p.ahead ++ (c, es) ∷ (f, es') ∷ p.rest in
    let off : times root (numbers both) ≡ 0 = leaf_off width count look root free p.us both p.spares [] [] p.opened (over_some ss s p.us root (length p.ahead) c p.path) p.some in
    let parts = numbers_times root p.ahead ((c, es) ∷ (f, es') ∷ p.rest) in
    let half = half_second width root p.ahead ((c, es) ∷ (f, es') ∷ p.rest) p.opened.half in (
      is_half c root (leaf_half width) (length es) (λ e. absurd (omega (arith, off, parts, times_own root, ap (λ k. times root (k ∷ [])) e))) half.0,
      is_half f root (leaf_half width) (length es') (λ e. absurd (omega (arith, off, parts, times_own root, ap (λ k. times root (k ∷ [])) e))) half.1.0,
    )

-- and the entries of both rise
pub pair_rises : (width count : ℕ) (look : ℕ → Option (List ℕ)) (root free : ℕ) (ss : List Step) (s : Step) (c : ℕ) (es ds : List (List ℕ)) (f : ℕ) (es' gs : List (List ℕ)) (next : ℕ) (xs : List (List ℕ)) → IsLeafPair width count look root free ss s c es ds f es' gs next xs → AreInByteOrder xs → AreInByteOrder (ds ++ gs)
pair_rises width count look root free ss s c es ds f es' gs next xs p sorted =
    let after = entries_of p.rest in
    let all : xs ≡ entries_of p.ahead ++ ((ds ++ gs) ++ after) = sym p.entries ∙ entries_append p.ahead ((c, ds) ∷ (f, gs) ∷ p.rest) ∙ ap (λ (l : List (List ℕ)). entries_of p.ahead ++ l) (sym (append_assoc ds gs after)) in
    rises_first (ds ++ gs) after (rises_second (entries_of p.ahead) ((ds ++ gs) ++ after) (subst AreInByteOrder all sorted))

-- a leaf with too few entries, and the way to it
pub record ShortLeafHolds (count : ℕ) (h : ShortLeaf) : Type 0 where
  pub wide_is : IsListWidth h.width
  pub near : h.number < count
  pub free_low : h.free < 2 ^ 32
  pub wide : AllWide h.width h.leaf.entries.items
  pub room : length h.leaf.entries.items * h.width ≤ 1017
  pub passed : ArePassed h.width count h.path.items

-- it stands under a block of the path, and in the tree it has an entry more
abbrev pub IsShortUnder : ℕ → List (List ℕ) → ShortLeaf → PathStep → List (List ℕ) → List (List ℕ) → Type 0
IsShortUnder count bs h step old xs = IsLessLeaf h.width count (slice_get bs) h.root h.free (steps_of h.path.items ++ step_of step ∷ []) h.number h.leaf.next old h.leaf.entries.items xs

-- this is what its neighbour says
abbrev pub SaysLeaf : List (List ℕ) → ℕ → PathStep → LeafBlock → Type 0
SaysLeaf bs width step mate = said_by (leaf_in width) (slice_get bs (mate_of step)) ≡ Some (mate.next, mate.entries.items)

-- Both in memory, the leaf and its neighbour.
pub record AreLeavesMated (h : ShortLeaf) (step : PathStep) (mate : LeafBlock) (j : LeafJoint) : Type 0 where
  pub width_is : j.width ≡ h.width
  pub root_is : j.root ≡ h.root
  pub free_is : j.free ≡ h.free
  pub path_is : j.path.items ≡ h.path.items
  pub number_is : j.number ≡ step.number
  pub kids_are : j.inner.kids.items ≡ step.inner.kids.items
  pub seps_are : j.inner.seps.items ≡ take (first_place step.taken) step.inner.seps.items ++ drop (suc (first_place step.taken)) step.inner.seps.items
  pub taken_is : j.taken ≡ first_place step.taken
  pub right : step.taken ≡ 0 → (j.first ≡ h.number) × (j.second ≡ get_or step.inner.kids.items 1 0) × (j.whole.next ≡ mate.next) × (j.whole.entries.items ≡ h.leaf.entries.items ++ mate.entries.items)
  pub left : (k : ℕ) → suc k ≡ step.taken → (j.first ≡ get_or step.inner.kids.items k 0) × (j.second ≡ h.number) × (j.whole.next ≡ h.leaf.next) × (j.whole.entries.items ≡ mate.entries.items ++ h.leaf.entries.items)

-- equal words for the same
pair_as : (count : ℕ) (look : ℕ → Option (List ℕ)) (w w' root root' free free' : ℕ) (ps ps' : List PathStep) (s s' : Step) (c c' : ℕ) (es ds : List (List ℕ)) (f f' : ℕ) (es' gs : List (List ℕ)) (next next' : ℕ) (xs : List (List ℕ))
    → w ≡ w' → root ≡ root' → free ≡ free' → ps ≡ ps' → s ≡ s' → c ≡ c' → f ≡ f' → next ≡ next' → IsLeafPair w count look root free (steps_of ps) s c es ds f es' gs next xs → IsLeafPair w' count look root' free' (steps_of ps') s' c' es ds f' es' gs next' xs
pair_as count look w w' root root' free free' ps ps' s s' c c' es ds f f' es' gs next next' xs e1 e2 e3 e4 e5 e6 e7 e8 p =
    subst (λ (t : ℕ × (ℕ × (ℕ × (List PathStep × (Step × (ℕ × (ℕ × ℕ))))))). IsLeafPair t.0 count look t.1.0 t.1.1.0 (steps_of t.1.1.1.0) t.1.1.1.1.0 t.1.1.1.1.1.0 es ds t.1.1.1.1.1.1.0 es' gs t.1.1.1.1.1.1.1 xs) (λ i. (e1 i, (e2 i, (e3 i, (e4 i, (e5 i, (e6 i, (e7 i, e8 i)))))))) p

back_at : (seps : List (List ℕ)) (k : ℕ) → k < length seps → get_or seps k [] ≡ get_or seps k (get_or seps k [])
back_at [] k low = absurd (omega (arith, low))
back_at (x ∷ seps) zero low = refl
back_at (x ∷ seps) (suc k) low = back_at seps k (omega (arith, low))

module _ (count : ℕ) (bs : List (List ℕ)) (h : ShortLeaf) (step : PathStep) (mate : LeafBlock) (j : LeafJoint) (old xs : List (List ℕ)) (m : AreLeavesMated h step mate j) (passed : IsPassed h.width count step) (up : IsShortUnder count bs h step old xs) (said : SaysLeaf bs h.width step mate) (sorted : AreInByteOrder xs) where
  abbrev s : Step
  s = step_of step

  abbrev place : ℕ
  place = first_place step.taken

  abbrev sep : List ℕ
  sep = get_or step.inner.seps.items place []

  low : place < length step.inner.seps.items
  low = low_place count h.width step passed

  same : turn_to s place ≡ leaf_step j sep
  same =
      let seps : take j.taken j.inner.seps.items ++ sep ∷ drop j.taken j.inner.seps.items ≡ s.seps = (λ i. take (m.taken_is i) j.inner.seps.items ++ sep ∷ drop (m.taken_is i) j.inner.seps.items) ∙ with_sep step.inner.seps.items j.inner.seps.items place sep low (back_at step.inner.seps.items place low) m.seps_are in
      λ i. record { number = sym m.number_is i; kids = sym m.kids_are i; seps = sym seps i; taken = sym m.taken_is i }

  by_right : step.taken ≡ 0 → IsLeafJointUp count bs j xs
  by_right e =
      let r = m.right e in
      let es = h.leaf.entries.items in
      let gs = mate.entries.items in
      let at : place ≡ step.taken = ap first_place e ∙ sym e in
      let q : mate_place step.taken ≡ suc step.taken = ap mate_place e ∙ ap suc (sym e) in
      let more : suc step.taken < length step.inner.kids.items = omega (arith, e, passed.inner.more, passed.inner.some) in
      let one = leaf_right h.width count (slice_get bs) h.root h.free (steps_of h.path.items) s h.number h.leaf.next old es xs mate.next gs up more (ap (λ n. said_by (leaf_in h.width) (slice_get bs (get_or step.inner.kids.items n 0))) (sym q) ∙ said) in
      let two : j.second ≡ get_or step.inner.kids.items (suc step.taken) 0 = r.1 ∙ ap (λ n. get_or step.inner.kids.items n 0) (ap suc (sym e)) in
      let halves = pair_halves h.width count (slice_get bs) h.root h.free (steps_of h.path.items) s h.number old es (get_or s.kids (suc s.taken) 0) gs gs mate.next xs one in
      let rising = pair_rises h.width count (slice_get bs) h.root h.free (steps_of h.path.items) s h.number old es (get_or s.kids (suc s.taken) 0) gs gs mate.next xs one sorted in
      record {
        sep = sep;
        es = old;
        ds = es;
        es' = gs;
        gs = gs;
        pair = pair_as count (slice_get bs) h.width j.width h.root j.root h.free j.free h.path.items j.path.items s (leaf_step j sep) h.number j.first old es (get_or s.kids (suc s.taken) 0) j.second gs gs mate.next j.whole.next xs
            (sym m.width_is) (sym m.root_is) (sym m.free_is) (sym m.path_is) (ap (turn_to s) (sym at) ∙ same) (sym r.0) (sym two) (sym r.2) one;
        entries_are = r.3;
        half = subst (λ w. leaf_half w ≤ length j.whole.entries.items) (sym m.width_is) (omega (arith, halves.1, ap (λ (l : List (List ℕ)). length l) r.3, length-append es gs));
        rises = subst AreInByteOrder (sym r.3) rising;
        first_is = r.0 ∙ (path_last (steps_of h.path.items) s up.us 0 h.root (length up.ahead) h.number up.path).step.below_is ∙ ap (λ n. get_or step.inner.kids.items n 0) (sym at) ∙ sym (λ i. get_or (m.kids_are i) (m.taken_is i) 0);
        second_is = two ∙ ap (λ n. get_or step.inner.kids.items (suc n) 0) (sym at) ∙ sym (λ i. get_or (m.kids_are i) (suc (m.taken_is i)) 0);
      }

  by_left : (k : ℕ) → suc k ≡ step.taken → IsLeafJointUp count bs j xs
  by_left k e =
      let r = m.left k e in
      let gs = h.leaf.entries.items in
      let es = mate.entries.items in
      let at : place ≡ k = ap first_place (sym e) in
      let q : mate_place step.taken ≡ k = ap mate_place (sym e) in
      let one = leaf_left h.width count (slice_get bs) h.root h.free (steps_of h.path.items) s k h.number h.leaf.next old gs xs mate.next es up e (ap (λ n. said_by (leaf_in h.width) (slice_get bs (get_or step.inner.kids.items n 0))) (sym q) ∙ said) in
      let halves = pair_halves h.width count (slice_get bs) h.root h.free (steps_of h.path.items) (turn_to s k) (get_or s.kids k 0) es es h.number old gs h.leaf.next xs one in
      let rising = pair_rises h.width count (slice_get bs) h.root h.free (steps_of h.path.items) (turn_to s k) (get_or s.kids k 0) es es h.number old gs h.leaf.next xs one sorted in
      record {
        sep = sep;
        es = es;
        ds = es;
        es' = old;
        gs = gs;
        pair = pair_as count (slice_get bs) h.width j.width h.root j.root h.free j.free h.path.items j.path.items (turn_to s k) (leaf_step j sep) (get_or s.kids k 0) j.first es es h.number j.second old gs h.leaf.next j.whole.next xs
            (sym m.width_is) (sym m.root_is) (sym m.free_is) (sym m.path_is) (ap (turn_to s) (sym at) ∙ same) (sym r.0) (sym r.1) (sym r.2) one;
        entries_are = r.3;
        half = subst (λ w. leaf_half w ≤ length j.whole.entries.items) (sym m.width_is) (omega (arith, halves.0, ap (λ (l : List (List ℕ)). length l) r.3, length-append es gs));
        rises = subst AreInByteOrder (sym r.3) rising;
        first_is = r.0 ∙ ap (λ n. get_or step.inner.kids.items n 0) (sym at) ∙ sym (λ i. get_or (m.kids_are i) (m.taken_is i) 0);
        second_is = r.1 ∙ (path_last (steps_of h.path.items) s up.us 0 h.root (length up.ahead) h.number up.path).step.below_is ∙ ap (λ n. get_or step.inner.kids.items n 0) (sym e) ∙ ap (λ n. get_or step.inner.kids.items (suc n) 0) (sym at) ∙ sym (λ i. get_or (m.kids_are i) (suc (m.taken_is i)) 0);
      }

  by_place : (step.taken ≡ 0) ⊎ ((k : ℕ) × (suc k ≡ step.taken)) → IsLeafJointUp count bs j xs
  by_place (inl e) = by_right e
  by_place (inr e) = by_left e.0 e.1

  pub leaves_up : IsLeafJointUp count bs j xs
  leaves_up = by_place (place_is step.taken)

record BothLeaves (w : ℕ) (es gs all : List (List ℕ)) : Type 0 where
  pub some : 0 < length all
  pub wide : AllWide w all
  pub most : length all ≤ 2 * (1017 / w)

both_leaves : (w : ℕ) (es gs all : List (List ℕ)) → 0 < w → AllWide w es → AllWide w gs → 0 < length es + length gs → length es * w ≤ 1017 → length gs * w ≤ 1017 → all ≡ es ++ gs → BothLeaves w es gs all
both_leaves w es gs all low wide wide' some room room' is =
    let size : length all ≡ length es + length gs = omega (arith, ap (λ (l : List (List ℕ)). length l) is, length-append es gs) in
    record { some = omega (arith, size, some); wide = subst (AllWide w) (sym is) (wide_both w es gs wide wide'); most = omega (arith, size, most_of w (length es) low room, most_of w (length gs) low room') }

pub leaves_hold : (count : ℕ) (h : ShortLeaf) (step : PathStep) (mate : LeafBlock) (j : LeafJoint) → AreLeavesMated h step mate j → ShortLeafHolds count h → IsPassed h.width count step → IsLeaf h.width mate.next mate.entries.items → mate_of step < count → LeafJointHolds count j
leaves_hold count h step mate j m holds passed leaf near = by_place (place_is step.taken)
  where
    low : first_place step.taken < length step.inner.seps.items
    low = low_place count h.width step passed

    less : length step.inner.seps.items ≡ suc (length j.inner.seps.items)
    less = less_by step.inner.seps.items (first_place step.taken) low ∙ ap (λ (l : List (List ℕ)). suc (length l)) (sym m.seps_are)

    by_both : (es gs : List (List ℕ)) → BothLeaves h.width es gs j.whole.entries.items → j.first < count → j.second < count → LeafJointHolds count j
    by_both es gs b first second = record {
      wide_is = subst IsListWidth (sym m.width_is) holds.wide_is;
      near = omega (arith, m.number_is, passed.low);
      first_near = first;
      second_near = second;
      free_low = subst (λ n. n < 2 ^ 32) (sym m.free_is) holds.free_low;
      some = b.some;
      wide = subst (λ w. AllWide w j.whole.entries.items) (sym m.width_is) b.wide;
      most = subst (λ w. length j.whole.entries.items ≤ 2 * (1017 / w)) (sym m.width_is) b.most;
      wide_up = subst (λ (t : ℕ × List (List ℕ)). AllWide t.0 t.1) (λ i. (sym m.width_is i, sym m.seps_are i)) (wide_both h.width (take (first_place step.taken) step.inner.seps.items) (drop (suc (first_place step.taken)) step.inner.seps.items)
          (wide_take h.width (first_place step.taken) step.inner.seps.items passed.inner.wide) (wide_drop h.width (suc (first_place step.taken)) step.inner.seps.items passed.inner.wide));
      kids_more = omega (arith, ap (λ (l : List ℕ). length l) m.kids_are, passed.inner.more, less);
      place = omega (arith, m.taken_is, low, less);
      room_up = subst (λ w. suc (length j.inner.seps.items) * (w + 4) ≤ 1017) (sym m.width_is) (subst (λ n. n * (h.width + 4) ≤ 1017) less passed.inner.room);
      passed = subst (λ (t : ℕ × List PathStep). ArePassed t.0 count t.1) (λ i. (sym m.width_is i, sym m.path_is i)) holds.passed;
    }

    by_place : (step.taken ≡ 0) ⊎ ((k : ℕ) × (suc k ≡ step.taken)) → LeafJointHolds count j
    by_place (inl e) =
        let r = m.right e in
        by_both h.leaf.entries.items mate.entries.items
        (both_leaves h.width h.leaf.entries.items mate.entries.items j.whole.entries.items (omega (arith, holds.wide_is.low)) holds.wide leaf.wide (omega (arith, leaf.holds.some)) holds.room leaf.holds.room r.3)
        (omega (arith, r.0, holds.near)) (omega (arith, r.1, near, ap (λ n. get_or step.inner.kids.items n 0) (ap mate_place e)))
    by_place (inr e) =
        let r = m.left e.0 e.1 in
        by_both mate.entries.items h.leaf.entries.items
        (both_leaves h.width mate.entries.items h.leaf.entries.items j.whole.entries.items (omega (arith, holds.wide_is.low)) leaf.wide holds.wide (omega (arith, leaf.holds.some)) leaf.holds.room holds.room r.3)
        (omega (arith, r.0, near, ap (λ n. get_or step.inner.kids.items n 0) (ap mate_place (sym e.1)))) (omega (arith, r.1, holds.near))

-- and those of one that an entry left
pub less_rising : (width count : ℕ) (look : ℕ → Option (List ℕ)) (root free : ℕ) (ss : List Step) (n next : ℕ) (old new xs : List (List ℕ)) → IsLessLeaf width count look root free ss n next old new xs → AreInByteOrder xs → AreInByteOrder new
less_rising width count look root free ss n next old new xs h sorted =
    let after = entries_of h.rest in
    let all : xs ≡ entries_of h.ahead ++ (new ++ after) = sym h.entries ∙ entries_append h.ahead ((n, new) ∷ h.rest) in
    rises_first new after (rises_second (entries_of h.ahead) (new ++ after) (subst AreInByteOrder all sorted))
