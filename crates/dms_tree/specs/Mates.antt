-- An inner block that lacks a separator is joined in memory with its neighbour.
use Rattle.std.proofs.Common.{◌≡◌, ℕ, zero, suc, ◌+◌, ◌*◌, ◌/◌, ◌-◌, ◌^◌, ◌≤◌, ◌<◌, ◌⊎◌, inl, inr, List, [], ◌∷◌, ◌++◌, Some, refl, sym, ap, subst, ◌∙◌, length, take, drop, slice_get, get_or, length-append, append_assoc, arith}
use Rattle.std.proofs.Math.Nat as nat
use Rattle.dms_chain.specs.Linked.{numbers, times}
use Rattle.dms_chain.specs.LinkedLaws.{numbers_times, times_append, times_other, times_own}
use Rattle.dms_chain.specs.ListIn.{Leaf, Spare}
use Rattle.dms_chain.specs.Seen.{IsListWidth}
use Rattle.dms_chain.specs.SpellLaws.{AllWide}
use Rattle.std.specs.declared.option.Option.{Option}
use Rattle.dms_chain.specs.Parts.{wide_both, wide_drop, wide_take}
use Rattle.dms_tree.specs.declared.node.InnerBlock.{InnerBlock}
use Rattle.dms_tree.specs.declared.raising.PathStep.{PathStep}
use Rattle.dms_tree.specs.declared.removing.Gap.{Gap}
use Rattle.dms_tree.specs.declared.removing.Joint.{Joint}
use Rattle.dms_tree.specs.Gaps.{IsPair, pair_left, pair_right}
use Rattle.dms_tree.specs.Joins.{IsGap, turn_to}
use Rattle.dms_tree.specs.Levels.{Hangs, Inner, inner_numbers, top_numbers}
use Rattle.dms_tree.specs.Mends.{IsJointUp, JointHolds, joint_step}
use Rattle.dms_tree.specs.OpenMoves.{top_is}
use Rattle.dms_tree.specs.OpenTree.{IsOpenTree, tree_times}
use Rattle.dms_tree.specs.Paths.{IsPath, LastStep, Step, path_last}
use Rattle.dms_tree.specs.Reached.{wide_at}
use Rattle.dms_tree.specs.Steps.{numbers_in}
use Rattle.dms_tree.specs.TreeBlocks.{inner_half, inner_in}
use Rattle.dms_tree.specs.TreeIn.{says}
use Rattle.dms_tree.specs.TreeSpells.{IsInner}
use Rattle.dms_tree.specs.Ups.{IsPassed, step_of, steps_of}

-- a block that has another one above it isn't the root
below_top : (width count : ℕ) (look : ℕ → Option (List ℕ)) (root free : ℕ) (over : List (List Inner)) (level : List Inner) (lower : List (List Inner)) (ls : List Leaf) (fs : List Spare) (holes loose : List ℕ) → IsOpenTree width count look root free (over ++ level ∷ lower) ls fs holes loose → 0 < length over → (root ≡ 0 → ⊥) → times root (numbers level) ≡ 0
below_top width count look root free [] level lower ls fs holes loose o more some = absurd (omega (arith, more))
below_top width count look root free (v ∷ over) level lower ls fs holes loose o more some =
    omega (
      arith,
      o.once root,
      tree_times root (v ∷ (over ++ level ∷ lower)) ls fs,
      times_append root (numbers v) (inner_numbers (over ++ level ∷ lower)),
      ap (times root) (numbers_in over (level ∷ lower)),
      times_append root (inner_numbers over) (numbers level ++ inner_numbers lower),
      times_append root (numbers level) (inner_numbers lower),
      ap (times root) (o.hangs.0 ∙ top_is root some),
      times_own root,
    )

pub over_some : (ss : List Step) (s : Step) (over : List (List Inner)) (root next n : ℕ) → IsPath (ss ++ s ∷ []) over 0 root next n → 0 < length over
over_some ss s over root next n path = let last = path_last ss s over 0 root next n path in omega (arith, ap (λ (l : List (List Inner)). length l) last.is, length-append last.over (last.level ∷ []))

pub gap_lack : (width count : ℕ) (look : ℕ → Option (List ℕ)) (root free : ℕ) (ss : List Step) (s : Step) (n : ℕ) (kids : List ℕ) (seps : List (List ℕ)) (holes loose : List ℕ) (xs : List (List ℕ)) → IsGap width count look root free (ss ++ s ∷ []) n kids seps holes loose xs → inner_half width ≤ suc (length seps)
gap_lack width count look root free ss s n kids seps holes loose xs h = by_root h.lack
  where
    by_root : (n ≡ root) ⊎ (inner_half width ≤ suc (length seps)) → inner_half width ≤ suc (length seps)
    by_root (inl e) = absurd (omega (arith, below_top width count look root free h.over (h.ups ++ (n, (kids, seps)) ∷ h.downs) h.lower h.leaves h.spares holes loose h.opened (over_some ss s h.over root (length h.ups) n h.path) h.some, numbers_times root h.ups ((n, (kids, seps)) ∷ h.downs), times_own root, ap (λ k. times root (k ∷ [])) e))
    by_root (inr le) = le

-- the separator back in its place
again : (seps : List (List ℕ)) (k : ℕ) (sep : List ℕ) → k < length seps → sep ≡ get_or seps k sep → take k (take k seps ++ drop (suc k) seps) ++ sep ∷ drop k (take k seps ++ drop (suc k) seps) ≡ seps
again [] k sep low is = absurd (omega (arith, low))
again (x ∷ seps) zero sep low is = ap (λ (s : List ℕ). s ∷ seps) is
again (x ∷ seps) (suc k) sep low is = ap (λ (l : List (List ℕ)). x ∷ l) (again seps k sep (omega (arith, low)) is)

pub with_sep : (seps seps' : List (List ℕ)) (k : ℕ) (sep : List ℕ) → k < length seps → sep ≡ get_or seps k sep → seps' ≡ take k seps ++ drop (suc k) seps → take k seps' ++ sep ∷ drop k seps' ≡ seps
with_sep seps seps' k sep low is less = (λ i. take k (less i) ++ sep ∷ drop k (less i)) ∙ again seps k sep low is

pair_step : (width count : ℕ) (look : ℕ → Option (List ℕ)) (root free : ℕ) (ss : List Step) (s s' : Step) (c c' : ℕ) (low : List ℕ) (a : List (List ℕ)) (f f' : ℕ) (high : List ℕ) (b : List (List ℕ)) (holes : List ℕ) (xs : List (List ℕ)) → s ≡ s' → c ≡ c' → f ≡ f' → IsPair width count look root free ss s c low a f high b holes [] xs → IsPair width count look root free ss s' c' low a f' high b holes [] xs
pair_step width count look root free ss s s' c c' low a f f' high b holes xs e1 e2 e3 p = subst (λ (t : Step × (ℕ × ℕ)). IsPair width count look root free ss t.0 t.1.0 low a t.1.1 high b holes [] xs) (λ i. (e1 i, (e2 i, e3 i))) p

-- a block and the one behind it
pub joint_right : (count : ℕ) (bs : List (List ℕ)) (h : Gap) (step : PathStep) (mate : InnerBlock) (j : Joint) (sep : List ℕ) (xs : List (List ℕ)) → suc step.taken < length step.inner.kids.items → step.taken < length step.inner.seps.items → sep ≡ get_or step.inner.seps.items step.taken sep
    → j.width ≡ h.width → j.root ≡ h.root → j.free ≡ h.free → j.path.items ≡ h.path.items → j.number ≡ step.number → j.inner.kids.items ≡ step.inner.kids.items → j.inner.seps.items ≡ take step.taken step.inner.seps.items ++ drop (suc step.taken) step.inner.seps.items → j.taken ≡ step.taken
    → j.first ≡ h.number → j.second ≡ get_or step.inner.kids.items (suc step.taken) 0 → j.whole.kids.items ≡ h.inner.kids.items ++ mate.kids.items → j.whole.seps.items ≡ h.inner.seps.items ++ sep ∷ mate.seps.items
    → IsGap h.width count (slice_get bs) h.root h.free (steps_of h.path.items ++ step_of step ∷ []) h.number h.inner.kids.items h.inner.seps.items (h.number ∷ []) [] xs → says (inner_in h.width) (slice_get bs (get_or step.inner.kids.items (suc step.taken) 0)) ≡ Some (mate.kids.items, mate.seps.items)
    → IsJointUp count bs j xs
joint_right count bs h step mate j sep xs low fit at e1 e2 e3 e4 e5 e6 e7 e8 e9 e10 e11 e12 up said =
    let s = step_of step in
    let k = step.taken in
    let pair = pair_right h.width count (slice_get bs) h.root h.free (steps_of h.path.items) s h.number h.inner.kids.items h.inner.seps.items [] xs mate.kids.items mate.seps.items up low said in
    let half = gap_lack h.width count (slice_get bs) h.root h.free (steps_of h.path.items) s h.number h.inner.kids.items h.inner.seps.items (h.number ∷ []) [] xs up in
    let seps : take j.taken j.inner.seps.items ++ sep ∷ drop j.taken j.inner.seps.items ≡ s.seps = (λ i. take (e8 i) j.inner.seps.items ++ sep ∷ drop (e8 i) j.inner.seps.items) ∙ with_sep step.inner.seps.items j.inner.seps.items k sep fit at e7 in
    let same : s ≡ joint_step j sep = λ i. record { number = sym e5 i; kids = sym e6 i; seps = sym seps i; taken = sym e8 i } in
    let moved = pair_step h.width count (slice_get bs) h.root h.free (steps_of h.path.items) s (joint_step j sep) h.number j.first h.inner.kids.items h.inner.seps.items (get_or step.inner.kids.items (suc k) 0) j.second mate.kids.items mate.seps.items (h.number ∷ []) xs same (sym e9) (sym e10) pair in
    record {
      sep = sep;
      low = h.inner.kids.items;
      high = mate.kids.items;
      a = h.inner.seps.items;
      b = mate.seps.items;
      holes = h.number ∷ [];
      pair = subst (λ (t : ℕ × (ℕ × (ℕ × List PathStep))). IsPair t.0 count (slice_get bs) t.1.0 t.1.1.0 (steps_of t.1.1.1) (joint_step j sep) j.first h.inner.kids.items h.inner.seps.items j.second mate.kids.items mate.seps.items (h.number ∷ []) [] xs) (λ i. (sym e1 i, (sym e2 i, (sym e3 i, sym e4 i)))) moved;
      kids_is = e11;
      seps_is = e12;
      only = λ n off away. times_other n h.number (λ e. off (sym (e9 ∙ e)));
      half = subst (λ w. inner_half w ≤ length j.whole.seps.items) (sym e1) (omega (arith, half, ap (λ (l : List (List ℕ)). length l) e12, length-append h.inner.seps.items (sep ∷ mate.seps.items)));
      first_is = e9 ∙ (path_last (steps_of h.path.items) s up.over 0 h.root (length up.ups) h.number up.path).step.below_is ∙ sym (λ i. get_or (e6 i) (e8 i) 0);
      second_is = e10 ∙ sym (λ i. get_or (e6 i) (suc (e8 i)) 0);
    }

-- and the one before it
pub joint_left : (count : ℕ) (bs : List (List ℕ)) (h : Gap) (step : PathStep) (k : ℕ) (mate : InnerBlock) (j : Joint) (sep : List ℕ) (xs : List (List ℕ)) → suc k ≡ step.taken → k < length step.inner.seps.items → sep ≡ get_or step.inner.seps.items k sep
    → j.width ≡ h.width → j.root ≡ h.root → j.free ≡ h.free → j.path.items ≡ h.path.items → j.number ≡ step.number → j.inner.kids.items ≡ step.inner.kids.items → j.inner.seps.items ≡ take k step.inner.seps.items ++ drop (suc k) step.inner.seps.items → j.taken ≡ k
    → j.first ≡ get_or step.inner.kids.items k 0 → j.second ≡ h.number → j.whole.kids.items ≡ mate.kids.items ++ h.inner.kids.items → j.whole.seps.items ≡ mate.seps.items ++ sep ∷ h.inner.seps.items
    → IsGap h.width count (slice_get bs) h.root h.free (steps_of h.path.items ++ step_of step ∷ []) h.number h.inner.kids.items h.inner.seps.items (h.number ∷ []) [] xs → says (inner_in h.width) (slice_get bs (get_or step.inner.kids.items k 0)) ≡ Some (mate.kids.items, mate.seps.items)
    → IsJointUp count bs j xs
joint_left count bs h step k mate j sep xs more fit at e1 e2 e3 e4 e5 e6 e7 e8 e9 e10 e11 e12 up said =
    let s = step_of step in
    let pair = pair_left h.width count (slice_get bs) h.root h.free (steps_of h.path.items) s k h.number h.inner.kids.items h.inner.seps.items [] xs mate.kids.items mate.seps.items up more said in
    let half = gap_lack h.width count (slice_get bs) h.root h.free (steps_of h.path.items) s h.number h.inner.kids.items h.inner.seps.items (h.number ∷ []) [] xs up in
    let seps : take j.taken j.inner.seps.items ++ sep ∷ drop j.taken j.inner.seps.items ≡ s.seps = (λ i. take (e8 i) j.inner.seps.items ++ sep ∷ drop (e8 i) j.inner.seps.items) ∙ with_sep step.inner.seps.items j.inner.seps.items k sep fit at e7 in
    let same : turn_to s k ≡ joint_step j sep = λ i. record { number = sym e5 i; kids = sym e6 i; seps = sym seps i; taken = sym e8 i } in
    let moved = pair_step h.width count (slice_get bs) h.root h.free (steps_of h.path.items) (turn_to s k) (joint_step j sep) (get_or step.inner.kids.items k 0) j.first mate.kids.items mate.seps.items h.number j.second h.inner.kids.items h.inner.seps.items (h.number ∷ []) xs same (sym e9) (sym e10) pair in
    record {
      sep = sep;
      low = mate.kids.items;
      high = h.inner.kids.items;
      a = mate.seps.items;
      b = h.inner.seps.items;
      holes = h.number ∷ [];
      pair = subst (λ (t : ℕ × (ℕ × (ℕ × List PathStep))). IsPair t.0 count (slice_get bs) t.1.0 t.1.1.0 (steps_of t.1.1.1) (joint_step j sep) j.first mate.kids.items mate.seps.items j.second h.inner.kids.items h.inner.seps.items (h.number ∷ []) [] xs) (λ i. (sym e1 i, (sym e2 i, (sym e3 i, sym e4 i)))) moved;
      kids_is = e11;
      seps_is = e12;
      only = λ n off away. times_other n h.number (λ e. away (sym (e10 ∙ e)));
      half = subst (λ w. inner_half w ≤ length j.whole.seps.items) (sym e1) (omega (arith, half, ap (λ (l : List (List ℕ)). length l) e12, length-append mate.seps.items (sep ∷ h.inner.seps.items)));
      first_is = e9 ∙ sym (λ i. get_or (e6 i) (e8 i) 0);
      second_is = e10 ∙ (path_last (steps_of h.path.items) s up.over 0 h.root (length up.ups) h.number up.path).step.below_is ∙ ap (λ n. get_or step.inner.kids.items n 0) (sym more) ∙ sym (λ i. get_or (e6 i) (suc (e8 i)) 0);
    }

-- what holds of a block that isn't written yet, in a file of so many blocks
pub record GapHolds (count : ℕ) (h : Gap) : Type 0 where
  pub wide_is : IsListWidth h.width
  pub near : h.number < count
  pub free_low : h.free < 2 ^ 32
  pub more : length h.inner.kids.items ≡ suc (length h.inner.seps.items)
  pub wide : AllWide h.width h.inner.seps.items
  pub room : length h.inner.seps.items * (h.width + 4) ≤ 1017

-- the neighbour: the one before, else the one behind
abbrev pub mate_place : ℕ → ℕ
mate_place zero = 1
mate_place (suc k) = k

abbrev pub first_place : ℕ → ℕ
first_place zero = 0
first_place (suc k) = k

-- Both in memory, the block that lacks a separator and its neighbour.
pub record IsMated (h : Gap) (step : PathStep) (mate : InnerBlock) (j : Joint) : Type 0 where
  pub sep : List ℕ
  pub at : sep ≡ get_or step.inner.seps.items (first_place step.taken) sep
  pub width_is : j.width ≡ h.width
  pub root_is : j.root ≡ h.root
  pub free_is : j.free ≡ h.free
  pub path_is : j.path.items ≡ h.path.items
  pub number_is : j.number ≡ step.number
  pub kids_are : j.inner.kids.items ≡ step.inner.kids.items
  pub seps_are : j.inner.seps.items ≡ take (first_place step.taken) step.inner.seps.items ++ drop (suc (first_place step.taken)) step.inner.seps.items
  pub taken_is : j.taken ≡ first_place step.taken
  pub right : step.taken ≡ 0 → (j.first ≡ h.number) × (j.second ≡ get_or step.inner.kids.items 1 0) × (j.whole.kids.items ≡ h.inner.kids.items ++ mate.kids.items) × (j.whole.seps.items ≡ h.inner.seps.items ++ sep ∷ mate.seps.items)
  pub left : (k : ℕ) → suc k ≡ step.taken → (j.first ≡ get_or step.inner.kids.items k 0) × (j.second ≡ h.number) × (j.whole.kids.items ≡ mate.kids.items ++ h.inner.kids.items) × (j.whole.seps.items ≡ mate.seps.items ++ sep ∷ h.inner.seps.items)

pub place_is : (taken : ℕ) → (taken ≡ 0) ⊎ ((k : ℕ) × (suc k ≡ taken))
place_is zero = inl refl
place_is (suc k) = inr (k, refl)

pub mated_up : (count : ℕ) (bs : List (List ℕ)) (h : Gap) (step : PathStep) (mate : InnerBlock) (j : Joint) (xs : List (List ℕ)) → IsMated h step mate j → IsPassed h.width count step
    → IsGap h.width count (slice_get bs) h.root h.free (steps_of h.path.items ++ step_of step ∷ []) h.number h.inner.kids.items h.inner.seps.items (h.number ∷ []) [] xs → says (inner_in h.width) (slice_get bs (get_or step.inner.kids.items (mate_place step.taken) 0)) ≡ Some (mate.kids.items, mate.seps.items)
    → IsJointUp count bs j xs
mated_up count bs h step mate j xs m passed up said = by_place (place_is step.taken)
  where
    by_place : (step.taken ≡ 0) ⊎ ((k : ℕ) × (suc k ≡ step.taken)) → IsJointUp count bs j xs
    by_place (inl e) =
        let r = m.right e in
        let p : first_place step.taken ≡ step.taken = ap first_place e ∙ sym e in
        let q : mate_place step.taken ≡ suc step.taken = ap mate_place e ∙ ap suc (sym e) in
        joint_right count bs h step mate j m.sep xs (omega (arith, e, passed.inner.more, passed.inner.some)) (omega (arith, e, passed.inner.some)) (m.at ∙ ap (λ n. get_or step.inner.seps.items n m.sep) p)
        m.width_is m.root_is m.free_is m.path_is m.number_is m.kids_are (m.seps_are ∙ (λ i. take (p i) step.inner.seps.items ++ drop (suc (p i)) step.inner.seps.items)) (m.taken_is ∙ p) r.0 (r.1 ∙ ap (λ n. get_or step.inner.kids.items n 0) (ap suc (sym e))) r.2 r.3 up
        (ap (λ n. says (inner_in h.width) (slice_get bs (get_or step.inner.kids.items n 0))) (sym q) ∙ said)
    by_place (inr e) =
        let k = e.0 in
        let r = m.left k e.1 in
        let p : first_place step.taken ≡ k = ap first_place (sym e.1) in
        let q : mate_place step.taken ≡ k = ap mate_place (sym e.1) in
        joint_left count bs h step k mate j m.sep xs e.1 (omega (arith, e.1, passed.fit)) (m.at ∙ ap (λ n. get_or step.inner.seps.items n m.sep) p)
        m.width_is m.root_is m.free_is m.path_is m.number_is m.kids_are (m.seps_are ∙ (λ i. take (p i) step.inner.seps.items ++ drop (suc (p i)) step.inner.seps.items)) (m.taken_is ∙ p) r.0 r.1 r.2 r.3 up
        (ap (λ n. says (inner_in h.width) (slice_get bs (get_or step.inner.kids.items n 0))) (sym q) ∙ said)

-- what holds of both
pub most_of : (k n : ℕ) → 0 < k → n * k ≤ 1017 → n ≤ 1017 / k
most_of k n some room = (nat.le-div_iff_mul-le {k = k} {x = n} {y = 1017} some).1 room

pub less_by : (seps : List (List ℕ)) (k : ℕ) → k < length seps → length seps ≡ suc (length (take k seps ++ drop (suc k) seps))
less_by [] k low = absurd (omega (arith, low))
less_by (x ∷ seps) zero low = refl
less_by (x ∷ seps) (suc k) low = ap suc (less_by seps k (omega (arith, low)))

pub low_place : (count width : ℕ) (step : PathStep) → IsPassed width count step → first_place step.taken < length step.inner.seps.items
low_place count width step passed = by (place_is step.taken)
  where
    by : (step.taken ≡ 0) ⊎ ((k : ℕ) × (suc k ≡ step.taken)) → first_place step.taken < length step.inner.seps.items
    by (inl e) = omega (arith, ap first_place e, passed.inner.some)
    by (inr e) = omega (arith, ap first_place (sym e.1), e.1, passed.fit)

record BothHold (w : ℕ) (k1 k2 ks : List ℕ) (a : List (List ℕ)) (sep : List ℕ) (b ts : List (List ℕ)) : Type 0 where
  pub more : length ks ≡ suc (length ts)
  pub some : 0 < length ts
  pub wide : AllWide w ts
  pub most : length ts ≤ 2 * (1017 / (w + 4)) + 1

both_hold : (w : ℕ) (k1 k2 ks : List ℕ) (a : List (List ℕ)) (sep : List ℕ) (b ts : List (List ℕ)) → length k1 ≡ suc (length a) → length k2 ≡ suc (length b) → AllWide w a → AllWide w b → length sep ≡ w → length a * (w + 4) ≤ 1017 → length b * (w + 4) ≤ 1017 → ks ≡ k1 ++ k2 → ts ≡ a ++ sep ∷ b → BothHold w k1 k2 ks a sep b ts
both_hold w k1 k2 ks a sep b ts more more' wide wide' sep_wide room room' ks_is ts_is =
    let size : length ts ≡ suc (length a + length b) = omega (arith, ap (λ (l : List (List ℕ)). length l) ts_is, length-append a (sep ∷ b)) in
    record {
      more = omega (arith, ap (λ (l : List ℕ). length l) ks_is, length-append k1 k2, more, more', size);
      some = omega (arith, size);
      wide = subst (AllWide w) (sym ts_is) (wide_both w a (sep ∷ b) wide (sep_wide, wide'));
      most = omega (arith, size, most_of (w + 4) (length a) (omega arith) room, most_of (w + 4) (length b) (omega arith) room');
    }

pub mated_holds : (count : ℕ) (h : Gap) (step : PathStep) (mate : InnerBlock) (j : Joint) → IsMated h step mate j → GapHolds count h → IsPassed h.width count step → IsInner h.width mate.kids.items mate.seps.items → get_or step.inner.kids.items (mate_place step.taken) 0 < count → JointHolds count j
mated_holds count h step mate j m holds passed inner near = by_place (place_is step.taken)
  where
    low : first_place step.taken < length step.inner.seps.items
    low = low_place count h.width step passed

    by_both : (k1 k2 : List ℕ) (a b : List (List ℕ)) → BothHold h.width k1 k2 j.whole.kids.items a m.sep b j.whole.seps.items → j.first < count → j.second < count → JointHolds count j
    by_both k1 k2 a b s first second = record {
      wide_is = subst IsListWidth (sym m.width_is) holds.wide_is;
      first_near = first;
      second_near = second;
      free_low = subst (λ n. n < 2 ^ 32) (sym m.free_is) holds.free_low;
      more = s.more;
      some = s.some;
      wide = subst (λ w. AllWide w j.whole.seps.items) (sym m.width_is) s.wide;
      most = subst (λ w. length j.whole.seps.items ≤ 2 * (1017 / (w + 4)) + 1) (sym m.width_is) s.most;
      wide_up = subst (λ (t : ℕ × List (List ℕ)). AllWide t.0 t.1) (λ i. (sym m.width_is i, sym m.seps_are i)) (wide_both h.width (take (first_place step.taken) step.inner.seps.items) (drop (suc (first_place step.taken)) step.inner.seps.items)
          (wide_take h.width (first_place step.taken) step.inner.seps.items passed.inner.wide) (wide_drop h.width (suc (first_place step.taken)) step.inner.seps.items passed.inner.wide));
      kids_more = omega (arith, ap (λ (l : List ℕ). length l) m.kids_are, passed.inner.more, less_by step.inner.seps.items (first_place step.taken) low, ap (λ (l : List (List ℕ)). length l) m.seps_are);
      place = omega (arith, m.taken_is, low, less_by step.inner.seps.items (first_place step.taken) low, ap (λ (l : List (List ℕ)). length l) m.seps_are);
    }

    sep_wide : length m.sep ≡ h.width
    sep_wide = wide_at h.width step.inner.seps.items (first_place step.taken) m.sep passed.inner.wide low m.at

    by_place : (step.taken ≡ 0) ⊎ ((k : ℕ) × (suc k ≡ step.taken)) → JointHolds count j
    by_place (inl e) =
        let r = m.right e in
        by_both h.inner.kids.items mate.kids.items h.inner.seps.items mate.seps.items
        (both_hold h.width h.inner.kids.items mate.kids.items j.whole.kids.items h.inner.seps.items m.sep mate.seps.items j.whole.seps.items holds.more inner.more holds.wide inner.wide sep_wide holds.room inner.room r.2 r.3)
        (omega (arith, r.0, holds.near)) (omega (arith, r.1, near, ap (λ n. get_or step.inner.kids.items n 0) (ap mate_place e)))
    by_place (inr e) =
        let r = m.left e.0 e.1 in
        by_both mate.kids.items h.inner.kids.items mate.seps.items h.inner.seps.items
        (both_hold h.width mate.kids.items h.inner.kids.items j.whole.kids.items mate.seps.items m.sep h.inner.seps.items j.whole.seps.items inner.more holds.more inner.wide holds.wide sep_wide inner.room holds.room r.2 r.3)
        (omega (arith, r.0, near, ap (λ n. get_or step.inner.kids.items n 0) (ap mate_place (sym e.1)))) (omega (arith, r.1, holds.near))
