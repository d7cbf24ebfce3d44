-- What two inner blocks that become one, or are shared anew, leave.
use Rattle.std.proofs.Common.{◌≡◌, ◌≢◌, ℕ, zero, suc, ◌+◌, ◌*◌, ◌/◌, ◌-◌, ◌^◌, ◌≤◌, ◌<◌, ◌⊎◌, inl, inr, max, IsTrue, List, [], ◌∷◌, ◌++◌, Bool, true, false, Some, refl, sym, ap, subst, ◌∙◌, length, take, drop, slice_get, get_or, length-append, append_assoc, arith}
use Rattle.std.specs.declared.option.Option.{Option}
use Rattle.std.proofs.Math.Nat as nat
use Rattle.std.proofs.lemmas.Bool.{cases_lt}
use Rattle.std.proofs.lemmas.Bool.Decides.{nat_tests}
use Rattle.std.proofs.lemmas.List.{take-append-drop, length-take-le}
use Rattle.std.proofs.Math.Seq.{take-append_seam, drop-append_seam}
use Rattle.dms_block.specs.declared.blocks.Blocks.{Ghosts}
use Rattle.dms_block.specs.declared.overlay.Overlay.{Overlay}
use Rattle.dms_block.specs.Content.{Content, put_block, raise_count, with_block}
use Rattle.dms_block.specs.ContentLaws.{in_file, in_others, laid_length}
use Rattle.dms_block.specs.View.{overlay_content, seen_counts, under}
use Rattle.dms_chain.specs.Laid.{laid_look}
use Rattle.dms_chain.specs.Linked.{numbers, put, times}
use Rattle.dms_chain.specs.LinkedLaws.{times_append, times_own}
use Rattle.dms_chain.specs.ListBlocks.{free_bytes}
use Rattle.dms_chain.specs.Parts.{wide_both, wide_drop, wide_first, wide_second, wide_take}
use Rattle.dms_chain.specs.Seen.{IsListWidth}
use Rattle.dms_chain.specs.SpellLaws.{AllWide, free_again}
use Rattle.dms_tree.specs.declared.raising.PathStep.{PathStep}
use Rattle.dms_tree.specs.declared.removing.Gap.{Gap}
use Rattle.dms_tree.specs.declared.removing.Joint.{Joint}
use Rattle.dms_tree.specs.Fives.{four_at_least}
use Rattle.dms_tree.specs.Gaps.{IsPair, gap_give, pair_join, pair_share}
use Rattle.dms_tree.specs.Joins.{IsGap}
use Rattle.dms_tree.specs.LaceLaws.{kids_append}
use Rattle.dms_tree.specs.Levels.{Hangs, Inner, inner_numbers, kids_of}
use Rattle.dms_tree.specs.OpenTree.{tree_times}
use Rattle.dms_tree.specs.Paths.{Step}
use Rattle.dms_tree.specs.Settling.{raised_at, raised_off}
use Rattle.dms_tree.specs.TreeBlocks.{inner_bytes, inner_half, inner_in}
use Rattle.dms_tree.specs.TreeSpells.{AreNumbers, IsInner, inner_again}
use Rattle.dms_tree.specs.TwoWrites.{two_counts, two_long, two_look, two_laid, two_others, two_still}
use Rattle.dms_tree.specs.Ups.{AreHalves, kids_first, kids_numbers, more_times, steps_of}

-- what holds of the two in memory, in a file of so many blocks
pub record JointHolds (count : ℕ) (j : Joint) : Type 0 where
  pub wide_is : IsListWidth j.width
  pub first_near : j.first < count
  pub second_near : j.second < count
  pub free_low : j.free < 2 ^ 32
  pub more : length j.whole.kids.items ≡ suc (length j.whole.seps.items)
  pub some : 0 < length j.whole.seps.items
  pub wide : AllWide j.width j.whole.seps.items
  pub most : length j.whole.seps.items ≤ 2 * (1017 / (j.width + 4)) + 1
  pub wide_up : AllWide j.width j.inner.seps.items
  pub kids_more : length j.inner.kids.items ≡ suc (suc (length j.inner.seps.items))
  pub place : j.taken ≤ length j.inner.seps.items

-- the block above, with the separator between the two
abbrev pub joint_step : Joint → List ℕ → Step
joint_step j sep = record { number = j.number; kids = j.inner.kids.items; seps = take j.taken j.inner.seps.items ++ sep ∷ drop j.taken j.inner.seps.items; taken = j.taken }

-- they stand in an open tree
pub record IsJointUp (count : ℕ) (bs : List (List ℕ)) (j : Joint) (xs : List (List ℕ)) : Type 0 where
  pub sep : List ℕ
  pub low : List ℕ
  pub high : List ℕ
  pub a : List (List ℕ)
  pub b : List (List ℕ)
  pub holes : List ℕ
  pub pair : IsPair j.width count (slice_get bs) j.root j.free (steps_of j.path.items) (joint_step j sep) j.first low a j.second high b holes [] xs
  pub kids_is : j.whole.kids.items ≡ low ++ high
  pub seps_is : j.whole.seps.items ≡ a ++ sep ∷ b
  pub only : (k : ℕ) → (k ≡ j.first → ⊥) → (k ≡ j.second → ⊥) → times k holes ≡ 0
  pub half : inner_half j.width ≤ length j.whole.seps.items
  pub first_is : j.first ≡ get_or j.inner.kids.items j.taken 0
  pub second_is : j.second ≡ get_or j.inner.kids.items (suc j.taken) 0

abbrev pub IsGapUp : ℕ → List (List ℕ) → Gap → List (List ℕ) → Type 0
IsGapUp count bs h xs = IsGap h.width count (slice_get bs) h.root h.free (steps_of h.path.items) h.number h.inner.kids.items h.inner.seps.items (h.number ∷ []) [] xs

-- the separators around the place
module _ (seps : List (List ℕ)) (k : ℕ) (sep : List ℕ) (low : k ≤ length seps) where
  whole : List (List ℕ)
  whole = take k seps ++ sep ∷ drop k seps

  fit : length (take k seps) ≡ k
  fit = length-take-le k seps low

  pub before_at : take k (take k seps ++ sep ∷ drop k seps) ≡ take k seps
  before_at = subst (λ n. take n (take k seps ++ sep ∷ drop k seps) ≡ take k seps) fit (take-append_seam (take k seps) (sep ∷ drop k seps))

  pub after_at : drop (suc k) (take k seps ++ sep ∷ drop k seps) ≡ drop k seps
  after_at = step k (take k seps) (drop k seps) fit
    where
      step : (k : ℕ) (xs ys : List (List ℕ)) → length xs ≡ k → drop (suc k) (xs ++ sep ∷ ys) ≡ ys
      step zero [] ys is = refl
      step zero (x ∷ xs) ys is = absurd (omega (arith, is))
      step (suc k) [] ys is = absurd (omega (arith, is))
      step (suc k) (x ∷ xs) ys is = step k xs ys (omega (arith, is))

  pub sep_at : get_or (take k seps ++ sep ∷ drop k seps) k [] ≡ sep
  sep_at = step k (take k seps) (drop k seps) fit
    where
      step : (k : ℕ) (xs ys : List (List ℕ)) → length xs ≡ k → get_or (xs ++ sep ∷ ys) k [] ≡ sep
      step zero [] ys is = refl
      step zero (x ∷ xs) ys is = absurd (omega (arith, is))
      step (suc k) [] ys is = absurd (omega (arith, is))
      step (suc k) (x ∷ xs) ys is = step k xs ys (omega (arith, is))

  pub size_at : k < length (take k seps ++ sep ∷ drop k seps)
  size_at = omega (arith, fit, length-append (take k seps) (sep ∷ drop k seps))

-- and the children
kids_less_by : (kids : List ℕ) (k : ℕ) → suc k < length kids → take (suc k) kids ++ drop (suc (suc k)) kids ≡ take k kids ++ get_or kids k 0 ∷ drop (suc (suc k)) kids
kids_less_by [] k low = absurd (omega (arith, low))
kids_less_by (n ∷ kids) zero low = refl
kids_less_by (n ∷ kids) (suc k) low = ap (λ (l : List ℕ). n ∷ l) (kids_less_by kids k (omega (arith, low)))

pub kids_less : (kids : List ℕ) (k : ℕ) → suc k < length kids → take (k + 1) kids ++ drop (k + 1 + 1) kids ≡ take k kids ++ get_or kids k 0 ∷ drop (suc (suc k)) kids
kids_less kids k low =
    let one : k + 1 ≡ suc k = omega arith in
    let two : k + 1 + 1 ≡ suc (suc k) = omega arith in
    (λ i. take (one i) kids ++ drop (two i) kids) ∙ kids_less_by kids k low

pub kids_same : (kids : List ℕ) (k f : ℕ) → suc k < length kids → f ≡ get_or kids (suc k) 0 → kids ≡ take k kids ++ get_or kids k 0 ∷ f ∷ drop (suc (suc k)) kids
kids_same [] k f low is = absurd (omega (arith, low))
kids_same (n ∷ []) k f low is = absurd (omega (arith, low))
kids_same (n ∷ m ∷ kids) zero f low is = ap (λ (x : ℕ). n ∷ x ∷ kids) (sym is)
kids_same (n ∷ m ∷ kids) (suc k) f low is = ap (λ (l : List ℕ). n ∷ l) (kids_same (m ∷ kids) k f (omega (arith, low)) is)

pub kids_in : (over : List (List Inner)) (u : List Inner) (lower : List (List Inner)) (ns leaves : List ℕ) → Hangs ns (over ++ u ∷ lower) leaves → (k : ℕ) → times k (kids_of u) ≤ times k (inner_numbers (over ++ u ∷ lower)) + times k leaves
kids_in [] u [] ns leaves hangs k = omega (arith, ap (times k) hangs.1)
kids_in [] u (v ∷ lower) ns leaves hangs k = omega (arith, ap (times k) hangs.1.0, times_append k (numbers u) (numbers v ++ inner_numbers lower), times_append k (numbers v) (inner_numbers lower))
kids_in (x ∷ over) u lower ns leaves hangs k = omega (arith, kids_in over u lower (kids_of x) leaves hangs.1 k, times_append k (numbers x) (inner_numbers (over ++ u ∷ lower)))

module _ (width count : ℕ) (look : ℕ → Option (List ℕ)) (root free : ℕ) (ss : List Step) (s : Step) (c : ℕ) (low : List ℕ) (a : List (List ℕ)) (f : ℕ) (high : List ℕ) (b : List (List ℕ)) (holes loose : List ℕ) (xs : List (List ℕ)) (p : IsPair width count look root free ss s c low a f high b holes loose xs) where
  pair_kids : (k : ℕ) → 0 < times k (low ++ high) → k < count
  pair_kids k some =
      let u = p.ahead ++ (c, (low, a)) ∷ (f, (high, b)) ∷ p.rest in
      p.opened.low k (omega (
        arith,
        some,
        times_append k low high,
        kids_in p.over u p.lower _ (numbers p.leaves) p.opened.hangs k,
        ap (times k) (kids_append p.ahead ((c, (low, a)) ∷ (f, (high, b)) ∷ p.rest)),
        times_append k (kids_of p.ahead) (low ++ (high ++ kids_of p.rest)),
        times_append k low (high ++ kids_of p.rest),
        times_append k high (kids_of p.rest),
        tree_times k (p.over ++ u ∷ p.lower) p.leaves p.spares,
      ))

-- equal words for the same
pub gap_as : (width count : ℕ) (look look' : ℕ → Option (List ℕ)) (root free : ℕ) (ss : List Step) (n : ℕ) (kids kids' : List ℕ) (seps seps' : List (List ℕ)) (holes : List ℕ) (xs : List (List ℕ)) → look ≡ look' → kids ≡ kids' → seps ≡ seps' → IsGap width count look root free ss n kids seps holes [] xs → IsGap width count look' root free ss n kids' seps' holes [] xs
gap_as width count look look' root free ss n kids kids' seps seps' holes xs a b c h =
    subst (λ (t : (ℕ → Option (List ℕ)) × (List ℕ × List (List ℕ))). IsGap width count t.0 root free ss n t.1.0 t.1.1 holes [] xs) (λ i. (a i, (b i, c i))) h

-- one block of both
pub joint_join : (bs : List (List ℕ)) (j : Joint) (xs : List (List ℕ)) → JointHolds (length bs) j → length bs ≤ 2097152 → length j.whole.seps.items * (j.width + 4) ≤ 1017 → IsJointUp (length bs) bs j xs
    → IsGap j.width (length bs) (slice_get (put_block j.second (free_bytes j.free) (put_block j.first (inner_bytes j.whole.kids.items j.whole.seps.items) bs))) j.root j.second (steps_of j.path.items) j.number
    (take (j.taken + 1) j.inner.kids.items ++ drop (j.taken + 1 + 1) j.inner.kids.items) j.inner.seps.items (j.number ∷ []) [] xs
joint_join bs j xs holds most room up =
    let w = j.width in
    let kids = j.whole.kids.items in
    let seps = j.whole.seps.items in
    let k = j.taken in
    let ks = j.inner.kids.items in
    let ts = j.inner.seps.items in
    let s = joint_step j up.sep in
    let next : suc k < length ks = omega (arith, holds.kids_more, holds.place) in
    let numbers_are = kids_numbers kids (length bs) most (λ n some. pair_kids w (length bs) (slice_get bs) j.root j.free (steps_of j.path.items) s j.first up.low up.a j.second up.high up.b up.holes [] xs up.pair n (omega (arith, some, ap (times n) up.kids_is))) in
    let inner : IsInner w kids seps = record { more = holds.more; some = holds.some; room = room; wide = holds.wide } in
    let reads = inner_again w kids seps inner numbers_are in
    let sep_is = sep_at ts k up.sep holds.place in
    let reads' = reads ∙ (λ i. Some (up.kids_is i, (up.seps_is ∙ ap (λ (l : List ℕ). up.a ++ l ∷ up.b) (sym sep_is)) i)) in
    let half : inner_half w ≤ length (up.a ++ get_or s.seps k [] ∷ up.b) = subst (λ (l : List (List ℕ)). inner_half w ≤ length l) (up.seps_is ∙ ap (λ (l : List ℕ). up.a ++ l ∷ up.b) (sym sep_is)) up.half in
    let one = pair_join w (length bs) (slice_get bs) j.root j.free (steps_of j.path.items) s j.first up.low up.a j.second up.high up.b up.holes [] xs up.pair next (size_at ts k up.sep holds.place) up.only (inner_bytes kids seps) reads' half in
    let two = gap_give w (length bs) (put (slice_get bs) j.first (inner_bytes kids seps)) j.root j.free (steps_of j.path.items) j.number (take k ks ++ j.first ∷ drop (suc (suc k)) ks) (take k s.seps ++ drop (suc k) s.seps) (j.number ∷ []) j.second [] xs (free_bytes j.free) one (free_again j.free holds.free_low) in
    gap_as w (length bs) _ _ j.root j.second (steps_of j.path.items) j.number (take k ks ++ j.first ∷ drop (suc (suc k)) ks) _ (take k s.seps ++ drop (suc k) s.seps) ts (j.number ∷ []) xs
    (sym (two_look bs j.first j.second (inner_bytes kids seps) (free_bytes j.free) holds.first_near holds.second_near))
    (ap (λ (n : ℕ). take k ks ++ n ∷ drop (suc (suc k)) ks) up.first_is ∙ sym (kids_less ks k next))
    ((λ i. before_at ts k up.sep holds.place i ++ after_at ts k up.sep holds.place i) ∙ take-append-drop k ts) two

-- Both together fill more than one block: what the halves hold.
over_most : (k n : ℕ) → 0 < k → 1017 < n * k → 1017 / k < n
over_most k n some many = elim (cases_lt (1017 / k) n) [
  | inl less ↦ less
  | inr past ↦ absurd (omega (arith, many, (nat.le-div_iff_mul-le {k = k} {x = n} {y = 1017} some).0 past))
]

pub record ShareSizes (width a b : ℕ) : Type 0 where
  pub low : inner_half width ≤ a
  pub high : inner_half width ≤ b
  pub some : 0 < a
  pub some' : 0 < b
  pub room : a * (width + 4) ≤ 1017
  pub room' : b * (width + 4) ≤ 1017

pub half_room : (k a m : ℕ) → 0 < k → m ≡ 1017 / k → a ≤ m → a * k ≤ 1017
half_room k a m some is le = (nat.le-div_iff_mul-le {k = k} {x = a} {y = 1017} some).0 (omega (arith, le, is))

pub share_sizes : (width n a b : ℕ) → IsListWidth width → 1017 < n * (width + 4) → n ≤ 2 * (1017 / (width + 4)) + 1 → a ≡ n / 2 → n ≡ a + suc b → ShareSizes width a b
share_sizes width n a b w many few is sum =
    let k = width + 4 in
    let most : 1017 / k < n = over_most k n (omega arith) many in
    let four = four_at_least width w.most in
    let low : inner_half width ≤ a = omega (arith, most, is) in
    let high : inner_half width ≤ b = omega (arith, most, is, sum) in
    record {
      low = low;
      high = high;
      some = omega (arith, four, low);
      some' = omega (arith, four, high);
      room = half_room k a (1017 / k) (omega arith) refl (omega (arith, few, is));
      room' = half_room k b (1017 / k) (omega arith) refl (omega (arith, few, is, sum));
    }

pub record SharedHalves (width : ℕ) (low high : List ℕ) (a b : List (List ℕ)) : Type 0 where
  pub sizes : (inner_half width ≤ length a) × (inner_half width ≤ length b)
  pub low_is : IsInner width low a
  pub high_is : IsInner width high b

pub shared_halves : (count : ℕ) (j : Joint) (low high : List ℕ) (a : List (List ℕ)) (sep : List ℕ) (b : List (List ℕ)) → JointHolds count j → 1017 < length j.whole.seps.items * (j.width + 4) → AreHalves j.whole.kids.items j.whole.seps.items low high a sep b → SharedHalves j.width low high a b
shared_halves count j low high a sep b holds many halves =
    let seps = j.whole.seps.items in
    let size : length seps ≡ length a + suc (length b) = omega (arith, ap (λ (l : List (List ℕ)). length l) halves.seps_is, length-append a (sep ∷ b)) in
    let s = share_sizes j.width (length seps) (length a) (length b) holds.wide_is many holds.most halves.seps_half size in
    let wide = subst (AllWide j.width) halves.seps_is holds.wide in
    record {
      sizes = (s.low, s.high);
      low_is = record { more = halves.kids_half; some = s.some; room = s.room; wide = wide_first j.width a (sep ∷ b) wide };
      high_is = record {
        more = omega (arith, holds.more, ap (λ (l : List ℕ). length l) halves.kids_is, length-append low high, halves.kids_half, size);
        some = s.some';
        room = s.room';
        wide = (wide_second j.width a (sep ∷ b) wide).1;
      };
    }

-- two blocks of both
pub joint_share : (bs : List (List ℕ)) (j : Joint) (xs : List (List ℕ)) (low high : List ℕ) (a : List (List ℕ)) (sep : List ℕ) (b : List (List ℕ)) → JointHolds (length bs) j → length bs ≤ 2097152 → 1017 < length j.whole.seps.items * (j.width + 4) → AreHalves j.whole.kids.items j.whole.seps.items low high a sep b → IsJointUp (length bs) bs j xs
    → IsGap j.width (length bs) (slice_get (put_block j.second (inner_bytes high b) (put_block j.first (inner_bytes low a) bs))) j.root j.free (steps_of j.path.items) j.number
    j.inner.kids.items (take j.taken j.inner.seps.items ++ sep ∷ drop j.taken j.inner.seps.items) (j.number ∷ []) [] xs
joint_share bs j xs low high a sep b holds most many halves up =
    let w = j.width in
    let kids = j.whole.kids.items in
    let k = j.taken in
    let ks = j.inner.kids.items in
    let ts = j.inner.seps.items in
    let s = joint_step j up.sep in
    let next : suc k < length ks = omega (arith, holds.kids_more, holds.place) in
    let each : (n : ℕ) → 0 < times n kids → n < length bs = λ n some. pair_kids w (length bs) (slice_get bs) j.root j.free (steps_of j.path.items) s j.first up.low up.a j.second up.high up.b up.holes [] xs up.pair n (omega (arith, some, ap (times n) up.kids_is)) in
    let numbers_are = kids_first low high kids (length bs) most halves.kids_is each in
    let i = shared_halves (length bs) j low high a sep b holds many halves in
    let sep_is = sep_at ts k up.sep holds.place in
    let one = pair_share w (length bs) (slice_get bs) j.root j.free (steps_of j.path.items) s j.first up.low up.a j.second up.high up.b up.holes [] xs up.pair next (size_at ts k up.sep holds.place) up.only low high a sep b (inner_bytes low a) (inner_bytes high b)
    (sym up.kids_is ∙ halves.kids_is) (ap (λ (l : List ℕ). up.a ++ l ∷ up.b) sep_is ∙ sym up.seps_is ∙ halves.seps_is) (inner_again w low a i.low_is numbers_are.0) (inner_again w high b i.high_is numbers_are.1) i.sizes.0 i.sizes.1 in
    gap_as w (length bs) _ _ j.root j.free (steps_of j.path.items) j.number (take k ks ++ j.first ∷ j.second ∷ drop (suc (suc k)) ks) ks (take k s.seps ++ sep ∷ drop (suc k) s.seps) _ (j.number ∷ []) xs
    (sym (two_look bs j.first j.second (inner_bytes low a) (inner_bytes high b) holds.first_near holds.second_near))
    (ap (λ (n : ℕ). take k ks ++ n ∷ j.second ∷ drop (suc (suc k)) ks) up.first_is ∙ sym (kids_same ks k j.second next up.second_is))
    (λ i. before_at ts k up.sep holds.place i ++ sep ∷ after_at ts k up.sep holds.place i) one

module _ {B : Type 0} {g : Ghosts B} where
  -- what two neighbours held was written, and the block above isn't written yet
  pub record Mends (a b : Overlay B g) (file : ℕ) (j : Joint) (h : Gap) : Type 0 where
    pub up : IsTrue (under a).told → (under a).sound → length (overlay_content a file) ≡ seen_counts a file → (length (overlay_content b file) ≡ seen_counts b file)
        × ((xs : List (List ℕ)) → IsJointUp (seen_counts a file) (overlay_content a file) j xs → IsGapUp (seen_counts a file) (overlay_content b file) h xs)
    pub still : IsTrue (under a).told → (under a).sound → length (overlay_content a file) ≡ seen_counts a file → (k : ℕ) → (k ≡ j.first → ⊥) → (k ≡ j.second → ⊥) → slice_get (overlay_content b file) k ≡ slice_get (overlay_content a file) k
    pub others : IsTrue (under a).told → (under a).sound → (f : ℕ) → f ≢ file → overlay_content b f ≡ overlay_content a f
    pub counts : (f : ℕ) → seen_counts b f ≡ seen_counts a f
    pub width_is : h.width ≡ j.width
    pub root_is : h.root ≡ j.root
    pub path_is : h.path.items ≡ j.path.items
    pub number_is : h.number ≡ j.number
    pub more : length h.inner.kids.items ≡ suc (length h.inner.seps.items)
    pub few : length h.inner.seps.items ≤ suc (length j.inner.seps.items)
    pub wide : AllWide j.width h.inner.seps.items
    pub free_low : h.free < 2 ^ 32

  pub join_mends : (a b d : Overlay B g) (file : ℕ) (j : Joint) (h : Gap) (x y : List ℕ) → b.below ≡ a.below → JointHolds (seen_counts a file) j → seen_counts a file ≤ 2097152 → length j.whole.seps.items * (j.width + 4) ≤ 1017
      → x ≡ inner_bytes j.whole.kids.items j.whole.seps.items → y ≡ free_bytes j.free
      → (IsTrue (under a).told → (under a).sound → overlay_content b ≡ with_block (overlay_content a) file j.first x) → seen_counts b ≡ raise_count (seen_counts a) file j.first
      → (IsTrue (under b).told → (under b).sound → overlay_content d ≡ with_block (overlay_content b) file j.second y) → seen_counts d ≡ raise_count (seen_counts b) file j.second
      → h.width ≡ j.width → h.root ≡ j.root → h.free ≡ j.second → h.path.items ≡ j.path.items → h.number ≡ j.number → h.inner.kids.items ≡ take (j.taken + 1) j.inner.kids.items ++ drop (j.taken + 1 + 1) j.inner.kids.items → h.inner.seps.items ≡ j.inner.seps.items
      → Mends a d file j h
  join_mends a b d file j h x y below holds most room x_is y_is seen counts seen' counts' e1 e2 e3 e4 e5 e6 e7 =
      let ks = j.inner.kids.items in
      let k = j.taken in
      let x' = inner_bytes j.whole.kids.items j.whole.seps.items in
      let y' = free_bytes j.free in
      let next : suc k < length ks = omega (arith, holds.kids_more, holds.place) in
      record {
        up = λ told sound long. (
          two_long a b d file j.first j.second x y x' y' below holds.first_near holds.second_near x_is y_is seen counts seen' counts' told sound long,
          λ xs up.
              let bs = overlay_content a file in
              let laid = two_laid a b d file j.first j.second x y x' y' below holds.first_near holds.second_near x_is y_is seen counts seen' counts' told sound in
              let done = joint_join bs j xs (subst (λ n. JointHolds n j) (sym long) holds) (omega (arith, long, most)) room (subst (λ n. IsJointUp n bs j xs) (sym long) up) in
              subst (λ (t : ℕ × (List (List ℕ) × (ℕ × (ℕ × (ℕ × (List PathStep × (ℕ × (List ℕ × List (List ℕ))))))))). IsGap t.1.1.0 t.0 (slice_get t.1.0) t.1.1.1.0 t.1.1.1.1.0 (steps_of t.1.1.1.1.1.0) t.1.1.1.1.1.1.0 t.1.1.1.1.1.1.1.0 t.1.1.1.1.1.1.1.1 (t.1.1.1.1.1.1.0 ∷ []) [] xs)
              (λ i. (long i, (sym laid i, (sym e1 i, (sym e2 i, (sym e3 i, (sym e4 i, (sym e5 i, (sym e6 i, sym e7 i))))))))) done,
        );
        still = two_still a b d file j.first j.second x y x' y' below holds.first_near holds.second_near x_is y_is seen counts seen' counts';
        others = two_others a b d file j.first j.second x y x' y' below holds.first_near holds.second_near x_is y_is seen counts seen' counts';
        counts = two_counts a b d file j.first j.second x y x' y' below holds.first_near holds.second_near x_is y_is seen counts seen' counts';
        width_is = e1;
        root_is = e2;
        path_is = e4;
        number_is = e5;
        more = ap (λ (l : List ℕ). length l) (e6 ∙ kids_less ks k next)
            ∙ (let e : length (take k ks ++ get_or ks k 0 ∷ drop (suc (suc k)) ks) ≡ suc (length j.inner.seps.items) = omega (arith, holds.kids_more, length-append (take k ks) (get_or ks k 0 ∷ drop (suc (suc k)) ks), ap (λ (l : List ℕ). length l) (kids_same ks k (get_or ks (suc k) 0) next refl), length-append (take k ks) (get_or ks k 0 ∷ get_or ks (suc k) 0 ∷ drop (suc (suc k)) ks)) in e)
            ∙ sym (ap (λ (l : List (List ℕ)). suc (length l)) e7);
        few = omega (arith, ap (λ (l : List (List ℕ)). length l) e7);
        wide = subst (AllWide j.width) (sym e7) holds.wide_up;
        free_low = omega (arith, e3, most, holds.second_near);
      }

  pub share_mends : (a b d : Overlay B g) (file : ℕ) (j : Joint) (h : Gap) (low high : List ℕ) (as' : List (List ℕ)) (sep : List ℕ) (bs' : List (List ℕ)) (x y : List ℕ) → b.below ≡ a.below → JointHolds (seen_counts a file) j → seen_counts a file ≤ 2097152 → 1017 < length j.whole.seps.items * (j.width + 4)
      → AreHalves j.whole.kids.items j.whole.seps.items low high as' sep bs' → x ≡ inner_bytes low as' → y ≡ inner_bytes high bs'
      → (IsTrue (under a).told → (under a).sound → overlay_content b ≡ with_block (overlay_content a) file j.first x) → seen_counts b ≡ raise_count (seen_counts a) file j.first
      → (IsTrue (under b).told → (under b).sound → overlay_content d ≡ with_block (overlay_content b) file j.second y) → seen_counts d ≡ raise_count (seen_counts b) file j.second
      → h.width ≡ j.width → h.root ≡ j.root → h.free ≡ j.free → h.path.items ≡ j.path.items → h.number ≡ j.number → h.inner.kids.items ≡ j.inner.kids.items → h.inner.seps.items ≡ take j.taken j.inner.seps.items ++ sep ∷ drop j.taken j.inner.seps.items
      → Mends a d file j h
  share_mends a b d file j h low high as' sep bs' x y below holds most many halves x_is y_is seen counts seen' counts' e1 e2 e3 e4 e5 e6 e7 =
      let ts = j.inner.seps.items in
      let k = j.taken in
      let x' = inner_bytes low as' in
      let y' = inner_bytes high bs' in
      let size : length h.inner.seps.items ≡ suc (length ts) = omega (arith, ap (λ (l : List (List ℕ)). length l) e7, length-append (take k ts) (sep ∷ drop k ts), length-append (take k ts) (drop k ts), ap (λ (l : List (List ℕ)). length l) (take-append-drop k ts)) in
      record {
        up = λ told sound long. (
          two_long a b d file j.first j.second x y x' y' below holds.first_near holds.second_near x_is y_is seen counts seen' counts' told sound long,
          λ xs up.
              let bs = overlay_content a file in
              let laid = two_laid a b d file j.first j.second x y x' y' below holds.first_near holds.second_near x_is y_is seen counts seen' counts' told sound in
              let done = joint_share bs j xs low high as' sep bs' (subst (λ n. JointHolds n j) (sym long) holds) (omega (arith, long, most)) many halves (subst (λ n. IsJointUp n bs j xs) (sym long) up) in
              subst (λ (t : ℕ × (List (List ℕ) × (ℕ × (ℕ × (ℕ × (List PathStep × (ℕ × (List ℕ × List (List ℕ))))))))). IsGap t.1.1.0 t.0 (slice_get t.1.0) t.1.1.1.0 t.1.1.1.1.0 (steps_of t.1.1.1.1.1.0) t.1.1.1.1.1.1.0 t.1.1.1.1.1.1.1.0 t.1.1.1.1.1.1.1.1 (t.1.1.1.1.1.1.0 ∷ []) [] xs)
              (λ i. (long i, (sym laid i, (sym e1 i, (sym e2 i, (sym e3 i, (sym e4 i, (sym e5 i, (sym e6 i, sym e7 i))))))))) done,
        );
        still = two_still a b d file j.first j.second x y x' y' below holds.first_near holds.second_near x_is y_is seen counts seen' counts';
        others = two_others a b d file j.first j.second x y x' y' below holds.first_near holds.second_near x_is y_is seen counts seen' counts';
        counts = two_counts a b d file j.first j.second x y x' y' below holds.first_near holds.second_near x_is y_is seen counts seen' counts';
        width_is = e1;
        root_is = e2;
        path_is = e4;
        number_is = e5;
        more = ap (λ (l : List ℕ). length l) e6 ∙ holds.kids_more ∙ ap suc (sym size);
        few = omega (arith, size);
        wide = subst (AllWide j.width) (sym e7) (wide_both j.width (take k ts) (sep ∷ drop k ts) (wide_take j.width k ts holds.wide_up)
            ((wide_second j.width as' (sep ∷ bs') (subst (AllWide j.width) halves.seps_is holds.wide)).0, wide_drop j.width k ts holds.wide_up));
        free_low = omega (arith, e3, holds.free_low);
      }
