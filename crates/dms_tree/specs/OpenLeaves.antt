-- A tree while its leaves are changed.
use Rattle.std.proofs.Common.{◌≡◌, ℕ, zero, suc, ◌+◌, ◌≤◌, ◌<◌, ◌⊎◌, inl, inr, List, [], ◌∷◌, ◌++◌, Some, None, refl, sym, ap, subst, ◌∙◌, length, length-append, append_assoc, arith}
use Rattle.std.specs.declared.option.Option.{Option}
use Rattle.std.proofs.lemmas.Bool.Decides.{nat_tests}
use Rattle.dms_chain.specs.Linked.{BlockChain, front, numbers, put, said_by, times}
use Rattle.dms_chain.specs.LinkedLaws.{chain_both, chain_first, chain_second, chain_still, front_append, numbers_append, numbers_length, numbers_times, times_append, times_own}
use Rattle.dms_chain.specs.ListBlocks.{free_in, leaf_in}
use Rattle.dms_chain.specs.ListIn.{Leaf, Spare, entries_of}
use Rattle.dms_chain.specs.Lists.{AreInByteOrder}
use Rattle.dms_tree.specs.LaceLaws.{IsUnder, more_under}
use Rattle.dms_tree.specs.Levels.{Hangs, Inner, fences, inner_numbers, kids_of, top_numbers, weave}
use Rattle.dms_tree.specs.LeafSteps.{leaves_cut, leaves_join, with_one, with_two}
use Rattle.dms_tree.specs.OpenTree.{AreLeavesHalf, AreNoHoles, IsOpenTree, Placed, all_inner, each_levels, no_hole_but, numbers_of_all, placed_still, put_here, put_other, top_one, tree_length, tree_times}
use Rattle.dms_tree.specs.Steps.{EachIn, EachOf, HasMore, each_both, each_first, each_second, numbers_in}
use Rattle.dms_tree.specs.TreeBlocks.{inner_half, inner_in, leaf_half}
use Rattle.dms_tree.specs.TreeIn.{says, tree_numbers}

pub half_append : (w root : ℕ) (ls ms : List Leaf) → AreLeavesHalf w root ls → AreLeavesHalf w root ms → AreLeavesHalf w root (ls ++ ms)
half_append w root [] ms a b = b
half_append w root (l ∷ ls) ms a b = (a.0, half_append w root ls ms a.1 b)

pub half_first : (w root : ℕ) (ls ms : List Leaf) → AreLeavesHalf w root (ls ++ ms) → AreLeavesHalf w root ls
half_first w root [] ms a = tt
half_first w root (l ∷ ls) ms a = (a.0, half_first w root ls ms a.1)

pub half_second : (w root : ℕ) (ls ms : List Leaf) → AreLeavesHalf w root (ls ++ ms) → AreLeavesHalf w root ms
half_second w root [] ms a = a
half_second w root (l ∷ ls) ms a = half_second w root ls ms a.1

-- other leaves under other blocks of the lowest level
pub hangs_leaves : (up : List (List Inner)) (u v : List Inner) (ns ks ms : List ℕ) → numbers u ≡ numbers v → kids_of v ≡ ms → Hangs ns (up ++ u ∷ []) ks → Hangs ns (up ++ v ∷ []) ms
hangs_leaves [] u v ns ks ms same kids hangs = (sym same ∙ hangs.0, kids)
hangs_leaves (x ∷ up) u v ns ks ms same kids hangs = (hangs.0, hangs_leaves up u v (kids_of x) ks ms same kids hangs.1)

-- one leaf is another one: an entry came, or left
module _ (width count : ℕ) (look : ℕ → Option (List ℕ)) (root free : ℕ) (us : List (List Inner)) (ahead rest : List Leaf) (c : ℕ) (es ds : List (List ℕ)) (fs : List Spare) (bytes : List ℕ) where
  same_leaves : numbers (ahead ++ (c, es) ∷ rest) ≡ numbers (ahead ++ (c, ds) ∷ rest)
  same_leaves = numbers_append ahead ((c, es) ∷ rest) ∙ sym (numbers_append ahead ((c, ds) ∷ rest))

  pub open_leaf : IsOpenTree width count look root free us (ahead ++ (c, es) ∷ rest) fs [] [] → leaf_in width bytes ≡ Some (front rest 0, ds) → (c ≡ root) ⊎ (leaf_half width ≤ length ds) → AreInByteOrder (weave us (ahead ++ (c, ds) ∷ rest))
      → IsOpenTree width count (put look c bytes) root free us (ahead ++ (c, ds) ∷ rest) fs [] []
  open_leaf o reads half rises =
      let first = chain_first (leaf_in width) look ahead ((c, es) ∷ rest) 0 o.chain in
      let second = chain_second (leaf_in width) look ahead ((c, es) ∷ rest) 0 o.chain in
      let once : (k : ℕ) → times k (inner_numbers us) + times k (numbers ahead) + times k (c ∷ []) + times k (numbers rest) + times k (numbers fs) ≤ 1 =
      λ k. omega (arith, o.once k, tree_times k us (ahead ++ (c, es) ∷ rest) fs, numbers_times k ahead ((c, es) ∷ rest)) in
      let oc = once c in
      let same : (k : ℕ) → times k (tree_numbers us (ahead ++ (c, es) ∷ rest) fs) ≡ times k (tree_numbers us (ahead ++ (c, ds) ∷ rest) fs) = λ k. ap (λ (l : List ℕ). times k (inner_numbers us ++ (l ++ numbers fs))) same_leaves in
      record {
        free_is = o.free_is;
        more = o.more;
        placed = placed_still width look root [] [] c bytes (all_inner us) (λ k some. refl) (omega (arith, oc, times_own c, ap (times c) (numbers_of_all us))) o.placed;
        chain = chain_both (leaf_in width) (put look c bytes) ahead ((c, ds) ∷ rest) 0 (chain_still (leaf_in width) look c bytes ahead c (omega (arith, oc, times_own c)) first)
            (second.0, ap (said_by (leaf_in width)) (put_here look c bytes) ∙ reads, chain_still (leaf_in width) look c bytes rest 0 (omega (arith, oc, times_own c)) second.2);
        spare = chain_still free_in look c bytes fs 0 (omega (arith, oc, times_own c)) o.spare;
        half = half_append width root ahead ((c, ds) ∷ rest) (half_first width root ahead ((c, es) ∷ rest) o.half) (half, (half_second width root ahead ((c, es) ∷ rest) o.half).1);
        hangs = subst (Hangs (top_numbers root) us) same_leaves o.hangs;
        rises = rises;
        count_is = omega (arith, o.count_is, ap (λ (l : List ℕ). length (inner_numbers us ++ (l ++ numbers fs))) same_leaves);
        once = λ k. omega (arith, o.once k, same k);
        low = λ k some. o.low k (omega (arith, some, same k));
        zero = omega (arith, o.zero, same 0);
      }

-- One leaf becomes two: its parent is to be written next. Or two become one.
module _ (width count : ℕ) (look : ℕ → Option (List ℕ)) (root free : ℕ) (up : List (List Inner)) (ups downs : List Inner) (n : ℕ) (lefts rights : List ℕ) (ss ts : List (List ℕ)) (ahead rest : List Leaf) (c f : ℕ) (fs : List Spare) (s : List ℕ)
    (under : IsUnder (numbers ahead) (numbers rest) ups lefts rights downs) (some : root ≡ 0 → ⊥) (place : length lefts ≡ length ss) where
  abbrev one : List (List Inner)
  one = with_one up ups downs n lefts rights ss ts ahead rest c f root

  abbrev two : List (List Inner)
  two = with_two up ups downs n lefts rights ss ts ahead rest c f root s

  abbrev p1 : Inner
  p1 = (n, (lefts ++ c ∷ rights, ss ++ ts))

  abbrev p2 : Inner
  p2 = (n, (lefts ++ c ∷ f ∷ rights, ss ++ s ∷ ts))

  abbrev x1 : List Inner
  x1 = all_inner up ++ ups

  abbrev x2 : List Inner
  x2 = downs ++ []

  all_last : (over : List (List Inner)) (p : Inner) → all_inner (over ++ (ups ++ p ∷ downs) ∷ []) ≡ (all_inner over ++ ups) ++ p ∷ x2
  all_last [] p = append_assoc ups (p ∷ downs) []
  all_last (u ∷ over) p = ap (λ (l : List Inner). u ++ l) (all_last over p) ∙ sym (append_assoc u (all_inner over ++ ups) (p ∷ x2)) ∙ ap (λ (l : List Inner). l ++ p ∷ x2) (sym (append_assoc u (all_inner over) ups))

  same_inner : inner_numbers one ≡ inner_numbers two
  same_inner =
      numbers_of_all one ∙ ap numbers (all_last up p1) ∙ numbers_append x1 (p1 ∷ x2) ∙ sym (numbers_append x1 (p2 ∷ x2)) ∙ sym (ap numbers (all_last up p2)) ∙ sym (numbers_of_all two)

  same_low : numbers (ups ++ p1 ∷ downs) ≡ numbers (ups ++ p2 ∷ downs)
  same_low = numbers_append ups (p1 ∷ downs) ∙ sym (numbers_append ups (p2 ∷ downs))

  times_inner : (k : ℕ) → times k (inner_numbers one) ≡ times k (numbers x1) + times k (n ∷ []) + times k (numbers x2)
  times_inner k =
      ap (times k) (numbers_of_all one ∙ ap numbers (all_last up p1))
      ∙ (let e : times k (numbers (x1 ++ p1 ∷ x2)) ≡ times k (numbers x1) + times k (n ∷ []) + times k (numbers x2) = omega (arith, numbers_times k x1 (p1 ∷ x2)) in e)

  leaf_more : (es ds gs : List (List ℕ)) (k : ℕ) → times k (numbers (ahead ++ (c, ds) ∷ (f, gs) ∷ rest)) ≡ times k (numbers (ahead ++ (c, es) ∷ rest)) + times k (f ∷ [])
  leaf_more es ds gs k = omega (arith, numbers_times k ahead ((c, ds) ∷ (f, gs) ∷ rest), numbers_times k ahead ((c, es) ∷ rest))

  parts_more : (p : Inner) → EachOf HasMore (x1 ++ p ∷ x2) → EachIn HasMore up × EachOf HasMore ups
  parts_more p all =
      let first = each_first HasMore x1 (p ∷ x2) all in
      (each_levels HasMore up (each_first HasMore (all_inner up) ups first), each_second HasMore (all_inner up) ups first)

  leaves_two : (ds gs : List (List ℕ)) → kids_of (ups ++ p2 ∷ downs) ≡ numbers (ahead ++ (c, ds) ∷ (f, gs) ∷ rest)
  leaves_two ds gs = sym (numbers_append ahead ((c, ds) ∷ (f, gs) ∷ rest) ∙ more_under ups downs n lefts rights (ss ++ s ∷ ts) (numbers ahead) (numbers rest) under (c ∷ f ∷ []))

  leaves_one : (es : List (List ℕ)) → kids_of (ups ++ p1 ∷ downs) ≡ numbers (ahead ++ (c, es) ∷ rest)
  leaves_one es = sym (numbers_append ahead ((c, es) ∷ rest) ∙ more_under ups downs n lefts rights (ss ++ ts) (numbers ahead) (numbers rest) under (c ∷ []))

  pub open_leaf_cut : (holes loose : List ℕ) (es ds : List (List ℕ)) (x : List ℕ) (gs : List (List ℕ)) (b1 b2 : List ℕ) → ((k : ℕ) → (k ≡ c → ⊥) → (k ≡ n → ⊥) → times k holes ≡ 0) → IsOpenTree width count look root free one (ahead ++ (c, es) ∷ rest) fs holes (f ∷ loose)
      → AreInByteOrder (weave one (ahead ++ (c, (ds ++ x ∷ []) ++ s ∷ gs) ∷ rest)) → length x ≡ length s → leaf_in width b1 ≡ Some (f, ds ++ x ∷ []) → leaf_in width b2 ≡ Some (front rest 0, s ∷ gs)
      → leaf_half width ≤ length (ds ++ x ∷ []) → leaf_half width ≤ length (s ∷ gs)
      → IsOpenTree width count (put (put look c b1) f b2) root free two (ahead ++ (c, ds ++ x ∷ []) ∷ (f, s ∷ gs) ∷ rest) fs (n ∷ []) loose
  open_leaf_cut holes loose es ds x gs b1 b2 only o rises wide reads reads' half half' =
      let l1 = ahead ++ (c, es) ∷ rest in
      let l2 = ahead ++ (c, ds ++ x ∷ []) ∷ (f, s ∷ gs) ∷ rest in
      let first = chain_first (leaf_in width) look ahead ((c, es) ∷ rest) 0 o.chain in
      let second = chain_second (leaf_in width) look ahead ((c, es) ∷ rest) 0 o.chain in
      let once : (k : ℕ) → times k (numbers x1) + times k (n ∷ []) + times k (numbers x2) + times k (numbers ahead) + times k (c ∷ []) + times k (numbers rest) + times k (numbers fs) + times k (f ∷ []) ≤ 1 =
      λ k. omega (arith, o.once k, tree_times k one l1 fs, times_inner k, numbers_times k ahead ((c, es) ∷ rest)) in
      let none : (k : ℕ) → k ≡ 0 → times k (f ∷ []) ≡ 0 = λ k is. omega (arith, o.zero, ap (λ j. times j (f ∷ [])) is) in
      let oc = once c in
      let of = once f in
      let on = once n in
      let two_c = times_own c in
      let two_f = times_own f in
      let two_n = times_own n in
      let apart : c ≡ f → ⊥ = λ e. absurd (omega (arith, oc, two_c, ap (λ k. times c (k ∷ [])) e)) in
      let some_f : f ≡ 0 → ⊥ = λ e. absurd (omega (arith, none f e, two_f)) in
      let none_of : (us : List Inner) → times c (numbers us) ≡ 0 → times n (numbers us) ≡ 0 → AreNoHoles holes us = λ us no_c no_n k some. only k (λ e. absurd (omega (arith, some, no_c, ap (λ j. times j (numbers us)) e))) (λ e. absurd (omega (arith, some, no_n, ap (λ j. times j (numbers us)) e))) in
      let all = subst (EachOf (Placed width look root holes)) (all_last up p1) o.placed in
      let still : (us : List Inner) → times c (numbers us) ≡ 0 → times f (numbers us) ≡ 0 → times n (numbers us) ≡ 0 → EachOf (Placed width look root holes) us → EachOf (Placed width (put (put look c b1) f b2) root (n ∷ [])) us =
      λ us no_c no_f no_n each. placed_still width (put look c b1) root (n ∷ []) (n ∷ []) f b2 us (no_hole_but n us no_n) no_f (placed_still width look root holes (n ∷ []) c b1 us (none_of us no_c no_n) no_c each) in
      let hole : Placed width (put (put look c b1) f b2) root (n ∷ []) p2 = inl (omega (arith, times_own n)) in
      let mores = subst (EachOf HasMore) (all_last up p1) o.more in
      let parts = parts_more p1 mores in
      let behind = each_second HasMore x1 (p1 ∷ x2) mores in
      let one_more : HasMore p2 = omega (arith, behind.0, length-append lefts (c ∷ rights), length-append lefts (c ∷ f ∷ rights), length-append ss ts, length-append ss (s ∷ ts)) in
      let count_leaves : length l2 ≡ suc (length l1) = omega (arith, length-append ahead ((c, es) ∷ rest), length-append ahead ((c, ds ++ x ∷ []) ∷ (f, s ∷ gs) ∷ rest)) in
      record {
        free_is = o.free_is;
        more = subst (EachOf HasMore) (sym (all_last up p2)) (each_both HasMore x1 (p2 ∷ x2) (each_first HasMore x1 (p1 ∷ x2) mores) (one_more, behind.1));
        placed = subst (EachOf (Placed width (put (put look c b1) f b2) root (n ∷ []))) (sym (all_last up p2)) (each_both (Placed width (put (put look c b1) f b2) root (n ∷ [])) x1 (p2 ∷ x2)
            (still x1 (omega (arith, oc, two_c)) (omega (arith, of, two_f)) (omega (arith, on, two_n)) (each_first (Placed width look root holes) x1 (p1 ∷ x2) all))
            (hole, still x2 (omega (arith, oc, two_c)) (omega (arith, of, two_f)) (omega (arith, on, two_n)) (each_second (Placed width look root holes) x1 (p1 ∷ x2) all).1));
        chain = chain_both (leaf_in width) (put (put look c b1) f b2) ahead ((c, ds ++ x ∷ []) ∷ (f, s ∷ gs) ∷ rest) 0
            (chain_still (leaf_in width) (put look c b1) f b2 ahead c (omega (arith, of, two_f)) (chain_still (leaf_in width) look c b1 ahead c (omega (arith, oc, two_c)) first)) (
              second.0,
              ap (said_by (leaf_in width)) (put_other (put look c b1) f b2 c apart ∙ put_here look c b1) ∙ reads,
              (
                some_f,
                ap (said_by (leaf_in width)) (put_here (put look c b1) f b2) ∙ reads',
                chain_still (leaf_in width) (put look c b1) f b2 rest 0 (omega (arith, of, two_f)) (chain_still (leaf_in width) look c b1 rest 0 (omega (arith, oc, two_c)) second.2),
              ),
            );
        spare = chain_still free_in (put look c b1) f b2 fs 0 (omega (arith, of, two_f)) (chain_still free_in look c b1 fs 0 (omega (arith, oc, two_c)) o.spare);
        half = half_append width root ahead ((c, ds ++ x ∷ []) ∷ (f, s ∷ gs) ∷ rest) (half_first width root ahead ((c, es) ∷ rest) o.half) (inr half, (inr half', (half_second width root ahead ((c, es) ∷ rest) o.half).1));
        hangs = hangs_leaves up (ups ++ p1 ∷ downs) (ups ++ p2 ∷ downs) (top_numbers root) (numbers l1) (numbers l2) same_low (leaves_two (ds ++ x ∷ []) (s ∷ gs)) o.hangs;
        rises = leaves_cut up ups downs n lefts rights ss ts ahead rest c f root under parts.1 parts.0 place (numbers l1) o.hangs (top_one root some) s ds x gs wide rises;
        count_is = omega (arith, o.count_is, tree_length one l1 fs, tree_length two l2 fs, count_leaves, ap (λ (l : List ℕ). length l) same_inner);
        once = λ k. omega (arith, o.once k, tree_times k one l1 fs, tree_times k two l2 fs, ap (times k) same_inner, leaf_more es (ds ++ x ∷ []) (s ∷ gs) k);
        low = λ k more. o.low k (omega (arith, more, tree_times k one l1 fs, tree_times k two l2 fs, ap (times k) same_inner, leaf_more es (ds ++ x ∷ []) (s ∷ gs) k));
        zero = omega (arith, o.zero, tree_times 0 one l1 fs, tree_times 0 two l2 fs, ap (times 0) same_inner, leaf_more es (ds ++ x ∷ []) (s ∷ gs) 0);
      }

  -- Two leaves, of which one lost an entry, are joined in the first; the second is in no place.
  pub open_leaf_join : (loose : List ℕ) (es es' ds gs : List (List ℕ)) (b1 : List ℕ) → IsOpenTree width count look root free two (ahead ++ (c, es) ∷ (f, es') ∷ rest) fs [] loose
      → AreInByteOrder (weave two (ahead ++ (c, ds) ∷ (f, gs) ∷ rest)) → leaf_in width b1 ≡ Some (front rest 0, ds ++ gs) → leaf_half width ≤ length (ds ++ gs)
      → IsOpenTree width count (put look c b1) root free one (ahead ++ (c, ds ++ gs) ∷ rest) fs (n ∷ []) (f ∷ loose)
  open_leaf_join loose es es' ds gs b1 o rises reads half =
      let l2 = ahead ++ (c, es) ∷ (f, es') ∷ rest in
      let l1 = ahead ++ (c, ds ++ gs) ∷ rest in
      let first = chain_first (leaf_in width) look ahead ((c, es) ∷ (f, es') ∷ rest) 0 o.chain in
      let second = chain_second (leaf_in width) look ahead ((c, es) ∷ (f, es') ∷ rest) 0 o.chain in
      let once : (k : ℕ) → times k (numbers x1) + times k (n ∷ []) + times k (numbers x2) + times k (numbers ahead) + times k (c ∷ []) + times k (f ∷ []) + times k (numbers rest) + times k (numbers fs) ≤ 1 =
      λ k. omega (arith, o.once k, tree_times k two l2 fs, ap (times k) same_inner, times_inner k, numbers_times k ahead ((c, es) ∷ (f, es') ∷ rest)) in
      let oc = once c in
      let on = once n in
      let two_c = times_own c in
      let two_n = times_own n in
      let all = subst (EachOf (Placed width look root [])) (all_last up p2) o.placed in
      let still : (us : List Inner) → times c (numbers us) ≡ 0 → EachOf (Placed width look root []) us → EachOf (Placed width (put look c b1) root (n ∷ [])) us = λ us no_c each. placed_still width look root [] (n ∷ []) c b1 us (λ k some. refl) no_c each in
      let hole : Placed width (put look c b1) root (n ∷ []) p1 = inl (omega (arith, times_own n)) in
      let mores = subst (EachOf HasMore) (all_last up p2) o.more in
      let parts = parts_more p2 mores in
      let behind = each_second HasMore x1 (p2 ∷ x2) mores in
      let one_less : HasMore p1 = omega (arith, behind.0, length-append lefts (c ∷ rights), length-append lefts (c ∷ f ∷ rights), length-append ss ts, length-append ss (s ∷ ts)) in
      let hangs = hangs_leaves up (ups ++ p2 ∷ downs) (ups ++ p1 ∷ downs) (top_numbers root) (numbers l2) (numbers l1) (sym same_low) (leaves_one (ds ++ gs)) o.hangs in
      let count_leaves : length l2 ≡ suc (length l1) = omega (arith, length-append ahead ((c, ds ++ gs) ∷ rest), length-append ahead ((c, es) ∷ (f, es') ∷ rest)) in
      record {
        free_is = o.free_is;
        more = subst (EachOf HasMore) (sym (all_last up p1)) (each_both HasMore x1 (p1 ∷ x2) (each_first HasMore x1 (p2 ∷ x2) mores) (one_less, behind.1));
        placed = subst (EachOf (Placed width (put look c b1) root (n ∷ []))) (sym (all_last up p1)) (each_both (Placed width (put look c b1) root (n ∷ [])) x1 (p1 ∷ x2)
            (still x1 (omega (arith, oc, two_c)) (each_first (Placed width look root []) x1 (p2 ∷ x2) all))
            (hole, still x2 (omega (arith, oc, two_c)) (each_second (Placed width look root []) x1 (p2 ∷ x2) all).1));
        chain = chain_both (leaf_in width) (put look c b1) ahead ((c, ds ++ gs) ∷ rest) 0 (chain_still (leaf_in width) look c b1 ahead c (omega (arith, oc, two_c)) first)
            (second.0, ap (said_by (leaf_in width)) (put_here look c b1) ∙ reads, chain_still (leaf_in width) look c b1 rest 0 (omega (arith, oc, two_c)) second.2.2);
        spare = chain_still free_in look c b1 fs 0 (omega (arith, oc, two_c)) o.spare;
        half = half_append width root ahead ((c, ds ++ gs) ∷ rest) (half_first width root ahead ((c, es) ∷ (f, es') ∷ rest) o.half) (inr half, (half_second width root ahead ((c, es) ∷ (f, es') ∷ rest) o.half).1.1);
        hangs = hangs;
        rises = leaves_join up ups downs n lefts rights ss ts ahead rest c f root under parts.1 parts.0 place (numbers l1) hangs (top_one root some) s ds gs rises;
        count_is = omega (arith, o.count_is, tree_length one l1 fs, tree_length two l2 fs, count_leaves, ap (λ (l : List ℕ). length l) same_inner);
        once = λ k. omega (arith, o.once k, tree_times k one l1 fs, tree_times k two l2 fs, ap (times k) same_inner, leaf_more (ds ++ gs) es es' k);
        low = λ k more. o.low k (omega (arith, more, tree_times k one l1 fs, tree_times k two l2 fs, ap (times k) same_inner, leaf_more (ds ++ gs) es es' k));
        zero = omega (arith, o.zero, tree_times 0 one l1 fs, tree_times 0 two l2 fs, ap (times 0) same_inner, leaf_more (ds ++ gs) es es' 0);
      }
