-- Two neighbouring leaves are shared anew: both are written, and the separator between them is another one.
use Rattle.std.proofs.Common.{◌≡◌, ℕ, zero, suc, ◌+◌, ◌≤◌, ◌<◌, ◌⊎◌, inl, inr, List, [], ◌∷◌, ◌++◌, Some, None, refl, sym, ap, subst, ◌∙◌, length, length-append, append_assoc, arith}
use Rattle.std.specs.declared.option.Option.{Option}
use Rattle.dms_chain.specs.Linked.{BlockChain, front, numbers, put, said_by, times}
use Rattle.dms_chain.specs.LinkedLaws.{chain_both, chain_first, chain_second, chain_still, numbers_append, numbers_length, numbers_times, times_append, times_own}
use Rattle.dms_chain.specs.ListBlocks.{free_in, leaf_in}
use Rattle.dms_chain.specs.ListIn.{Leaf, Spare}
use Rattle.dms_chain.specs.Lists.{AreInByteOrder}
use Rattle.dms_tree.specs.LaceLaws.{IsUnder, more_under}
use Rattle.dms_tree.specs.Levels.{Hangs, Inner, inner_numbers, kids_of, top_numbers, weave}
use Rattle.dms_tree.specs.LeafSteps.{leaves_cut, leaves_join, with_one, with_two}
use Rattle.dms_tree.specs.OpenLeaves.{half_append, half_first, half_second, hangs_leaves}
use Rattle.dms_tree.specs.OpenTree.{AreLeavesHalf, IsOpenTree, Placed, all_inner, each_levels, numbers_of_all, placed_still, put_here, put_other, top_one, tree_length, tree_times}
use Rattle.dms_tree.specs.Steps.{EachIn, EachOf, HasMore, each_both, each_first, each_second}
use Rattle.dms_tree.specs.TreeBlocks.{inner_half, inner_in, leaf_half}
use Rattle.dms_tree.specs.TreeIn.{says, tree_numbers}

module _ (width count : ℕ) (look : ℕ → Option (List ℕ)) (root free : ℕ) (up : List (List Inner)) (ups downs : List Inner) (n : ℕ) (lefts rights : List ℕ) (ss ts : List (List ℕ)) (ahead rest : List Leaf) (c f : ℕ) (fs : List Spare) (s s' : List ℕ)
    (under : IsUnder (numbers ahead) (numbers rest) ups lefts rights downs) (some : root ≡ 0 → ⊥) (place : length lefts ≡ length ss) where
  abbrev one : List (List Inner)
  one = with_one up ups downs n lefts rights ss ts ahead rest c f root

  abbrev two : List ℕ → List (List Inner)
  two t = with_two up ups downs n lefts rights ss ts ahead rest c f root t

  abbrev p1 : Inner
  p1 = (n, (lefts ++ c ∷ rights, ss ++ ts))

  abbrev p2 : List ℕ → Inner
  p2 t = (n, (lefts ++ c ∷ f ∷ rights, ss ++ t ∷ ts))

  abbrev x1 : List Inner
  x1 = all_inner up ++ ups

  abbrev x2 : List Inner
  x2 = downs ++ []

  all_last : (over : List (List Inner)) (p : Inner) → all_inner (over ++ (ups ++ p ∷ downs) ∷ []) ≡ (all_inner over ++ ups) ++ p ∷ x2
  all_last [] p = append_assoc ups (p ∷ downs) []
  all_last (u ∷ over) p = ap (λ (l : List Inner). u ++ l) (all_last over p) ∙ sym (append_assoc u (all_inner over ++ ups) (p ∷ x2)) ∙ ap (λ (l : List Inner). l ++ p ∷ x2) (sym (append_assoc u (all_inner over) ups))

  same_inner : inner_numbers (two s) ≡ inner_numbers (two s')
  same_inner =
      numbers_of_all (two s) ∙ ap numbers (all_last up (p2 s)) ∙ numbers_append x1 (p2 s ∷ x2) ∙ sym (numbers_append x1 (p2 s' ∷ x2)) ∙ sym (ap numbers (all_last up (p2 s'))) ∙ sym (numbers_of_all (two s'))

  times_inner : (k : ℕ) → times k (inner_numbers (two s)) ≡ times k (numbers x1) + times k (n ∷ []) + times k (numbers x2)
  times_inner k =
      ap (times k) (numbers_of_all (two s) ∙ ap numbers (all_last up (p2 s)))
      ∙ (let e : times k (numbers (x1 ++ p2 s ∷ x2)) ≡ times k (numbers x1) + times k (n ∷ []) + times k (numbers x2) = omega (arith, numbers_times k x1 (p2 s ∷ x2)) in e)

  level_one : (t : List ℕ) → numbers (ups ++ p2 t ∷ downs) ≡ numbers (ups ++ p1 ∷ downs)
  level_one t = numbers_append ups (p2 t ∷ downs) ∙ sym (numbers_append ups (p1 ∷ downs))

  level_two : numbers (ups ++ p2 s ∷ downs) ≡ numbers (ups ++ p2 s' ∷ downs)
  level_two = level_one s ∙ sym (level_one s')

  leaves_two : (t : List ℕ) (ds gs : List (List ℕ)) → kids_of (ups ++ p2 t ∷ downs) ≡ numbers (ahead ++ (c, ds) ∷ (f, gs) ∷ rest)
  leaves_two t ds gs = sym (numbers_append ahead ((c, ds) ∷ (f, gs) ∷ rest) ∙ more_under ups downs n lefts rights (ss ++ t ∷ ts) (numbers ahead) (numbers rest) under (c ∷ f ∷ []))

  leaves_one : (es : List (List ℕ)) → kids_of (ups ++ p1 ∷ downs) ≡ numbers (ahead ++ (c, es) ∷ rest)
  leaves_one es = sym (numbers_append ahead ((c, es) ∷ rest) ∙ more_under ups downs n lefts rights (ss ++ ts) (numbers ahead) (numbers rest) under (c ∷ []))

  parts_more : (p : Inner) → EachOf HasMore (x1 ++ p ∷ x2) → EachIn HasMore up × EachOf HasMore ups
  parts_more p all =
      let first = each_first HasMore x1 (p ∷ x2) all in
      (each_levels HasMore up (each_first HasMore (all_inner up) ups first), each_second HasMore (all_inner up) ups first)

  -- `es` and `es'` are what stands in the two, `ds` and `gs` are these where one entry left, and then they are parted behind `x`
  pub open_leaf_share : (loose : List ℕ) (es es' ds gs low : List (List ℕ)) (x : List ℕ) (high : List (List ℕ)) (b1 b2 : List ℕ) → IsOpenTree width count look root free (two s) (ahead ++ (c, es) ∷ (f, es') ∷ rest) fs [] loose
      → AreInByteOrder (weave (two s) (ahead ++ (c, ds) ∷ (f, gs) ∷ rest)) → ds ++ gs ≡ (low ++ x ∷ []) ++ s' ∷ high → length x ≡ length s' → leaf_in width b1 ≡ Some (f, low ++ x ∷ []) → leaf_in width b2 ≡ Some (front rest 0, s' ∷ high)
      → leaf_half width ≤ length (low ++ x ∷ []) → leaf_half width ≤ length (s' ∷ high)
      → IsOpenTree width count (put (put look c b1) f b2) root free (two s') (ahead ++ (c, low ++ x ∷ []) ∷ (f, s' ∷ high) ∷ rest) fs (n ∷ []) loose
  open_leaf_share loose es es' ds gs low x high b1 b2 o rises shared wide reads reads' half half' =
      let l1 = ahead ++ (c, es) ∷ (f, es') ∷ rest in
      let l2 = ahead ++ (c, low ++ x ∷ []) ∷ (f, s' ∷ high) ∷ rest in
      let joined = ahead ++ (c, ds ++ gs) ∷ rest in
      let same_leaves : numbers l1 ≡ numbers l2 = numbers_append ahead ((c, es) ∷ (f, es') ∷ rest) ∙ sym (numbers_append ahead ((c, low ++ x ∷ []) ∷ (f, s' ∷ high) ∷ rest)) in
      let first = chain_first (leaf_in width) look ahead ((c, es) ∷ (f, es') ∷ rest) 0 o.chain in
      let second = chain_second (leaf_in width) look ahead ((c, es) ∷ (f, es') ∷ rest) 0 o.chain in
      let once : (k : ℕ) → times k (numbers x1) + times k (n ∷ []) + times k (numbers x2) + times k (numbers ahead) + times k (c ∷ []) + times k (f ∷ []) + times k (numbers rest) + times k (numbers fs) ≤ 1 =
      λ k. omega (arith, o.once k, tree_times k (two s) l1 fs, times_inner k, numbers_times k ahead ((c, es) ∷ (f, es') ∷ rest)) in
      let oc = once c in
      let of = once f in
      let two_c = times_own c in
      let two_f = times_own f in
      let apart : c ≡ f → ⊥ = λ e. absurd (omega (arith, oc, two_c, ap (λ k. times c (k ∷ [])) e)) in
      let all = subst (EachOf (Placed width look root [])) (all_last up (p2 s)) o.placed in
      let still : (us : List Inner) → times c (numbers us) ≡ 0 → times f (numbers us) ≡ 0 → EachOf (Placed width look root []) us → EachOf (Placed width (put (put look c b1) f b2) root (n ∷ [])) us =
      λ us no_c no_f each. placed_still width (put look c b1) root [] (n ∷ []) f b2 us (λ k some. refl) no_f (placed_still width look root [] [] c b1 us (λ k some. refl) no_c each) in
      let hole : Placed width (put (put look c b1) f b2) root (n ∷ []) (p2 s') = inl (omega (arith, times_own n)) in
      let mores = subst (EachOf HasMore) (all_last up (p2 s)) o.more in
      let parts = parts_more (p2 s) mores in
      let behind = each_second HasMore x1 (p2 s ∷ x2) mores in
      let as_many : HasMore (p2 s') = omega (arith, behind.0, length-append ss (s ∷ ts), length-append ss (s' ∷ ts)) in
      let hangs_one = hangs_leaves up (ups ++ p2 s ∷ downs) (ups ++ p1 ∷ downs) (top_numbers root) (numbers l1) (numbers joined) (level_one s) (leaves_one (ds ++ gs)) o.hangs in
      let one_rises = leaves_join up ups downs n lefts rights ss ts ahead rest c f root under parts.1 parts.0 place (numbers joined) hangs_one (top_one root some) s ds gs rises in
      record {
        free_is = o.free_is;
        more = subst (EachOf HasMore) (sym (all_last up (p2 s'))) (each_both HasMore x1 (p2 s' ∷ x2) (each_first HasMore x1 (p2 s ∷ x2) mores) (as_many, behind.1));
        placed = subst (EachOf (Placed width (put (put look c b1) f b2) root (n ∷ []))) (sym (all_last up (p2 s'))) (each_both (Placed width (put (put look c b1) f b2) root (n ∷ [])) x1 (p2 s' ∷ x2)
            (still x1 (omega (arith, oc, two_c)) (omega (arith, of, two_f)) (each_first (Placed width look root []) x1 (p2 s ∷ x2) all))
            (hole, still x2 (omega (arith, oc, two_c)) (omega (arith, of, two_f)) (each_second (Placed width look root []) x1 (p2 s ∷ x2) all).1));
        chain = chain_both (leaf_in width) (put (put look c b1) f b2) ahead ((c, low ++ x ∷ []) ∷ (f, s' ∷ high) ∷ rest) 0
            (chain_still (leaf_in width) (put look c b1) f b2 ahead c (omega (arith, of, two_f)) (chain_still (leaf_in width) look c b1 ahead c (omega (arith, oc, two_c)) first)) (
              second.0,
              ap (said_by (leaf_in width)) (put_other (put look c b1) f b2 c apart ∙ put_here look c b1) ∙ reads,
              (
                second.2.0,
                ap (said_by (leaf_in width)) (put_here (put look c b1) f b2) ∙ reads',
                chain_still (leaf_in width) (put look c b1) f b2 rest 0 (omega (arith, of, two_f)) (chain_still (leaf_in width) look c b1 rest 0 (omega (arith, oc, two_c)) second.2.2),
              ),
            );
        spare = chain_still free_in (put look c b1) f b2 fs 0 (omega (arith, of, two_f)) (chain_still free_in look c b1 fs 0 (omega (arith, oc, two_c)) o.spare);
        half = half_append width root ahead ((c, low ++ x ∷ []) ∷ (f, s' ∷ high) ∷ rest) (half_first width root ahead ((c, es) ∷ (f, es') ∷ rest) o.half) (inr half, (inr half', (half_second width root ahead ((c, es) ∷ (f, es') ∷ rest) o.half).1.1));
        hangs = hangs_leaves up (ups ++ p2 s ∷ downs) (ups ++ p2 s' ∷ downs) (top_numbers root) (numbers l1) (numbers l2) level_two (leaves_two s' (low ++ x ∷ []) (s' ∷ high)) o.hangs;
        rises = leaves_cut up ups downs n lefts rights ss ts ahead rest c f root under parts.1 parts.0 place (numbers joined) hangs_one (top_one root some) s' low x high wide (subst (λ (l : List (List ℕ)). AreInByteOrder (weave one (ahead ++ (c, l) ∷ rest))) shared one_rises);
        count_is = omega (arith, o.count_is, ap (λ (l : List ℕ). length (l ++ (numbers l2 ++ numbers fs))) same_inner, ap (λ (l : List ℕ). length (inner_numbers (two s) ++ (l ++ numbers fs))) same_leaves);
        once = λ k. omega (arith, o.once k, tree_times k (two s) l1 fs, tree_times k (two s') l2 fs, ap (times k) same_inner, ap (times k) same_leaves);
        low = λ k more. o.low k (omega (arith, more, tree_times k (two s) l1 fs, tree_times k (two s') l2 fs, ap (times k) same_inner, ap (times k) same_leaves));
        zero = omega (arith, o.zero, tree_times 0 (two s) l1 fs, tree_times 0 (two s') l2 fs, ap (times 0) same_inner, ap (times 0) same_leaves);
      }
