-- A tree while its blocks are changed: one inner block isn't written yet, and some blocks are in no place.
use Rattle.std.proofs.Common.{◌≡◌, ℕ, zero, suc, ◌+◌, ◌≤◌, ◌<◌, ◌⊎◌, inl, inr, List, [], ◌∷◌, ◌++◌, Some, None, false, cond, eqb, refl, sym, ap, subst, ◌∙◌, length, length-append, append_assoc, arith}
use Rattle.std.specs.declared.option.Option.{Option}
use Rattle.std.proofs.lemmas.Bool.Decides.{nat_tests}
use Rattle.dms_chain.specs.Linked.{BlockChain, front, numbers, put, said_by, times}
use Rattle.dms_chain.specs.LinkedLaws.{chain_still, numbers_append, numbers_length, numbers_times, times_append, times_apart, times_other, times_own}
use Rattle.dms_chain.specs.ListBlocks.{free_in, leaf_in}
use Rattle.dms_chain.specs.ListIn.{Leaf, Spare, entries_of}
use Rattle.dms_chain.specs.Lists.{AreInByteOrder}
use Rattle.dms_tree.specs.LaceLaws.{IsUnder}
use Rattle.dms_tree.specs.Levels.{Hangs, Inner, fences, inner_numbers, kids_of, lace, leaf_pieces, marked, top_numbers, weave}
use Rattle.dms_tree.specs.Steps.{EachIn, EachOf, HasMore, in_first, cut_count, cut_times, each_both, each_first, each_second, fences_same, fences_swap, hangs_cut, hangs_join, hangs_swap, numbers_in, one_block, two_blocks}
use Rattle.dms_tree.specs.TreeBlocks.{inner_half, inner_in, leaf_half}
use Rattle.dms_tree.specs.TreeIn.{says, tree_numbers}
use Rattle.dms_tree.specs.TreeSpells.{inner_says}

-- all inner blocks, from the root on
abbrev pub all_inner : List (List Inner) → List Inner
all_inner [] = []
all_inner (u ∷ us) = u ++ all_inner us

-- a block isn't written yet, or it says what it is and is the root or half full
abbrev pub Placed : ℕ → (ℕ → Option (List ℕ)) → ℕ → List ℕ → Inner → Type 0
Placed width look root holes u = (0 < times u.0 holes) ⊎ ((says (inner_in width) (look u.0) ≡ Some u.1) × ((u.0 ≡ root) ⊎ (inner_half width ≤ length u.1.1)))

abbrev pub AreLeavesHalf : ℕ → ℕ → List Leaf → Type 0
AreLeavesHalf width root [] = Unit {0}
AreLeavesHalf width root (l ∷ ls) = ((l.0 ≡ root) ⊎ (leaf_half width ≤ length l.1)) × AreLeavesHalf width root ls

pub record IsOpenTree (width count : ℕ) (look : ℕ → Option (List ℕ)) (root free : ℕ) (us : List (List Inner)) (ls : List Leaf) (fs : List Spare) (holes : List ℕ) (loose : List ℕ) : Type 0 where
  pub free_is : front fs 0 ≡ free
  pub more : EachOf HasMore (all_inner us)
  pub placed : EachOf (Placed width look root holes) (all_inner us)
  pub chain : BlockChain (leaf_in width) look ls 0
  pub spare : BlockChain free_in look fs 0
  pub half : AreLeavesHalf width root ls
  pub hangs : Hangs (top_numbers root) us (numbers ls)
  pub rises : AreInByteOrder (weave us ls)
  pub count_is : 1 + length (tree_numbers us ls fs) + length loose ≡ count
  pub once : (n : ℕ) → times n (tree_numbers us ls fs) + times n loose ≤ 1
  pub low : (n : ℕ) → 0 < times n (tree_numbers us ls fs) + times n loose → n < count
  pub zero : times 0 (tree_numbers us ls fs) + times 0 loose ≡ 0

-- the numbers of all blocks of the tree, counted

pub numbers_of_all : (us : List (List Inner)) → inner_numbers us ≡ numbers (all_inner us)
numbers_of_all [] = refl
numbers_of_all (u ∷ us) = ap (λ (l : List ℕ). numbers u ++ l) (numbers_of_all us) ∙ sym (numbers_append u (all_inner us))

pub tree_times : (n : ℕ) (us : List (List Inner)) (ls : List Leaf) (fs : List Spare) → times n (tree_numbers us ls fs) ≡ times n (inner_numbers us) + (times n (numbers ls) + times n (numbers fs))
tree_times n us ls fs = times_append n (inner_numbers us) (numbers ls ++ numbers fs) ∙ ap (λ k. times n (inner_numbers us) + k) (times_append n (numbers ls) (numbers fs))

pub tree_length : (us : List (List Inner)) (ls : List Leaf) (fs : List Spare) → length (tree_numbers us ls fs) ≡ length (inner_numbers us) + (length ls + length fs)
tree_length us ls fs = omega (arith, length-append (inner_numbers us) (numbers ls ++ numbers fs), length-append (numbers ls) (numbers fs), numbers_length ls, numbers_length fs)

-- blocks that another one was written beside

pub put_other : (look : ℕ → Option (List ℕ)) (b : ℕ) (bytes : List ℕ) (x : ℕ) → (x ≡ b → ⊥) → put look b bytes x ≡ look x
put_other look b bytes x off = grind (arith, nat_tests)

pub put_here : (look : ℕ → Option (List ℕ)) (b : ℕ) (bytes : List ℕ) → put look b bytes b ≡ Some bytes
put_here look b bytes = grind (arith, nat_tests)

-- none of these is a hole
abbrev pub AreNoHoles : List ℕ → List Inner → Type 0
AreNoHoles holes us = (k : ℕ) → 0 < times k (numbers us) → times k holes ≡ 0

no_holes_more : (holes : List ℕ) (u : Inner) (us : List Inner) → AreNoHoles holes (u ∷ us) → (times u.0 holes ≡ 0) × AreNoHoles holes us
no_holes_more holes u us none = (none u.0 (omega (arith, times_own u.0)), λ k some. none k (omega (arith, some)))

module _ (width : ℕ) (look : ℕ → Option (List ℕ)) (root : ℕ) (holes next : List ℕ) (b : ℕ) (bytes : List ℕ) where
  placed_one : (u : Inner) → times u.0 holes ≡ 0 → (u.0 ≡ b → ⊥) → Placed width look root holes u → Placed width (put look b bytes) root next u
  placed_one u off away (inl is) = absurd (omega (arith, off, is))
  placed_one u off away (inr h) = inr (ap (says (inner_in width)) (put_other look b bytes u.0 away) ∙ h.0, h.1)

  pub placed_still : (us : List Inner) → AreNoHoles holes us → times b (numbers us) ≡ 0 → EachOf (Placed width look root holes) us → EachOf (Placed width (put look b bytes) root next) us
  placed_still [] none none' all = tt
  placed_still (u ∷ us) none none' all =
      let one = no_holes_more holes u us none in
      let two = times_apart b u.0 (numbers us) none' in
      (placed_one u one.0 two.0 all.0, placed_still us one.1 two.1 all.1)

-- with other holes, and nothing written
module _ (width : ℕ) (look : ℕ → Option (List ℕ)) (root : ℕ) (holes next : List ℕ) where
  kept_one : (u : Inner) → times u.0 holes ≡ 0 → Placed width look root holes u → Placed width look root next u
  kept_one u off (inl is) = absurd (omega (arith, off, is))
  kept_one u off (inr h) = inr h

  pub placed_kept : (us : List Inner) → AreNoHoles holes us → EachOf (Placed width look root holes) us → EachOf (Placed width look root next) us
  placed_kept [] none all = tt
  placed_kept (u ∷ us) none all = let one = no_holes_more holes u us none in (kept_one u one.0 all.0, placed_kept us one.1 all.1)

-- the block that is written is a hole no more
module _ (width : ℕ) (look : ℕ → Option (List ℕ)) (root : ℕ) (holes next : List ℕ) (b : ℕ) (bytes : List ℕ) (fewer : (k : ℕ) → (k ≡ b → ⊥) → 0 < times k holes → 0 < times k next) where
  filled_one : (u : Inner) → (u.0 ≡ b → ⊥) → Placed width look root holes u → Placed width (put look b bytes) root next u
  filled_one u away (inl is) = inl (fewer u.0 away is)
  filled_one u away (inr h) = inr (ap (says (inner_in width)) (put_other look b bytes u.0 away) ∙ h.0, h.1)

  pub placed_filled : (us : List Inner) → times b (numbers us) ≡ 0 → EachOf (Placed width look root holes) us → EachOf (Placed width (put look b bytes) root next) us
  placed_filled [] none all = tt
  placed_filled (u ∷ us) none all = let one = times_apart b u.0 (numbers us) none in (filled_one u one.0 all.0, placed_filled us one.1 all.1)

pub each_levels : (P : Inner → Type 0) (us : List (List Inner)) → EachOf P (all_inner us) → EachIn P us
each_levels P [] all = tt
each_levels P (u ∷ us) all = (each_first P u (all_inner us) all, each_levels P us (each_second P u (all_inner us) all))

pub top_one : (root : ℕ) → (root ≡ 0 → ⊥) → 1 ≡ length (top_numbers root)
top_one zero some = absurd (some refl)
top_one (suc root) some = ap (λ t. length (cond t [] (suc root ∷ []))) (let e : false ≡ eqb (suc root) 0 = grind (arith, nat_tests) in e)

-- all blocks of levels around two of them
pub all_parts : (up : List (List Inner)) (ups : List Inner) (p : Inner) (downs ahead hs rest : List Inner) (lower : List (List Inner))
    → all_inner (up ++ (ups ++ p ∷ downs) ∷ (ahead ++ (hs ++ rest)) ∷ lower) ≡ (all_inner up ++ ups) ++ p ∷ ((downs ++ ahead) ++ (hs ++ (rest ++ all_inner lower)))
all_parts [] ups p downs ahead hs rest lower =
    append_assoc ups (p ∷ downs) ((ahead ++ (hs ++ rest)) ++ all_inner lower)
    ∙ ap (λ (l : List Inner). ups ++ p ∷ (downs ++ l)) (append_assoc ahead (hs ++ rest) (all_inner lower) ∙ ap (λ (l : List Inner). ahead ++ l) (append_assoc hs rest (all_inner lower)))
    ∙ ap (λ (l : List Inner). ups ++ p ∷ l) (sym (append_assoc downs ahead (hs ++ (rest ++ all_inner lower))))
all_parts (u ∷ up) ups p downs ahead hs rest lower =
    ap (λ (l : List Inner). u ++ l) (all_parts up ups p downs ahead hs rest lower)
    ∙ sym (append_assoc u (all_inner up ++ ups) (p ∷ ((downs ++ ahead) ++ (hs ++ (rest ++ all_inner lower)))))
    ∙ ap (λ (l : List Inner). l ++ p ∷ ((downs ++ ahead) ++ (hs ++ (rest ++ all_inner lower)))) (sym (append_assoc u (all_inner up) ups))

pub no_hole_but : (n : ℕ) (us : List Inner) → times n (numbers us) ≡ 0 → AreNoHoles (n ∷ []) us
no_hole_but n us none k some = times_other k n (λ e. absurd (omega (arith, some, none, ap (λ j. times j (numbers us)) e)))

-- One inner block becomes two: its parent is to be written next.
module _ (width count : ℕ) (look : ℕ → Option (List ℕ)) (root free : ℕ) (up : List (List Inner)) (ups downs : List Inner) (n : ℕ) (lefts rights : List ℕ) (ss ts : List (List ℕ)) (ahead rest : List Inner) (c f : ℕ) (low high : List ℕ) (a : List (List ℕ)) (s : List ℕ) (b : List (List ℕ)) (lower : List (List Inner)) (ls : List Leaf) (fs : List Spare) (holes : List ℕ) where
  abbrev one : List (List Inner)
  one = one_block ups downs n lefts rights ss ts ahead rest c f low high a s b lower

  abbrev two : List (List Inner)
  two = two_blocks ups downs n lefts rights ss ts ahead rest c f low high a s b lower

  abbrev p1 : Inner
  p1 = (n, (lefts ++ c ∷ rights, ss ++ ts))

  abbrev p2 : Inner
  p2 = (n, (lefts ++ c ∷ f ∷ rights, ss ++ s ∷ ts))

  abbrev h : Inner
  h = (c, (low ++ high, a ++ s ∷ b))

  abbrev h1 : Inner
  h1 = (c, (low, a))

  abbrev h2 : Inner
  h2 = (f, (high, b))

  abbrev x1 : List Inner
  x1 = all_inner up ++ ups

  abbrev x2 : List Inner
  x2 = downs ++ ahead

  abbrev x3 : List Inner
  x3 = rest ++ all_inner lower

  all_one : all_inner (up ++ one) ≡ x1 ++ p1 ∷ (x2 ++ h ∷ x3)
  all_one = all_parts up ups p1 downs ahead (h ∷ []) rest lower

  all_two : all_inner (up ++ two) ≡ x1 ++ p2 ∷ (x2 ++ h1 ∷ h2 ∷ x3)
  all_two = all_parts up ups p2 downs ahead (h1 ∷ h2 ∷ []) rest lower

  -- the others among the numbers
  times_one : (k : ℕ) → times k (inner_numbers (up ++ one)) ≡ times k (numbers x1) + times k (n ∷ []) + times k (numbers x2) + times k (c ∷ []) + times k (numbers x3)
  times_one k =
      ap (times k) (numbers_of_all (up ++ one) ∙ ap numbers all_one)
      ∙ (let e : times k (numbers (x1 ++ p1 ∷ (x2 ++ h ∷ x3))) ≡ times k (numbers x1) + times k (n ∷ []) + times k (numbers x2) + times k (c ∷ []) + times k (numbers x3) = omega (arith, numbers_times k x1 (p1 ∷ (x2 ++ h ∷ x3)), numbers_times k x2 (h ∷ x3)) in e)

  times_two : (k : ℕ) → times k (inner_numbers (up ++ two)) ≡ times k (inner_numbers (up ++ one)) + times k (f ∷ [])
  times_two k =
      omega (
        arith,
        ap (times k) (numbers_in up two),
        times_append k (inner_numbers up) (inner_numbers two),
        ap (times k) (numbers_in up one),
        times_append k (inner_numbers up) (inner_numbers one),
        cut_times ups downs n lefts rights ss ts ahead rest c f low high a s b lower k,
      )

  count_two : length (inner_numbers (up ++ two)) ≡ suc (length (inner_numbers (up ++ one)))
  count_two =
      omega (
        arith,
        ap (λ (l : List ℕ). length l) (numbers_in up two),
        length-append (inner_numbers up) (inner_numbers two),
        ap (λ (l : List ℕ). length l) (numbers_in up one),
        length-append (inner_numbers up) (inner_numbers one),
        cut_count ups downs n lefts rights ss ts ahead rest c f low high a s b lower,
      )

  module _ (loose : List ℕ) (x y : List ℕ) (under : IsUnder (numbers ahead) (numbers rest) ups lefts rights downs) where
    abbrev look2 : ℕ → Option (List ℕ)
    look2 = put (put look c x) f y

    once_all : IsOpenTree width count look root free (up ++ one) ls fs holes (f ∷ loose) → (k : ℕ) → times k (numbers x1) + times k (n ∷ []) + times k (numbers x2) + times k (c ∷ []) + times k (numbers x3) + times k (numbers ls) + times k (numbers fs) + times k (f ∷ []) ≤ 1
    once_all o k = omega (arith, o.once k, tree_times k (up ++ one) ls fs, times_one k)

    placed_two : ((k : ℕ) → (k ≡ c → ⊥) → (k ≡ n → ⊥) → times k holes ≡ 0) → IsOpenTree width count look root free (up ++ one) ls fs holes (f ∷ loose) → inner_in width x ≡ Some (low, a) → inner_in width y ≡ Some (high, b) → inner_half width ≤ length a → inner_half width ≤ length b
        → EachOf (Placed width look2 root (n ∷ [])) (all_inner (up ++ two))
    placed_two only o reads reads' half half' =
        let all = subst (EachOf (Placed width look root holes)) all_one o.placed in
        let after = each_second (Placed width look root holes) x1 (p1 ∷ (x2 ++ h ∷ x3)) all in
        let behind = each_second (Placed width look root holes) x2 (h ∷ x3) after.1 in
        let still : (us : List Inner) → AreNoHoles holes us → times c (numbers us) ≡ 0 → times f (numbers us) ≡ 0 → times n (numbers us) ≡ 0 → EachOf (Placed width look root holes) us → EachOf (Placed width look2 root (n ∷ [])) us =
        λ us none no_c no_f no_n each. placed_still width (put look c x) root (n ∷ []) (n ∷ []) f y us (no_hole_but n us no_n) no_f (placed_still width look root holes (n ∷ []) c x us none no_c each) in
        let none : (us : List Inner) → times c (numbers us) ≡ 0 → times n (numbers us) ≡ 0 → AreNoHoles holes us = λ us no_c no_n k some. only k (λ e. absurd (omega (arith, some, no_c, ap (λ j. times j (numbers us)) e))) (λ e. absurd (omega (arith, some, no_n, ap (λ j. times j (numbers us)) e))) in
        let oc = once_all o c in
        let of = once_all o f in
        let on = once_all o n in
        let oo = times_own c in
        let off = times_own f in
        let onn = times_own n in
        let apart : c ≡ f → ⊥ = λ e. absurd (omega (arith, oc, oo, ap (λ k. times c (k ∷ [])) e)) in
        let first = still x1 (none x1 (omega (arith, oc, oo)) (omega (arith, on, onn))) (omega (arith, oc, oo)) (omega (arith, of, off)) (omega (arith, on, onn)) (each_first (Placed width look root holes) x1 (p1 ∷ (x2 ++ h ∷ x3)) all) in
        let second = still x2 (none x2 (omega (arith, oc, oo)) (omega (arith, on, onn))) (omega (arith, oc, oo)) (omega (arith, of, off)) (omega (arith, on, onn)) (each_first (Placed width look root holes) x2 (h ∷ x3) after.1) in
        let third = still x3 (none x3 (omega (arith, oc, oo)) (omega (arith, on, onn))) (omega (arith, oc, oo)) (omega (arith, of, off)) (omega (arith, on, onn)) behind.1 in
        let here : Placed width look2 root (n ∷ []) h1 = inr (ap (says (inner_in width)) (put_other (put look c x) f y c apart ∙ put_here look c x) ∙ reads, inr half) in
        let new : Placed width look2 root (n ∷ []) h2 = inr (ap (says (inner_in width)) (put_here (put look c x) f y) ∙ reads', inr half') in
        let hole : Placed width look2 root (n ∷ []) p2 = inl (omega (arith, times_own n)) in
        subst (EachOf (Placed width look2 root (n ∷ []))) (sym all_two)
        (each_both (Placed width look2 root (n ∷ [])) x1 (p2 ∷ (x2 ++ h1 ∷ h2 ∷ x3)) first (hole, each_both (Placed width look2 root (n ∷ [])) x2 (h1 ∷ h2 ∷ x3) second (here, (new, third))))

    module _ (some : root ≡ 0 → ⊥) (place : length lefts ≡ length ss) where
      fences_two : EachIn HasMore up → EachOf HasMore ups → Hangs (top_numbers root) (up ++ one) (numbers ls) → fences [] (up ++ one) ≡ fences [] (up ++ two)
      fences_two more more_ups hangs =
          fences_swap up one two [] (top_numbers root) (numbers ls)
          (λ ms o hangs even. fences_same ups downs n lefts rights ss ts ahead rest c f low high a s b lower under more_ups place o
          (omega (arith, even, ap (λ (l : List ℕ). length l) hangs.0, numbers_length (ups ++ p1 ∷ downs), length-append ups (p1 ∷ downs))))
          more hangs (top_one root some)

      more_parts : (qs : List Inner) → EachOf HasMore (x1 ++ p1 ∷ (x2 ++ qs)) → EachIn HasMore up × EachOf HasMore ups
      more_parts qs all =
          let first = each_first HasMore x1 (p1 ∷ (x2 ++ qs)) all in
          (each_levels HasMore up (each_first HasMore (all_inner up) ups first), each_second HasMore (all_inner up) ups first)

      -- the block is cut, both halves are written, and the parent, with one child more, is to be written
      pub open_cut : ((k : ℕ) → (k ≡ c → ⊥) → (k ≡ n → ⊥) → times k holes ≡ 0) → IsOpenTree width count look root free (up ++ one) ls fs holes (f ∷ loose) → inner_in width x ≡ Some (low, a) → inner_in width y ≡ Some (high, b) → inner_half width ≤ length a → inner_half width ≤ length b
          → IsOpenTree width count look2 root free (up ++ two) ls fs (n ∷ []) loose
      open_cut only o reads reads' half half' =
          let all = subst (EachOf HasMore) all_one o.more in
          let parts = more_parts (h ∷ x3) all in
          let after = each_second HasMore x1 (p1 ∷ (x2 ++ h ∷ x3)) all in
          let behind = each_second HasMore x2 (h ∷ x3) after.1 in
          let one_more : HasMore p2 = omega (arith, after.0, length-append lefts (c ∷ rights), length-append lefts (c ∷ f ∷ rights), length-append ss ts, length-append ss (s ∷ ts)) in
          let same = fences_two parts.0 parts.1 o.hangs in
          let oc = once_all o c in
          let of = once_all o f in
          record {
            free_is = o.free_is;
            more = subst (EachOf HasMore) (sym all_two) (each_both HasMore x1 (p2 ∷ (x2 ++ h1 ∷ h2 ∷ x3)) (each_first HasMore x1 (p1 ∷ (x2 ++ h ∷ x3)) all)
                (one_more, each_both HasMore x2 (h1 ∷ h2 ∷ x3) (each_first HasMore x2 (h ∷ x3) after.1) ((inner_says width x (low, a) reads).inner.more, ((inner_says width y (high, b) reads').inner.more, behind.1))));
            placed = placed_two only o reads reads' half half';
            chain = chain_still (leaf_in width) (put look c x) f y ls 0 (omega (arith, of, times_own f)) (chain_still (leaf_in width) look c x ls 0 (omega (arith, oc, times_own c)) o.chain);
            spare = chain_still free_in (put look c x) f y fs 0 (omega (arith, of, times_own f)) (chain_still free_in look c x fs 0 (omega (arith, oc, times_own c)) o.spare);
            half = o.half;
            hangs = hangs_swap up one two (top_numbers root) (numbers ls) (λ ms h. hangs_cut ups downs n lefts rights ss ts ahead rest c f low high a s b lower under ms (numbers ls) h) o.hangs;
            rises = subst (λ fences'. AreInByteOrder (lace (leaf_pieces ls) (marked 0 fences'))) same o.rises;
            count_is = omega (arith, o.count_is, tree_length (up ++ one) ls fs, tree_length (up ++ two) ls fs, count_two);
            once = λ k. omega (arith, o.once k, tree_times k (up ++ one) ls fs, tree_times k (up ++ two) ls fs, times_two k);
            low = λ k more. o.low k (omega (arith, more, tree_times k (up ++ one) ls fs, tree_times k (up ++ two) ls fs, times_two k));
            zero = omega (arith, o.zero, tree_times 0 (up ++ one) ls fs, tree_times 0 (up ++ two) ls fs, times_two 0);
          }

      -- two blocks are one, which isn't written, nor is the parent, which has one child less; the second is in no place
      pub open_join : ((k : ℕ) → (k ≡ c → ⊥) → (k ≡ f → ⊥) → times k holes ≡ 0) → IsOpenTree width count look root free (up ++ two) ls fs holes loose → IsOpenTree width count look root free (up ++ one) ls fs (n ∷ c ∷ []) (f ∷ loose)
      open_join only o =
          let all = subst (EachOf HasMore) all_two o.more in
          let first_more = each_first HasMore x1 (p2 ∷ (x2 ++ h1 ∷ h2 ∷ x3)) all in
          let after = each_second HasMore x1 (p2 ∷ (x2 ++ h1 ∷ h2 ∷ x3)) all in
          let behind = each_second HasMore x2 (h1 ∷ h2 ∷ x3) after.1 in
          let one_less : HasMore p1 = omega (arith, after.0, length-append lefts (c ∷ rights), length-append lefts (c ∷ f ∷ rights), length-append ss ts, length-append ss (s ∷ ts)) in
          let joined : HasMore h = omega (arith, behind.0, behind.1.0, length-append low high, length-append a (s ∷ b)) in
          let hangs = hangs_swap up two one (top_numbers root) (numbers ls) (λ ms h. hangs_join ups downs n lefts rights ss ts ahead rest c f low high a s b lower under ms (numbers ls) h) o.hangs in
          let same = fences_two (each_levels HasMore up (each_first HasMore (all_inner up) ups first_more)) (each_second HasMore (all_inner up) ups first_more) hangs in
          let once : (k : ℕ) → times k (numbers x1) + times k (n ∷ []) + times k (numbers x2) + times k (c ∷ []) + times k (numbers x3) + times k (f ∷ []) ≤ 1 =
          λ k. omega (arith, o.once k, tree_times k (up ++ two) ls fs, times_two k, times_one k) in
          let placed = subst (EachOf (Placed width look root holes)) all_two o.placed in
          let after' = each_second (Placed width look root holes) x1 (p2 ∷ (x2 ++ h1 ∷ h2 ∷ x3)) placed in
          let behind' = each_second (Placed width look root holes) x2 (h1 ∷ h2 ∷ x3) after'.1 in
          let oc = once c in
          let of = once f in
          let still : (us : List Inner) → times c (numbers us) ≡ 0 → times f (numbers us) ≡ 0 → EachOf (Placed width look root holes) us → EachOf (Placed width look root (n ∷ c ∷ [])) us =
          λ us no_c no_f each. placed_kept width look root holes (n ∷ c ∷ []) us (λ k some. only k (λ e. absurd (omega (arith, some, no_c, ap (λ j. times j (numbers us)) e))) (λ e. absurd (omega (arith, some, no_f, ap (λ j. times j (numbers us)) e)))) each in
          let first = still x1 (omega (arith, oc, times_own c)) (omega (arith, of, times_own f)) (each_first (Placed width look root holes) x1 (p2 ∷ (x2 ++ h1 ∷ h2 ∷ x3)) placed) in
          let second = still x2 (omega (arith, oc, times_own c)) (omega (arith, of, times_own f)) (each_first (Placed width look root holes) x2 (h1 ∷ h2 ∷ x3) after'.1) in
          let third = still x3 (omega (arith, oc, times_own c)) (omega (arith, of, times_own f)) behind'.1.1 in
          let here : Placed width look root (n ∷ c ∷ []) h = inl (omega (arith, times_own c)) in
          let next : Placed width look root (n ∷ c ∷ []) p1 = inl (omega (arith, times_own n)) in
          record {
            free_is = o.free_is;
            more = subst (EachOf HasMore) (sym all_one) (each_both HasMore x1 (p1 ∷ (x2 ++ h ∷ x3)) first_more (one_less, each_both HasMore x2 (h ∷ x3) (each_first HasMore x2 (h1 ∷ h2 ∷ x3) after.1) (joined, behind.1.1)));
            placed = subst (EachOf (Placed width look root (n ∷ c ∷ []))) (sym all_one) (each_both (Placed width look root (n ∷ c ∷ [])) x1 (p1 ∷ (x2 ++ h ∷ x3)) first (next, each_both (Placed width look root (n ∷ c ∷ [])) x2 (h ∷ x3) second (here, third)));
            chain = o.chain;
            spare = o.spare;
            half = o.half;
            hangs = hangs;
            rises = subst (λ fences'. AreInByteOrder (lace (leaf_pieces ls) (marked 0 fences'))) (sym same) o.rises;
            count_is = omega (arith, o.count_is, tree_length (up ++ one) ls fs, tree_length (up ++ two) ls fs, count_two);
            once = λ k. omega (arith, o.once k, tree_times k (up ++ one) ls fs, tree_times k (up ++ two) ls fs, times_two k);
            low = λ k more. o.low k (omega (arith, more, tree_times k (up ++ one) ls fs, tree_times k (up ++ two) ls fs, times_two k));
            zero = omega (arith, o.zero, tree_times 0 (up ++ one) ls fs, tree_times 0 (up ++ two) ls fs, times_two 0);
          }

-- a block that isn't written yet is written
pub open_fill : (width count : ℕ) (look : ℕ → Option (List ℕ)) (root free : ℕ) (us : List (List Inner)) (ls : List Leaf) (fs : List Spare) (holes next loose : List ℕ) (ahead rest : List Inner) (b : ℕ) (x : List ℕ × List (List ℕ)) (bytes : List ℕ) → all_inner us ≡ ahead ++ (b, x) ∷ rest
    → ((k : ℕ) → (k ≡ b → ⊥) → 0 < times k holes → 0 < times k next) → IsOpenTree width count look root free us ls fs holes loose → inner_in width bytes ≡ Some x → (b ≡ root) ⊎ (inner_half width ≤ length x.1) → IsOpenTree width count (put look b bytes) root free us ls fs next loose
open_fill width count look root free us ls fs holes next loose ahead rest b x bytes is fewer o reads half =
    let once : times b (numbers ahead) + times b (b ∷ []) + times b (numbers rest) + times b (numbers ls) + times b (numbers fs) ≤ 1 =
    omega (arith, o.once b, tree_times b us ls fs, ap (times b) (numbers_of_all us ∙ ap numbers is), numbers_times b ahead ((b, x) ∷ rest)) in
    let own = times_own b in
    let placed = subst (EachOf (Placed width look root holes)) is o.placed in
    let filled : (vs : List Inner) → times b (numbers vs) ≡ 0 → EachOf (Placed width look root holes) vs → EachOf (Placed width (put look b bytes) root next) vs = λ vs none all. placed_filled width look root holes next b bytes fewer vs none all in
    let here : Placed width (put look b bytes) root next (b, x) = inr (ap (says (inner_in width)) (put_here look b bytes) ∙ reads, half) in
    record {
      free_is = o.free_is;
      more = o.more;
      placed = subst (EachOf (Placed width (put look b bytes) root next)) (sym is) (each_both (Placed width (put look b bytes) root next) ahead ((b, x) ∷ rest)
          (filled ahead (omega (arith, once, own)) (each_first (Placed width look root holes) ahead ((b, x) ∷ rest) placed))
          (here, filled rest (omega (arith, once, own)) (each_second (Placed width look root holes) ahead ((b, x) ∷ rest) placed).1));
      chain = chain_still (leaf_in width) look b bytes ls 0 (omega (arith, once, own)) o.chain;
      spare = chain_still free_in look b bytes fs 0 (omega (arith, once, own)) o.spare;
      half = o.half;
      hangs = o.hangs;
      rises = o.rises;
      count_is = o.count_is;
      once = o.once;
      low = o.low;
      zero = o.zero;
    }
