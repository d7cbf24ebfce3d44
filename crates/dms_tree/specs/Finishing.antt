-- An insert that cuts its leaf: from the leaf to the first block above it that isn't written, and the last two writes.
use Rattle.std.proofs.Common.{◌≡◌, ◌≢◌, ℕ, zero, suc, ◌+◌, ◌*◌, ◌/◌, ◌-◌, ◌^◌, ◌≤◌, ◌<◌, ◌⊎◌, inl, inr, max, IsTrue, List, [], ◌∷◌, ◌++◌, Bool, true, false, cond, Some, refl, sym, ap, subst, ◌∙◌, length, take, drop, slice_get, get_or, length-append, append_assoc, arith}
use Rattle.std.specs.declared.option.Option.{Option}
use Rattle.std.proofs.Math.Nat as nat
use Rattle.std.proofs.lemmas.Bool.{cases_lt}
use Rattle.std.proofs.lemmas.List.{length-take-le, take-append-drop}
use Rattle.std.proofs.lemmas.Bool.Decides.{nat_tests}
use Rattle.dms_block.specs.declared.blocks.Blocks.{Ghosts}
use Rattle.dms_block.specs.declared.overlay.Overlay.{Overlay}
use Rattle.dms_block.specs.Content.{Content, put_block, raise_count, with_block}
use Rattle.dms_block.specs.ContentLaws.{in_file, in_others, laid_length}
use Rattle.dms_block.specs.View.{overlay_content, seen_counts, under}
use Rattle.dms_chain.specs.Laid.{laid_look}
use Rattle.dms_chain.specs.Leads.{rises_first, rises_second, rising_is}
use Rattle.dms_chain.specs.Linked.{front, numbers, put, said_by, times}
use Rattle.dms_chain.specs.LinkedLaws.{chain_still, numbers_times, times_append, times_own}
use Rattle.dms_chain.specs.ListBlocks.{flat, free_in, leaf_bytes, leaf_in}
use Rattle.dms_chain.specs.ListIn.{Leaf, Spare, entries_of}
use Rattle.dms_chain.specs.Lists.{AreInByteOrder}
use Rattle.dms_chain.specs.Parts.{front_low, wide_first, wide_second}
use Rattle.dms_chain.specs.Seen.{IsListWidth}
use Rattle.dms_chain.specs.SpellLaws.{AllWide, HoldsEntries, leaf_again, wide_room}
use Rattle.dms_tree.specs.declared.raising.Hole.{Hole}
use Rattle.dms_tree.specs.declared.raising.PathStep.{PathStep}
use Rattle.dms_tree.specs.LeafCuts.{hole_as, leaf_cut, leaf_over}
use Rattle.dms_tree.specs.Levels.{Hangs, Inner, inner_numbers, top_numbers, weave}
use Rattle.dms_tree.specs.OpenMoves.{top_is}
use Rattle.dms_tree.specs.OpenRoots.{closes_tree}
use Rattle.dms_tree.specs.OpenTree.{IsOpenTree, all_inner, numbers_of_all, placed_still, put_here, tree_times}
use Rattle.dms_tree.specs.Paths.{IsPath, LastStep, Step, path_last}
use Rattle.dms_tree.specs.Settles.{IsHole, hole_fill}
use Rattle.dms_tree.specs.Settling.{Settles, next_near, with_kid}
use Rattle.dms_tree.specs.TreeBlocks.{inner_bytes, inner_half, inner_in, leaf_half, root_bytes, root_in}
use Rattle.dms_tree.specs.TreeIn.{IsTree, tree_in, tree_numbers}
use Rattle.dms_tree.specs.TreeLaws.{tree_of}
use Rattle.dms_tree.specs.TreeSpells.{AreNumbers, IsInner, inner_again, root_again}
use Rattle.dms_tree.specs.Ups.{ArePassed, Follow, HoleHolds, IsPassed, IsRaised, IsUp, RaisedPath, RaisedRoot, end_after, end_more, fits, hole_end, hole_kids, kids_numbers, more_times, needs, passed_second, step_of, steps_append, steps_of}

-- the head is written

pub open_head : (width count : ℕ) (look : ℕ → Option (List ℕ)) (root free : ℕ) (us : List (List Inner)) (ls : List Leaf) (fs : List Spare) (loose : List ℕ) (bytes : List ℕ) → IsOpenTree width count look root free us ls fs [] loose → IsOpenTree width count (put look 0 bytes) root free us ls fs [] loose
open_head width count look root free us ls fs loose bytes o =
    let parts = tree_times 0 us ls fs in
    record {
      free_is = o.free_is;
      more = o.more;
      placed = placed_still width look root [] [] 0 bytes (all_inner us) (λ k some. refl) (omega (arith, o.zero, parts, ap (times 0) (numbers_of_all us))) o.placed;
      chain = chain_still (leaf_in width) look 0 bytes ls 0 (omega (arith, o.zero, parts)) o.chain;
      spare = chain_still free_in look 0 bytes fs 0 (omega (arith, o.zero, parts)) o.spare;
      half = o.half;
      hangs = o.hangs;
      rises = o.rises;
      count_is = o.count_is;
      once = o.once;
      low = o.low;
      zero = o.zero;
    }

top_low : (us : List (List Inner)) (root : ℕ) (leaves : List ℕ) → (root ≡ 0 → ⊥) → Hangs (top_numbers root) us leaves → 0 < times root (inner_numbers us) + times root leaves
top_low [] root leaves some hangs = omega (arith, ap (times root) (sym hangs ∙ top_is root some), times_own root)
top_low (u ∷ us) root leaves some hangs = omega (arith, ap (times root) (hangs.0 ∙ top_is root some), times_own root, times_append root (numbers u) (inner_numbers us))

pub closes_list : (width : ℕ) (bs : List (List ℕ)) (root free : ℕ) (us : List (List Inner)) (ls : List Leaf) (fs : List Spare) → length bs ≤ 2097152 → (root ≡ 0 → ⊥) → IsOpenTree width (length bs) (slice_get bs) root free us ls fs [] [] → tree_in width (put_block 0 (root_bytes root free) bs) ≡ Some (entries_of ls)
closes_list width bs root free us ls fs most some o =
    let bytes = root_bytes root free in
    let size : length bs ≡ length (put_block 0 bytes bs) = omega (arith, o.count_is, laid_length 0 bytes bs (omega arith)) in
    let look = laid_look 0 bytes bs (omega arith) in
    let low : root < length bs = o.low root (omega (arith, top_low us root (numbers ls) some o.hangs, tree_times root us ls fs)) in
    let low' : free < length bs = subst (λ k. k < length bs) o.free_is (front_low fs (length bs) (omega (arith, o.count_is)) (λ k more. o.low k (omega (arith, more, tree_times k us ls fs)))) in
    let said : said_by root_in (put (slice_get bs) 0 bytes 0) ≡ Some (root, free) = ap (said_by root_in) (put_here (slice_get bs) 0 bytes) ∙ root_again root free (omega (arith, most, low)) (omega (arith, most, low')) in
    let closed = closes_tree width (length bs) (put (slice_get bs) 0 bytes) root free us ls fs (open_head width (length bs) (slice_get bs) root free us ls fs [] bytes o) (λ more. omega (arith, ap (λ (l : List ℕ). length l) (top_is root some))) said in
    tree_of width (put_block 0 bytes bs) root us ls fs (subst (λ (l : ℕ → Option (List ℕ)). IsTree width (length (put_block 0 bytes bs)) l root us ls fs) (sym look) (subst (λ n. IsTree width n (put (slice_get bs) 0 bytes) root us ls fs) size closed))

-- the block that isn't written yet, and then the head
pub finish_list : (width : ℕ) (bs : List (List ℕ)) (h : Hole) (free : ℕ) (xs : List (List ℕ)) → HoleHolds (length bs) h → h.width ≡ width → length h.inner.seps.items * (h.width + 4) ≤ 1017 → h.fresh.items ≡ [] → hole_end (length bs) h ≤ 2097152 → IsUp (hole_end (length bs) h) free bs h xs
    → tree_in width (put_block 0 (root_bytes h.root free) (put_block h.number (inner_bytes h.inner.kids.items h.inner.seps.items) bs)) ≡ Some xs
finish_list width bs h free xs holds width_is room none most up =
    let kids = h.inner.kids.items in
    let seps = h.inner.seps.items in
    let end = hole_end (length bs) h in
    let inner : IsInner h.width kids seps = record { more = holds.more; some = holds.some; room = room; wide = holds.wide } in
    let each = hole_kids h.width end (slice_get bs) h.root free (steps_of h.path.items) h.number kids seps (h.number ∷ []) h.fresh.items xs up in
    let bytes = inner_bytes kids seps in
    let reads = inner_again h.width kids seps inner (kids_numbers kids end most each) in
    let up' = hole_as h.width end (slice_get bs) free xs h.root h.root (steps_of h.path.items) (steps_of h.path.items) h.number h.number kids kids seps seps h.fresh.items [] refl refl refl refl refl none up in
    let filled = hole_fill h.width end (slice_get bs) h.root free (steps_of h.path.items) h.number kids seps [] xs bytes up' reads in
    let bs' = put_block h.number bytes bs in
    let size : end ≡ length bs' = ap (end_after (max (length bs) (h.number + 1))) none ∙ sym (laid_length h.number bytes bs holds.near) in
    let us = up'.over ++ (up'.ups ++ (h.number, (kids, seps)) ∷ up'.downs) ∷ up'.lower in
    let o = subst (λ n. IsOpenTree h.width n (slice_get bs') h.root free us up'.leaves up'.spares [] []) size
    (subst (λ (l : ℕ → Option (List ℕ)). IsOpenTree h.width end l h.root free us up'.leaves up'.spares [] []) (sym (laid_look h.number bytes bs holds.near)) filled) in
    subst (λ w. tree_in w (put_block 0 (root_bytes h.root free) bs') ≡ Some xs) width_is (closes_list h.width bs' h.root free us up'.leaves up'.spares (omega (arith, most, size)) up'.some o ∙ ap Some up'.entries)

-- a leaf that has an entry too many

pub record LeafHolds (count width : ℕ) (fresh : List ℕ) (path : List PathStep) (number : ℕ) (es : List (List ℕ)) : Type 0 where
  pub wide_is : IsListWidth width
  pub near : number < count
  pub follows : Follow count fresh
  pub wide : AllWide width es
  pub rising : AreInByteOrder es
  pub many : 1017 < length es * width
  pub almost : length es * width ≤ 1017 + width
  pub passed : ArePassed width count path
  pub needs_is : length fresh ≡ needs width path

pub record IsLeafUp (width end free : ℕ) (bs : List (List ℕ)) (root : ℕ) (path : List PathStep) (number next : ℕ) (new : List (List ℕ)) (fresh : List ℕ) (xs : List (List ℕ)) : Type 0 where
  pub us : List (List Inner)
  pub ahead : List Leaf
  pub rest : List Leaf
  pub old : List (List ℕ)
  pub spares : List Spare
  pub opened : IsOpenTree width end (slice_get bs) root free us (ahead ++ (number, old) ∷ rest) spares [] fresh
  pub some : root ≡ 0 → ⊥
  pub way : IsPath (steps_of path) us 0 root (length ahead) number
  pub next_is : next ≡ front rest 0
  pub rises : AreInByteOrder (weave us (ahead ++ (number, new) ∷ rest))
  pub full : leaf_half width ≤ length old
  pub entries : entries_of (ahead ++ (number, new) ∷ rest) ≡ xs

-- its entries in two halves
pub record AreLeafHalves (es low high : List (List ℕ)) (sep : List ℕ) : Type 0 where
  pub is : es ≡ low ++ high
  pub half : length low ≡ length es / 2
  pub first : sep ≡ get_or high 0 sep

pub over_half : (w n : ℕ) → 0 < w → 1017 < n * w → 1017 / w < n
over_half w n some many = elim (cases_lt (1017 / w) n) [
  | inl less ↦ less
  | inr past ↦ absurd (omega (arith, many, (nat.le-div_iff_mul-le {k = w} {x = n} {y = 1017} some).0 past))
]

twice : (m k : ℕ) → (2 * m) * k ≡ 2 * (m * k)
twice m k = grind arith

and_one : (m k : ℕ) → (m + 1) * k ≡ m * k + k
and_one m k = grind arith

pub record LeafSizes (width a b : ℕ) : Type 0 where
  pub low : leaf_half width ≤ a
  pub high : leaf_half width ≤ b
  pub some : 0 < a
  pub some' : 0 < b
  pub room : a * width ≤ 1017
  pub room' : b * width ≤ 1017

pub leaf_sizes : (width n a b : ℕ) → IsListWidth width → 1017 < n * width → n * width ≤ 1017 + width → a ≡ n / 2 → n ≡ a + b → LeafSizes width a b
leaf_sizes width n a b w many almost is sum =
    let most = over_half width n (omega (arith, w.low)) many in
    let nine : 9 ≤ 1017 / width = (nat.le-div_iff_mul-le {k = width} {x = 9} {y = 1017} (omega (arith, w.low))).1 (omega (arith, w.most)) in
    let room : 2 * (a * width) ≤ 1017 + width = omega (arith, almost, more_times (2 * a) n width (omega (arith, is)), twice a width) in
    record {
      low = omega (arith, most, is);
      high = omega (arith, most, is, sum);
      some = omega (arith, most, nine, is);
      some' = omega (arith, most, nine, is, sum);
      room = omega (arith, room, w.most);
      room' = omega (arith, room, w.most, more_times b (a + 1) width (omega (arith, is, sum)), and_one a width);
    }

pub last_off : (xs : List (List ℕ)) → 0 < length xs → (ds : List (List ℕ)) × (x : List ℕ) × (xs ≡ ds ++ x ∷ [])
last_off [] some = absurd (omega (arith, some))
last_off (x ∷ []) some = ([], x, refl)
last_off (x ∷ y ∷ xs) some = let r = last_off (y ∷ xs) (omega arith) in (x ∷ r.0, r.1, ap (λ (l : List (List ℕ)). x ∷ l) r.2)

pub first_off : (xs : List (List ℕ)) (x : List ℕ) → 0 < length xs → x ≡ get_or xs 0 x → (gs : List (List ℕ)) × (xs ≡ x ∷ gs)
first_off [] x some at = absurd (omega (arith, some))
first_off (y ∷ xs) x some at = (xs, ap (λ (z : List ℕ). z ∷ xs) (sym at))

two_look : (bs : List (List ℕ)) (n f : ℕ) (x y : List ℕ) → n < length bs → f ≤ length bs → slice_get (put_block f y (put_block n x bs)) ≡ put (put (slice_get bs) n x) f y
two_look bs n f x y near near' = laid_look f y (put_block n x bs) (omega (arith, near', near, laid_length n x bs (omega (arith, near)))) ∙ ap (λ (look : ℕ → Option (List ℕ)). put look f y) (laid_look n x bs (omega (arith, near)))

module _ (width : ℕ) (bs : List (List ℕ)) (root : ℕ) (path : List PathStep) (number next f free : ℕ) (fresh : List ℕ) (new low high : List (List ℕ)) (sep : List ℕ) (h' : Hole) (xs : List (List ℕ)) (holds : LeafHolds (length bs) width (f ∷ fresh) path number new) (halves : AreLeafHalves new low high sep) (width_is : h'.width ≡ width)
    (most : end_after (length bs) (f ∷ fresh) ≤ 2097152) where
  abbrev end : ℕ
  end = end_after (length bs) (f ∷ fresh)

  sizes : LeafSizes width (length low) (length high)
  sizes = leaf_sizes width (length new) (length low) (length high) holds.wide_is holds.many holds.almost halves.half (omega (arith, ap (λ (l : List (List ℕ)). length l) halves.is, length-append low high))

  wides : AllWide width (low ++ high)
  wides = subst (AllWide width) halves.is holds.wide

  rising : AreInByteOrder (low ++ high)
  rising = subst AreInByteOrder halves.is holds.rising

  low_again : (n : ℕ) → n < 2 ^ 32 → leaf_in width (leaf_bytes n low) ≡ Some (n, low)
  low_again n le = leaf_again width n low (omega (arith, holds.wide_is.low)) le (wide_first width low high wides) (record { some = sizes.some; room = sizes.room; rising = rising_is low (rises_first low high rising) })

  high_again : (n : ℕ) → n < 2 ^ 32 → leaf_in width (leaf_bytes n high) ≡ Some (n, high)
  high_again n le = leaf_again width n high (omega (arith, holds.wide_is.low)) le (wide_second width low high wides) (record { some = sizes.some'; room = sizes.room'; rising = rising_is high (rises_second low high rising) })

  abbrev look2 : ℕ → Option (List ℕ)
  look2 = put (put (slice_get bs) number (leaf_bytes f low)) f (leaf_bytes next high)

  abbrev Goal : Type 0
  Goal = IsHole width end look2 h'.root free (steps_of h'.path.items) h'.number h'.inner.kids.items h'.inner.seps.items (h'.number ∷ []) h'.fresh.items xs

  module _ (u : IsLeafUp width end free bs root path number next new (f ∷ fresh) xs) (ds : List (List ℕ)) (x : List ℕ) (gs : List (List ℕ)) (low_is : low ≡ ds ++ x ∷ []) (high_is : high ≡ sep ∷ gs) where
    f_low : f < 2 ^ 32
    f_low = omega (arith, most, end_more (max (length bs) (f + 1)) fresh)

    next_low : next < 2 ^ 32
    next_low = omega (arith, most, u.next_is, front_low u.rest end (omega (arith, u.opened.count_is)) (λ k more. u.opened.low k (omega (arith, more, tree_times k u.us (u.ahead ++ (number, u.old) ∷ u.rest) u.spares, numbers_times k u.ahead ((number, u.old) ∷ u.rest)))))

    reads : leaf_in width (leaf_bytes f low) ≡ Some (f, ds ++ x ∷ [])
    reads = low_again f f_low ∙ ap (λ (l : List (List ℕ)). Some (f, l)) low_is

    reads' : leaf_in width (leaf_bytes next high) ≡ Some (front u.rest 0, sep ∷ gs)
    reads' = high_again next next_low ∙ (λ i. Some (u.next_is i, high_is i))

    same : new ≡ (ds ++ x ∷ []) ++ sep ∷ gs
    same = halves.is ∙ (λ i. low_is i ++ high_is i)

    wide : length x ≡ length sep
    wide = (wide_second width ds (x ∷ []) (subst (AllWide width) low_is (wide_first width low high wides))).0 ∙ sym (subst (AllWide width) high_is (wide_second width low high wides)).0

    half : leaf_half width ≤ length (ds ++ x ∷ [])
    half = subst (λ (l : List (List ℕ)). leaf_half width ≤ length l) low_is sizes.low

    half' : leaf_half width ≤ length (sep ∷ gs)
    half' = subst (λ (l : List (List ℕ)). leaf_half width ≤ length l) high_is sizes.high

    rises : AreInByteOrder (weave u.us (u.ahead ++ (number, (ds ++ x ∷ []) ++ sep ∷ gs) ∷ u.rest))
    rises = subst (λ (l : List (List ℕ)). AreInByteOrder (weave u.us (u.ahead ++ (number, l) ∷ u.rest))) same u.rises

    entries : entries_of (u.ahead ++ (number, (ds ++ x ∷ []) ++ sep ∷ gs) ∷ u.rest) ≡ xs
    entries = ap (λ (l : List (List ℕ)). entries_of (u.ahead ++ (number, l) ∷ u.rest)) (sym same) ∙ u.entries

    by_path : RaisedPath root fresh path f sep h' → Goal
    by_path r =
        let ps = steps_of h'.path.items in
        let s = step_of r.step in
        let one = (passed_second width (length bs) h'.path.items (r.step ∷ []) (subst (ArePassed width (length bs)) r.path_is holds.passed)).0 in
        let way = subst (λ (l : List Step). IsPath l u.us 0 root (length u.ahead) number) (ap steps_of r.path_is ∙ steps_append h'.path.items (r.step ∷ [])) u.way in
        let last = path_last ps s u.us 0 root (length u.ahead) number way in
        let cut = leaf_cut width end (slice_get bs) free u.ahead u.rest number f u.old ds x sep gs u.spares fresh (leaf_bytes f low) (leaf_bytes next high) wide reads reads' half half' root u.us [] ps s (λ k off away. refl) (λ some. absurd (omega (arith, some))) u.opened u.some way one.fit rises in
        let kids = r.kids_is ∙ with_kid r.step.inner.kids.items r.step.taken number f last.step.low last.step.below_is in
        subst (λ (l : List (List ℕ)). IsHole width end look2 h'.root free ps h'.number h'.inner.kids.items h'.inner.seps.items (h'.number ∷ []) h'.fresh.items l) entries
        (hole_as width end look2 free _ root h'.root ps ps r.step.number h'.number (take s.taken s.kids ++ number ∷ f ∷ drop (suc s.taken) s.kids) h'.inner.kids.items (take s.taken s.seps ++ sep ∷ drop s.taken s.seps) h'.inner.seps.items fresh h'.fresh.items
        (sym r.root_is) refl (sym r.number_is) (sym kids) (sym r.seps_is) (sym r.fresh_is) cut)

    by_root : RaisedRoot fresh path number f sep h' → Goal
    by_root r =
        let n = h'.root in
        let o = subst (λ (l : List ℕ). IsOpenTree width end (slice_get bs) root free u.us (u.ahead ++ (number, u.old) ∷ u.rest) u.spares [] (f ∷ l)) r.fresh_is u.opened in
        let way = subst (λ (l : List Step). IsPath l u.us 0 root (length u.ahead) number) (ap steps_of r.path_is) u.way in
        let cut = leaf_over width end (slice_get bs) free u.ahead u.rest number f u.old ds x sep gs u.spares h'.fresh.items (leaf_bytes f low) (leaf_bytes next high) wide reads reads' half half' root n u.us o u.some way u.full rises in
        subst (λ (l : List (List ℕ)). IsHole width end look2 n free (steps_of h'.path.items) h'.number h'.inner.kids.items h'.inner.seps.items (h'.number ∷ []) h'.fresh.items l) entries
        (hole_as width end look2 free _ n n [] (steps_of h'.path.items) n h'.number (number ∷ f ∷ []) h'.inner.kids.items (sep ∷ []) h'.inner.seps.items h'.fresh.items h'.fresh.items refl (sym (ap steps_of r.path_now)) (sym r.number_is) (sym r.kids_is) (sym r.seps_is) refl cut)

    by_raised : IsRaised root fresh path number f sep h' → Goal
    by_raised (inl r) = by_path r
    by_raised (inr r) = by_root r

  pub leaf_up : IsRaised root fresh path number f sep h' → IsLeafUp width end free bs root path number next new (f ∷ fresh) xs → IsUp end free (put_block f (leaf_bytes next high) (put_block number (leaf_bytes f low) bs)) h' xs
  leaf_up raised u =
      let lasts = last_off low sizes.some in
      let firsts = first_off high sep sizes.some' halves.first in
      subst (λ (l : ℕ → Option (List ℕ)). IsHole h'.width end l h'.root free (steps_of h'.path.items) h'.number h'.inner.kids.items h'.inner.seps.items (h'.number ∷ []) h'.fresh.items xs) (sym (two_look bs number f (leaf_bytes f low) (leaf_bytes next high) holds.near holds.follows.0))
      (subst (λ v. IsHole v end look2 h'.root free (steps_of h'.path.items) h'.number h'.inner.kids.items h'.inner.seps.items (h'.number ∷ []) h'.fresh.items xs) (sym width_is) (by_raised u lasts.0 lasts.1 firsts.0 lasts.2 firsts.1 raised))

pub sep_wide : (width : ℕ) (new low high : List (List ℕ)) (sep : List ℕ) → IsListWidth width → 1017 < length new * width → length new * width ≤ 1017 + width → AllWide width new → AreLeafHalves new low high sep → length sep ≡ width
sep_wide width new low high sep w many almost wide halves =
    let s = leaf_sizes width (length new) (length low) (length high) w many almost halves.half (omega (arith, ap (λ (l : List (List ℕ)). length l) halves.is, length-append low high)) in
    let firsts = first_off high sep s.some' halves.first in
    (subst (AllWide width) firsts.1 (wide_second width low high (subst (AllWide width) halves.is wide))).0

pub leaf_rooms : (count width : ℕ) (fresh : List ℕ) (path : List PathStep) (number : ℕ) (new low high : List (List ℕ)) (sep : List ℕ) → LeafHolds count width fresh path number new → AreLeafHalves new low high sep → (length (flat low) ≤ 1017) × (length (flat high) ≤ 1017)
leaf_rooms count width fresh path number new low high sep holds halves =
    let s = leaf_sizes width (length new) (length low) (length high) holds.wide_is holds.many holds.almost halves.half (omega (arith, ap (λ (l : List (List ℕ)). length l) halves.is, length-append low high)) in
    let wide = subst (AllWide width) halves.is holds.wide in
    (wide_room width low (wide_first width low high wide) s.room, wide_room width high (wide_second width low high wide) s.room')

pub halves_of : (es low high : List (List ℕ)) (sep : List ℕ) (n half : ℕ) → n ≡ length es → half ≡ n / 2 → low ≡ take half es → high ≡ drop half es → sep ≡ get_or high 0 sep → AreLeafHalves es low high sep
halves_of es low high sep n half size is low_is high_is first = record {
  is = sym (take-append-drop half es) ∙ (λ i. sym low_is i ++ sym high_is i);
  half = ap (λ (l : List (List ℕ)). length l) low_is ∙ length-take-le half es (omega (arith, size, is)) ∙ is ∙ ap (λ k. k / 2) size;
  first = first;
}
