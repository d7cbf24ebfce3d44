-- The end of a remove: the last block is written, or a root of one child falls away, or the list is empty; and then the head.
use Rattle.std.proofs.Common.{◌≡◌, ℕ, zero, suc, ◌+◌, ◌*◌, ◌^◌, ◌≤◌, ◌<◌, ◌⊎◌, inl, inr, List, [], ◌∷◌, ◌++◌, Some, refl, sym, ap, subst, ◌∙◌, length, slice_get, length-append, arith}
use Rattle.std.specs.declared.option.Option.{Option}
use Rattle.dms_block.specs.Content.{put_block}
use Rattle.dms_block.specs.ContentLaws.{laid_length}
use Rattle.dms_chain.specs.Laid.{laid_look}
use Rattle.dms_chain.specs.Linked.{front, numbers, put, said_by, times}
use Rattle.dms_chain.specs.LinkedLaws.{times_append, times_own}
use Rattle.dms_chain.specs.ListBlocks.{free_bytes}
use Rattle.dms_chain.specs.ListIn.{Leaf, Spare, entries_of}
use Rattle.dms_chain.specs.SpellLaws.{AllWide, free_again}
use Rattle.dms_tree.specs.Finishing.{closes_list, open_head}
use Rattle.dms_tree.specs.Gaps.{Dropped, gap_drop, gap_fill}
use Rattle.dms_tree.specs.Joins.{IsGap}
use Rattle.dms_tree.specs.LaceLaws.{kids_append}
use Rattle.dms_tree.specs.Levels.{Inner, kids_of}
use Rattle.dms_tree.specs.Mends.{kids_in}
use Rattle.dms_tree.specs.OpenMoves.{open_give}
use Rattle.dms_tree.specs.OpenRoots.{closes_tree}
use Rattle.dms_tree.specs.OpenTree.{IsOpenTree, put_here, tree_times}
use Rattle.dms_tree.specs.Paths.{Step}
use Rattle.dms_tree.specs.Removes.{Emptied}
use Rattle.dms_tree.specs.TreeBlocks.{inner_bytes, inner_half, root_bytes, root_in}
use Rattle.dms_tree.specs.TreeIn.{IsTree, tree_in}
use Rattle.dms_tree.specs.TreeLaws.{tree_of}
use Rattle.dms_tree.specs.TreeSpells.{IsInner, inner_again, root_again}
use Rattle.dms_tree.specs.Ups.{kids_numbers}

gap_kids : (width count : ℕ) (look : ℕ → Option (List ℕ)) (root free : ℕ) (ss : List Step) (n : ℕ) (kids : List ℕ) (seps : List (List ℕ)) (holes loose : List ℕ) (xs : List (List ℕ)) → IsGap width count look root free ss n kids seps holes loose xs → (k : ℕ) → 0 < times k kids → k < count
gap_kids width count look root free ss n kids seps holes loose xs h k some =
    let u = h.ups ++ (n, (kids, seps)) ∷ h.downs in
    h.opened.low k (omega (
      arith,
      some,
      kids_in h.over u h.lower _ (numbers h.leaves) h.opened.hangs k,
      ap (times k) (kids_append h.ups ((n, (kids, seps)) ∷ h.downs)),
      times_append k (kids_of h.ups) (kids ++ kids_of h.downs),
      times_append k kids (kids_of h.downs),
      tree_times k (h.over ++ u ∷ h.lower) h.leaves h.spares,
    ))

-- a tree whose last block was written, in the words of the blocks
laid_open : (width : ℕ) (bs : List (List ℕ)) (n : ℕ) (bytes : List ℕ) (root free : ℕ) (us : List (List Inner)) (ls : List Leaf) (fs : List Spare) → n < length bs → IsOpenTree width (length bs) (put (slice_get bs) n bytes) root free us ls fs [] []
    → (length bs ≡ length (put_block n bytes bs)) × IsOpenTree width (length (put_block n bytes bs)) (slice_get (put_block n bytes bs)) root free us ls fs [] []
laid_open width bs n bytes root free us ls fs near o =
    let size : length bs ≡ length (put_block n bytes bs) = omega (arith, laid_length n bytes bs (omega (arith, near)), near) in
    (size, subst (λ k. IsOpenTree width k (slice_get (put_block n bytes bs)) root free us ls fs [] []) size (subst (λ (l : ℕ → Option (List ℕ)). IsOpenTree width (length bs) l root free us ls fs [] []) (sym (laid_look n bytes bs (omega (arith, near)))) o))

pub close_fill : (width : ℕ) (bs : List (List ℕ)) (root free : ℕ) (ss : List Step) (n : ℕ) (kids : List ℕ) (seps : List (List ℕ)) (xs : List (List ℕ)) → length bs ≤ 2097152 → n < length bs → IsInner width kids seps → (n ≡ root) ⊎ (inner_half width ≤ length seps) → IsGap width (length bs) (slice_get bs) root free ss n kids seps (n ∷ []) [] xs
    → tree_in width (put_block 0 (root_bytes root free) (put_block n (inner_bytes kids seps) bs)) ≡ Some xs
close_fill width bs root free ss n kids seps xs most near inner half h =
    let bytes = inner_bytes kids seps in
    let reads = inner_again width kids seps inner (kids_numbers kids (length bs) most (gap_kids width (length bs) (slice_get bs) root free ss n kids seps (n ∷ []) [] xs h)) in
    let us = h.over ++ (h.ups ++ (n, (kids, seps)) ∷ h.downs) ∷ h.lower in
    let laid = laid_open width bs n bytes root free us h.leaves h.spares near (gap_fill width (length bs) (slice_get bs) root free ss n kids seps [] xs bytes h reads half) in
    closes_list width (put_block n bytes bs) root free us h.leaves h.spares (omega (arith, most, laid.0)) h.some laid.1 ∙ ap Some h.entries

pub close_drop : (width : ℕ) (bs : List (List ℕ)) (root free n c : ℕ) (xs : List (List ℕ)) → length bs ≤ 2097152 → n < length bs → free < 2 ^ 32 → IsGap width (length bs) (slice_get bs) root free [] n (c ∷ []) [] (n ∷ []) [] xs
    → tree_in width (put_block 0 (root_bytes c n) (put_block n (free_bytes free) bs)) ≡ Some xs
close_drop width bs root free n c xs most near low h =
    let d = gap_drop width (length bs) (slice_get bs) root free n c [] xs h in
    let bytes = free_bytes free in
    let laid = laid_open width bs n bytes c n d.us d.leaves ((n, tt) ∷ d.spares) near (open_give width (length bs) (slice_get bs) c free d.us d.leaves [] [] n d.spares bytes d.opened (free_again free low)) in
    closes_list width (put_block n bytes bs) c n d.us d.leaves ((n, tt) ∷ d.spares) (omega (arith, most, laid.0)) d.some laid.1 ∙ ap Some d.entries

pub close_empty : (width : ℕ) (bs : List (List ℕ)) (free n : ℕ) (xs : List (List ℕ)) → length bs ≤ 2097152 → n < length bs → free < 2 ^ 32 → Emptied width (length bs) (slice_get bs) free n xs → tree_in width (put_block 0 (root_bytes 0 n) (put_block n (free_bytes free) bs)) ≡ Some xs
close_empty width bs free n xs most near low e =
    let bytes = free_bytes free in
    let fs : List Spare = (n, tt) ∷ e.spares in
    let laid = laid_open width bs n bytes 0 n [] [] fs near (open_give width (length bs) (slice_get bs) 0 free [] [] [] [] n e.spares bytes e.opened (free_again free low)) in
    let bs' = put_block n bytes bs in
    let head = root_bytes 0 n in
    let size : length bs' ≡ length (put_block 0 head bs') = omega (arith, laid.0, near, laid_length 0 head bs' (omega arith)) in
    let look = laid_look 0 head bs' (omega arith) in
    let said : said_by root_in (put (slice_get bs') 0 head 0) ≡ Some (0, n) = ap (said_by root_in) (put_here (slice_get bs') 0 head) ∙ root_again 0 n (omega arith) (omega (arith, most, near)) in
    let closed = closes_tree width (length bs') (put (slice_get bs') 0 head) 0 n [] [] fs (open_head width (length bs') (slice_get bs') 0 n [] [] fs [] head laid.1) (λ more. absurd (omega (arith, more))) said in
    tree_of width (put_block 0 head bs') 0 [] [] fs (subst (λ (l : ℕ → Option (List ℕ)). IsTree width (length (put_block 0 head bs')) l 0 [] [] fs) (sym look) (subst (λ k. IsTree width k (put (slice_get bs') 0 head) 0 [] [] fs) size closed))
    ∙ ap Some (sym e.none)
