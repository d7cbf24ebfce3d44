-- An entry comes into a leaf that has room for it: what the blocks spell then.
use Rattle.std.proofs.Common.{◌≡◌, ℕ, zero, suc, ◌+◌, ◌-◌, ◌≤◌, ◌<◌, ◌⊎◌, inl, inr, max, List, [], ◌∷◌, ◌++◌, Bool, true, false, cond, eqb, Some, None, refl, sym, ap, subst, ◌∙◌, length, take, drop, get_or, slice_get, length-append, append_assoc, arith}
use Rattle.std.specs.declared.option.Option.{Option}
use Rattle.std.specs.Str.{bytes_eq}
use Rattle.std.proofs.lemmas.Bool.Decides.{nat_tests}
use Rattle.std.proofs.lemmas.Slice.Eq.{bytes_eq-Decides}
use Rattle.dms_block.specs.Content.{put_block}
use Rattle.dms_block.specs.ContentLaws.{laid_length}
use Rattle.dms_chain.specs.Laid.{laid_look}
use Rattle.dms_chain.specs.Leads.{at_is, lead, rises_first, rises_second}
use Rattle.dms_chain.specs.Linked.{BlockChain, front, numbers, put, said_by, times}
use Rattle.dms_chain.specs.LinkedLaws.{numbers_length, numbers_times, times_append, times_other, times_own}
use Rattle.dms_chain.specs.ListBlocks.{fill_block, free_in, leaf_in}
use Rattle.dms_chain.specs.ListIn.{Leaf, Spare, entries_of}
use Rattle.dms_chain.specs.Lists.{AreInByteOrder, with_entry}
use Rattle.dms_chain.specs.SpellLaws.{AllWide}
use Rattle.dms_tree.specs.declared.descending.Side.TheVariants.{Through}
use Rattle.dms_tree.specs.declared.descending.TreeSpot.{TreeSpot}
use Rattle.dms_tree.specs.Descent.{AreLeavesWide, IsBetween, Stops, behind_above, chain_wide, entry_comes, fences_rise, laced_below, leaves_second, pieces_append, pieces_length}
use Rattle.dms_tree.specs.LaceLaws.{behind, lace_around, laced}
use Rattle.dms_tree.specs.Levels.{Hangs, Inner, fences, inner_numbers, lace, leaf_pieces, marked, top_numbers, weave}
use Rattle.dms_tree.specs.Looks.{entries_append}
use Rattle.dms_tree.specs.OpenLeaves.{open_leaf}
use Rattle.dms_tree.specs.OpenRoots.{closes_tree, opens_tree}
use Rattle.dms_tree.specs.OpenMoves.{top_is}
use Rattle.dms_tree.specs.OpenTree.{IsOpenTree, put_other, tree_times}
use Rattle.dms_tree.specs.Order.{key_of, marked_append, marked_length, stands_with}
use Rattle.dms_tree.specs.TreeBlocks.{inner_bytes, inner_in, leaf_half, root_as, root_bytes, root_if, root_in}
use Rattle.dms_tree.specs.TreeIn.{IsTree, SayLevel, SayLevels, says, tree_in, tree_numbers}
use Rattle.dms_tree.specs.TreeLaws.{tree_of}
use Rattle.dms_tree.specs.TreeSpells.{inner_says}
use Rattle.dms_tree.specs.Ways.{IsTreeSpot}

-- the head is no inner block

root_kind : (root free : ℕ) → get_or (root_bytes root free) 0 0 ≡ 3
unfolding root_bytes fill_block
root_kind root free = refl

inner_kind : (kids : List ℕ) (seps : List (List ℕ)) → get_or (inner_bytes kids seps) 0 0 ≡ 2
unfolding inner_bytes fill_block
inner_kind kids seps = refl

root_found : (b : List ℕ) (root free : ℕ) (t : Bool) (h : ℕ × ℕ) → bytes_eq b (root_bytes root free) ≡ t → root_if t root free ≡ Some h → get_or b 0 0 ≡ 3
root_found b root free false h tested is = absurd (cc is)
root_found b root free true h tested is = ap (λ (l : List ℕ). get_or l 0 0) ((bytes_eq-Decides b (root_bytes root free)).0 tested) ∙ root_kind root free

root_first : (b : List ℕ) (h : ℕ × ℕ) → root_in b ≡ Some h → get_or b 0 0 ≡ 3
unfolding root_in
root_first b h is = root_found b _ _ _ h refl is

apart : (width : ℕ) (o : Option (List ℕ)) (h : ℕ × ℕ) (x : List ℕ × List (List ℕ)) → said_by root_in o ≡ Some h → says (inner_in width) o ≡ Some x → ⊥
apart width None h x one two = absurd (cc one)
apart width (Some b) h x one two = absurd (omega (arith, root_first b h one, ap (λ (l : List ℕ). get_or l 0 0) (inner_says width b x two).bytes, inner_kind x.0 x.1))

module _ (width : ℕ) (look : ℕ → Option (List ℕ)) (h : ℕ × ℕ) (head : said_by root_in (look 0) ≡ Some h) where
  level_some : (us : List Inner) → SayLevel width look us → times 0 (numbers us) ≡ 0
  level_some [] said = refl
  level_some (u ∷ us) said = omega (arith, level_some us said.1, times_other 0 u.0 (λ e. apart width (look 0) h u.1 head (ap (λ n. says (inner_in width) (look n)) (sym e) ∙ said.0)))

  levels_some : (us : List (List Inner)) → SayLevels width look us → times 0 (inner_numbers us) ≡ 0
  levels_some [] said = refl
  levels_some (u ∷ us) said = omega (arith, times_append 0 (numbers u) (inner_numbers us), level_some u said.0, levels_some us said.1)

chain_some : {A : Type 0} (reads : List ℕ → Option (ℕ × A)) (look : ℕ → Option (List ℕ)) (xs : List (ℕ × A)) (n : ℕ) → BlockChain reads look xs n → times 0 (numbers xs) ≡ 0
chain_some reads look [] n chain = refl
chain_some reads look (x ∷ xs) n chain = omega (arith, chain_some reads look xs n chain.2, times_other 0 x.0 chain.0)

pub none_zero : (width count : ℕ) (look : ℕ → Option (List ℕ)) (root : ℕ) (us : List (List Inner)) (ls : List Leaf) (fs : List Spare) → IsTree width count look root us ls fs → times 0 (tree_numbers us ls fs) ≡ 0
none_zero width count look root us ls fs tree =
    omega (arith, tree_times 0 us ls fs, levels_some width look (root, front fs 0) tree.head us tree.inner, chain_some (leaf_in width) look ls 0 tree.chain, chain_some free_in look fs 0 tree.free)

-- the order with one more entry in its leaf
pub between_comes : (c : List ℕ) (us : List (List Inner)) (ahead rest : List Leaf) (n : ℕ) (es : List (List ℕ)) (fence : Option (List ℕ)) (b : IsBetween true c (length ahead) (fences [] us) fence) → AreInByteOrder (weave us (ahead ++ (n, es) ∷ rest)) → length (fences [] us) + 1 ≡ length (ahead ++ (n, es) ∷ rest)
    → AllWide (length c) es → at_is c (slice_get es (lead c es)) ≡ false → AreInByteOrder (weave us (ahead ++ (n, take (lead c es) es ++ c ∷ drop (lead c es) es) ∷ rest))
between_comes c us ahead rest n es fence b r size wide off =
    let even : length (marked 0 b.before) ≡ length (leaf_pieces ahead) = omega (arith, marked_length 0 b.before, b.even, pieces_length ahead) in
    let even' : length b.after ≡ length (leaf_pieces rest) = omega (arith, size, ap (λ (l : List (List ℕ)). length l) b.all_is, length-append b.before b.after, b.even, length-append ahead ((n, es) ∷ rest), pieces_length rest) in
    let before = laced (leaf_pieces ahead) (marked 0 b.before) in
    let after = behind (leaf_pieces rest) (marked 0 b.after) in
    let around : (ds : List (List ℕ)) → weave us (ahead ++ (n, ds) ∷ rest) ≡ before ++ (marked 1 ds ++ after) =
    λ ds. ap (λ (f : List (List ℕ)). lace (leaf_pieces (ahead ++ (n, ds) ∷ rest)) (marked 0 f)) (sym b.all_is)
    ∙ (λ i. lace (pieces_append ahead ((n, ds) ∷ rest) i) (marked_append 0 b.before b.after i)) ∙ lace_around (leaf_pieces ahead) (marked 1 ds) (leaf_pieces rest) (marked 0 b.before) (marked 0 b.after) even in
    let rise : AreInByteOrder (before ++ (marked 1 es ++ after)) = subst AreInByteOrder (around es) r in
    subst AreInByteOrder (sym (around (take (lead c es) es ++ c ∷ drop (lead c es) es)))
    (entry_comes c before es after wide (laced_below (key_of true c) (leaf_pieces ahead) (marked 0 b.before) even (rises_first before (marked 1 es ++ after) rise) b.low)
    (behind_above c (leaf_pieces rest) b.after even' b.stop (rises_second (marked 1 es) after (rises_second before (marked 1 es ++ after) rise))) off rise)

abbrev pub with_place : List ℕ → List (List ℕ) → List (List ℕ)
with_place c es = take (lead c es) es ++ c ∷ drop (lead c es) es

pub record Inserted (c : List ℕ) (count : ℕ) (look : ℕ → Option (List ℕ)) (root : ℕ) (us : List (List Inner)) (fs : List Spare) (xs : List (List ℕ)) : Type 0 where
  pub leaves : List Leaf
  pub tree : IsTree (length c) count look root us leaves fs
  pub entries : entries_of leaves ≡ with_entry c xs

-- the tree with the entry in its leaf
pub insert_fits : (c : List ℕ) (count : ℕ) (look : ℕ → Option (List ℕ)) (root : ℕ) (us : List (List Inner)) (ls : List Leaf) (fs : List Spare) (p : TreeSpot) (bytes : List ℕ) → IsTree (length c) count look root us ls fs → (root ≡ 0 → ⊥) → IsTreeSpot Through c us ls p
    → at_is c (slice_get p.leaf.entries.items (lead c p.leaf.entries.items)) ≡ false → leaf_in (length c) bytes ≡ Some (p.leaf.next, with_place c p.leaf.entries.items) → (p.number ≡ root) ⊎ (leaf_half (length c) ≤ length (with_place c p.leaf.entries.items))
    → Inserted c count (put look p.number bytes) root us fs (entries_of ls)
insert_fits c count look root us ls fs p bytes tree some at off reads half =
    let w = length c in
    let es = p.leaf.entries.items in
    let ahead = at.spot.ahead in
    let rest = at.spot.rest in
    let here = subst (λ (l : List Leaf). IsTree w count look root us l fs) at.spot.is tree in
    let zero = none_zero w count look root us (ahead ++ (p.number, es) ∷ rest) fs here in
    let o = opens_tree w count look root us (ahead ++ (p.number, es) ∷ rest) fs here zero in
    let size : length (fences [] us) + 1 ≡ length (ahead ++ (p.number, es) ∷ rest) =
    (fences_rise w look [] us (top_numbers root) (numbers (ahead ++ (p.number, es) ∷ rest)) here.hangs here.inner (ap (λ (l : List ℕ). length l) (sym (top_is root some)))).even ∙ numbers_length (ahead ++ (p.number, es) ∷ rest) in
    let wide = (leaves_second w ahead ((p.number, es) ∷ rest) (chain_wide w look (ahead ++ (p.number, es) ∷ rest) 0 here.chain)).0 in
    let rises = between_comes c us ahead rest p.number es p.fence at.between here.rises size wide off in
    let after = open_leaf w count look root (front fs 0) us ahead rest p.number es (with_place c es) fs bytes o (reads ∙ ap (λ (n : ℕ). Some (n, with_place c es)) at.next) half rises in
    let away : 0 ≡ p.number → ⊥ = λ e. absurd (omega (arith, zero, tree_times 0 us (ahead ++ (p.number, es) ∷ rest) fs, numbers_times 0 ahead ((p.number, es) ∷ rest), times_own 0, ap (λ k. times 0 (k ∷ [])) e)) in
    record {
      leaves = ahead ++ (p.number, with_place c es) ∷ rest;
      tree = closes_tree w count (put look p.number bytes) root (front fs 0) us (ahead ++ (p.number, with_place c es) ∷ rest) fs after here.some (ap (said_by root_in) (put_other look p.number bytes 0 away) ∙ here.head);
      entries = entries_append ahead ((p.number, with_place c es) ∷ rest) ∙ sym (stands_with c (entries_of ahead) es (entries_of rest) at.spot.stands (at.spot.other refl) off) ∙ ap (with_entry c) (sym (ap entries_of at.spot.is ∙ entries_append ahead ((p.number, es) ∷ rest)));
    }

-- what the blocks spell
pub fits_list : (c : List ℕ) (bs : List (List ℕ)) (root : ℕ) (us : List (List Inner)) (ls : List Leaf) (fs : List Spare) (p : TreeSpot) (bytes : List ℕ) → IsTree (length c) (length bs) (slice_get bs) root us ls fs → (root ≡ 0 → ⊥) → IsTreeSpot Through c us ls p → p.number < length bs
    → at_is c (slice_get p.leaf.entries.items (lead c p.leaf.entries.items)) ≡ false → leaf_in (length c) bytes ≡ Some (p.leaf.next, with_place c p.leaf.entries.items) → (p.number ≡ root) ⊎ (leaf_half (length c) ≤ length (with_place c p.leaf.entries.items))
    → tree_in (length c) (put_block p.number bytes bs) ≡ Some (with_entry c (entries_of ls))
fits_list c bs root us ls fs p bytes tree some at low off reads half =
    let new = insert_fits c (length bs) (slice_get bs) root us ls fs p bytes tree some at off reads half in
    let size : length bs ≡ length (put_block p.number bytes bs) = omega (arith, laid_length p.number bytes bs (omega (arith, low)), low) in
    let seen = sym (laid_look p.number bytes bs (omega (arith, low))) in
    tree_of (length c) (put_block p.number bytes bs) root us new.leaves fs (subst (λ (look : ℕ → Option (List ℕ)). IsTree (length c) (length (put_block p.number bytes bs)) look root us new.leaves fs) seen
    (subst (λ (n : ℕ). IsTree (length c) n (put (slice_get bs) p.number bytes) root us new.leaves fs) size new.tree))
    ∙ ap Some new.entries
