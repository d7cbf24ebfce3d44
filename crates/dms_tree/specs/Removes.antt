-- An entry leaves its leaf: the list without it, the order, and what the blocks spell where the leaf stays full enough.
use Rattle.std.proofs.Common.{◌≡◌, ℕ, zero, suc, ◌+◌, ◌-◌, ◌≤◌, ◌<◌, ◌⊎◌, inl, inr, List, [], ◌∷◌, ◌++◌, Bool, true, false, cond, Some, None, refl, sym, ap, subst, ◌∙◌, length, take, drop, get_or, slice_get, length-append, append_assoc, append-nil, arith}
use Rattle.std.specs.declared.option.Option.{Option}
use Rattle.std.proofs.lemmas.List.Elements.{filter-append}
use Rattle.dms_block.specs.Content.{put_block}
use Rattle.dms_block.specs.ContentLaws.{laid_length}
use Rattle.dms_chain.specs.Laid.{laid_look}
use Rattle.dms_chain.specs.Leads.{at_is, lead, rises_first, rises_second, without_at}
use Rattle.dms_chain.specs.Linked.{BlockChain, front, numbers, put, said_by, times}
use Rattle.dms_chain.specs.LinkedLaws.{chain_second, numbers_times, times_own}
use Rattle.dms_chain.specs.ListBlocks.{free_in, leaf_in}
use Rattle.dms_chain.specs.ListIn.{Leaf, Spare, entries_of}
use Rattle.dms_chain.specs.Lists.{AreInByteOrder, is_same, without}
use Rattle.dms_tree.specs.declared.descending.Side.TheVariants.{Through}
use Rattle.dms_tree.specs.declared.descending.TreeSpot.{TreeSpot}
use Rattle.dms_tree.specs.Descent.{pieces_append}
use Rattle.dms_tree.specs.Inserts.{none_zero}
use Rattle.dms_tree.specs.Joins.{IsGap, IsLastOver, LastOf, NextOf, TurnedBack, join_leaf, next_under, share_leaf, turn_back, turn_to}
use Rattle.dms_tree.specs.Levels.{Hangs, Inner, fences, inner_numbers, lace, leaf_pieces, marked, top_numbers, weave}
use Rattle.dms_tree.specs.Looks.{entries_append}
use Rattle.dms_tree.specs.OpenLeaves.{open_leaf}
use Rattle.dms_tree.specs.OpenMoves.{top_is}
use Rattle.dms_tree.specs.OpenRoots.{closes_tree, opens_tree}
use Rattle.dms_tree.specs.OpenTree.{IsOpenTree, put_other, tree_length, tree_times}
use Rattle.dms_tree.specs.Order.{Stands, marked_append, rises_drop}
use Rattle.dms_tree.specs.Paths.{IsPath, Step, hangs_end}
use Rattle.dms_tree.specs.TreeBlocks.{leaf_half, root_in}
use Rattle.dms_tree.specs.TreeIn.{IsTree, tree_in, tree_numbers}
use Rattle.dms_tree.specs.TreeLaws.{tree_of}
use Rattle.dms_tree.specs.Ways.{IsTreeSpot}

-- a list without the entry at its place
abbrev pub without_place : List ℕ → List (List ℕ) → List (List ℕ)
without_place c es = take (lead c es) es ++ drop (suc (lead c es)) es

past_end : (xs : List (List ℕ)) → slice_get xs (length xs) ≡ None
past_end [] = refl
past_end (x ∷ xs) = past_end xs

module _ (c : List ℕ) where
  kept_if : (b : Bool) (xs ys : List (List ℕ)) → b ≡ false → cond b ys xs ≡ xs
  kept_if b xs ys off = ap (λ t. cond t ys xs) off

  without_before : (xs : List (List ℕ)) → AreInByteOrder xs → lead c xs ≡ length xs → without c xs ≡ xs
  without_before xs r all =
      without_at c xs r ∙ kept_if (at_is c (slice_get xs (lead c xs))) xs (take (lead c xs) xs ++ drop (suc (lead c xs)) xs) (ap (λ n. at_is c (slice_get xs n)) all ∙ ap (at_is c) (past_end xs))

  without_behind : (xs : List (List ℕ)) → AreInByteOrder xs → lead c xs ≡ 0 → at_is c (slice_get xs 0) ≡ false → without c xs ≡ xs
  without_behind xs r none off = without_at c xs r ∙ kept_if (at_is c (slice_get xs (lead c xs))) xs (take (lead c xs) xs ++ drop (suc (lead c xs)) xs) (ap (λ n. at_is c (slice_get xs n)) none ∙ off)

  without_parts : (xs ys : List (List ℕ)) → without c (xs ++ ys) ≡ without c xs ++ without c ys
  without_parts xs ys = filter-append _ xs ys

  pub stands_without : (before here after : List (List ℕ)) → Stands c before here after → at_is c (slice_get after 0) ≡ false → AreInByteOrder (before ++ (here ++ after)) → at_is c (slice_get here (lead c here)) ≡ true
      → without c (before ++ (here ++ after)) ≡ before ++ (without_place c here ++ after)
  stands_without before here after at off r is =
      let second = rises_second before (here ++ after) r in
      let here_is : without c here ≡ without_place c here = without_at c here (rises_first here after second) ∙ ap (λ t. cond t (without_place c here) here) is in
      without_parts before (here ++ after)
      ∙ (λ i. without_before before (rises_first before (here ++ after) r) at.low i ++ without_parts here after i)
      ∙ (λ i. before ++ (here_is i ++ without_behind after (rises_second here after second) at.stop off i))

-- the order around one leaf

pub record Around {A : Type 0} (ps rest : List (List A)) (fs : List A) : Type 0 where
  pub left : List A
  pub right : List A
  pub is : (t : List A) → lace (ps ++ t ∷ rest) fs ≡ left ++ (t ++ right)

around : {A : Type 0} (ps rest : List (List A)) (fs : List A) → Around ps rest fs
around [] rest [] = record { left = []; right = lace rest []; is = λ t. refl }
around [] rest (f ∷ fs) = record { left = []; right = f ∷ lace rest fs; is = λ t. refl }
around (p ∷ ps) rest [] = let r = around ps rest [] in record { left = p ++ r.left; right = r.right; is = λ t. ap (λ l. p ++ l) (r.is t) ∙ sym (append_assoc p r.left (t ++ r.right)) }
around (p ∷ ps) rest (f ∷ fs) = let r = around ps rest fs in record { left = p ++ f ∷ r.left; right = r.right; is = λ t. ap (λ l. p ++ f ∷ l) (r.is t) ∙ sym (append_assoc p (f ∷ r.left) (t ++ r.right)) }

pub leaf_less : (us : List (List Inner)) (ahead rest : List Leaf) (n : ℕ) (ds : List (List ℕ)) (x : List ℕ) (gs : List (List ℕ)) → AreInByteOrder (weave us (ahead ++ (n, ds ++ x ∷ gs) ∷ rest)) → AreInByteOrder (weave us (ahead ++ (n, ds ++ gs) ∷ rest))
leaf_less us ahead rest n ds x gs r =
    let fs = marked 0 (fences [] us) in
    let a = around (leaf_pieces ahead) (leaf_pieces rest) fs in
    let whole : (es : List (List ℕ)) → weave us (ahead ++ (n, es) ∷ rest) ≡ a.left ++ (marked 1 es ++ a.right) = λ es. ap (λ l. lace l fs) (pieces_append ahead ((n, es) ∷ rest)) ∙ a.is (marked 1 es) in
    let parted : (es : List (List ℕ)) → a.left ++ (marked 1 (ds ++ es) ++ a.right) ≡ (a.left ++ marked 1 ds) ++ (marked 1 es ++ a.right) =
    λ es. ap (λ l. a.left ++ (l ++ a.right)) (marked_append 1 ds es) ∙ ap (λ l. a.left ++ l) (append_assoc (marked 1 ds) (marked 1 es) a.right) ∙ sym (append_assoc a.left (marked 1 ds) (marked 1 es ++ a.right)) in
    subst AreInByteOrder (sym (whole (ds ++ gs) ∙ parted gs)) (rises_drop (a.left ++ marked 1 ds) (x ++ 1 ∷ []) (marked 1 gs ++ a.right) (subst AreInByteOrder (whole (ds ++ x ∷ gs) ∙ parted (x ∷ gs)) r))

part_at : (es : List (List ℕ)) (k : ℕ) → k < length es → es ≡ take k es ++ get_or es k [] ∷ drop (suc k) es
part_at [] k low = absurd (omega (arith, low))
part_at (e ∷ es) zero low = refl
part_at (e ∷ es) (suc k) low = ap (λ (l : List (List ℕ)). e ∷ l) (part_at es k (omega (arith, low)))

pub there_low : (c : List ℕ) (es : List (List ℕ)) (k : ℕ) → at_is c (slice_get es k) ≡ true → k < length es
there_low c [] k is = absurd (cc is)
there_low c (e ∷ es) zero is = omega arith
there_low c (e ∷ es) (suc k) is = omega (arith, there_low c es k is)

pub less_rises : (c : List ℕ) (us : List (List Inner)) (ahead rest : List Leaf) (n : ℕ) (es : List (List ℕ)) → at_is c (slice_get es (lead c es)) ≡ true → AreInByteOrder (weave us (ahead ++ (n, es) ∷ rest)) → AreInByteOrder (weave us (ahead ++ (n, without_place c es) ∷ rest))
less_rises c us ahead rest n es is r =
    leaf_less us ahead rest n (take (lead c es) es) (get_or es (lead c es) []) (drop (suc (lead c es)) es) (subst (λ l. AreInByteOrder (weave us (ahead ++ (n, l) ∷ rest))) (part_at es (lead c es) (there_low c es (lead c es) is)) r)

-- A leaf that an entry left, before anything is written.
pub record IsLessLeaf (width count : ℕ) (look : ℕ → Option (List ℕ)) (root free : ℕ) (ss : List Step) (n next : ℕ) (old new : List (List ℕ)) (xs : List (List ℕ)) : Type 0 where
  pub us : List (List Inner)
  pub ahead : List Leaf
  pub rest : List Leaf
  pub spares : List Spare
  pub opened : IsOpenTree width count look root free us (ahead ++ (n, old) ∷ rest) spares [] []
  pub path : IsPath ss us 0 root (length ahead) n
  pub next_is : next ≡ front rest 0
  pub rises : AreInByteOrder (weave us (ahead ++ (n, new) ∷ rest))
  pub entries : entries_of (ahead ++ (n, new) ∷ rest) ≡ xs
  pub some : root ≡ 0 → ⊥

less_entries : (c : List ℕ) (us : List (List Inner)) (ls : List Leaf) (p : TreeSpot) (at : IsTreeSpot Through c us ls p) → at_is c (slice_get p.leaf.entries.items (lead c p.leaf.entries.items)) ≡ true → AreInByteOrder (entries_of ls)
    → entries_of (at.spot.ahead ++ (p.number, without_place c p.leaf.entries.items) ∷ at.spot.rest) ≡ without c (entries_of ls)
less_entries c us ls p at is r =
    let es = p.leaf.entries.items in
    let ahead = at.spot.ahead in
    let rest = at.spot.rest in
    let all : entries_of ls ≡ entries_of ahead ++ (es ++ entries_of rest) = ap entries_of at.spot.is ∙ entries_append ahead ((p.number, es) ∷ rest) in
    entries_append ahead ((p.number, without_place c es) ∷ rest) ∙ sym (stands_without c (entries_of ahead) es (entries_of rest) at.spot.stands (at.spot.other refl) (subst AreInByteOrder all r) is) ∙ ap (without c) (sym all)

pub less_leaf : (c : List ℕ) (count : ℕ) (look : ℕ → Option (List ℕ)) (root : ℕ) (us : List (List Inner)) (ls : List Leaf) (fs : List Spare) (p : TreeSpot) (ss : List Step) → IsTree (length c) count look root us ls fs → (root ≡ 0 → ⊥) → (at : IsTreeSpot Through c us ls p) → IsPath ss us 0 root (length at.spot.ahead) p.number
    → at_is c (slice_get p.leaf.entries.items (lead c p.leaf.entries.items)) ≡ true → AreInByteOrder (entries_of ls) → IsLessLeaf (length c) count look root (front fs 0) ss p.number p.leaf.next p.leaf.entries.items (without_place c p.leaf.entries.items) (without c (entries_of ls))
less_leaf c count look root us ls fs p ss tree some at path is r =
    let w = length c in
    let here = subst (λ (l : List Leaf). IsTree w count look root us l fs) at.spot.is tree in
    let all = at.spot.ahead ++ (p.number, p.leaf.entries.items) ∷ at.spot.rest in
    record {
      us = us;
      ahead = at.spot.ahead;
      rest = at.spot.rest;
      spares = fs;
      opened = opens_tree w count look root us all fs here (none_zero w count look root us all fs here);
      path = path;
      next_is = at.next;
      rises = less_rises c us at.spot.ahead at.spot.rest p.number p.leaf.entries.items is here.rises;
      entries = less_entries c us ls p at is r;
      some = some;
    }

-- The leaf is full enough, or the root: it is written, and the tree is whole.
pub less_fits : (width count : ℕ) (look : ℕ → Option (List ℕ)) (root free : ℕ) (ss : List Step) (n next : ℕ) (old new : List (List ℕ)) (xs : List (List ℕ)) (bytes : List ℕ) (h : IsLessLeaf width count look root free ss n next old new xs) → leaf_in width bytes ≡ Some (next, new) → (n ≡ root) ⊎ (leaf_half width ≤ length new)
    → said_by root_in (look 0) ≡ Some (root, free) → IsTree width count (put look n bytes) root h.us (h.ahead ++ (n, new) ∷ h.rest) h.spares
less_fits width count look root free ss n next old new xs bytes h reads half head =
    let o = h.opened in
    let away : 0 ≡ n → ⊥ = λ e. absurd (omega (arith, o.zero, tree_times 0 h.us (h.ahead ++ (n, old) ∷ h.rest) h.spares, numbers_times 0 h.ahead ((n, old) ∷ h.rest), times_own 0, ap (λ k. times 0 (k ∷ [])) e)) in
    let after = open_leaf width count look root free h.us h.ahead h.rest n old new h.spares bytes o (reads ∙ ap (λ (k : ℕ). Some (k, new)) h.next_is) half h.rises in
    closes_tree width count (put look n bytes) root free h.us (h.ahead ++ (n, new) ∷ h.rest) h.spares after (λ more. omega (arith, ap (λ (l : List ℕ). length l) (top_is root h.some))) (ap (said_by root_in) (put_other look n bytes 0 away) ∙ head)

-- what the blocks spell then
pub less_list : (width : ℕ) (bs : List (List ℕ)) (root free : ℕ) (ss : List Step) (n next : ℕ) (old new : List (List ℕ)) (xs : List (List ℕ)) (bytes : List ℕ) → IsLessLeaf width (length bs) (slice_get bs) root free ss n next old new xs → leaf_in width bytes ≡ Some (next, new) → (n ≡ root) ⊎ (leaf_half width ≤ length new)
    → said_by root_in (slice_get bs 0) ≡ Some (root, free) → n < length bs → tree_in width (put_block n bytes bs) ≡ Some xs
less_list width bs root free ss n next old new xs bytes h reads half head low =
    let tree = less_fits width (length bs) (slice_get bs) root free ss n next old new xs bytes h reads half head in
    let size : length bs ≡ length (put_block n bytes bs) = omega (arith, laid_length n bytes bs (omega (arith, low)), low) in
    let ls = h.ahead ++ (n, new) ∷ h.rest in
    tree_of width (put_block n bytes bs) root h.us ls h.spares (subst (λ (look : ℕ → Option (List ℕ)). IsTree width (length (put_block n bytes bs)) look root h.us ls h.spares) (sym (laid_look n bytes bs (omega (arith, low))))
    (subst (λ (k : ℕ). IsTree width k (put (slice_get bs) n bytes) root h.us ls h.spares) size tree))
    ∙ ap Some h.entries

-- The last entry left: the root is in no place, and the tree is that of no blocks.
pub record Emptied (width count : ℕ) (look : ℕ → Option (List ℕ)) (free n : ℕ) (xs : List (List ℕ)) : Type 0 where
  pub spares : List Spare
  pub opened : IsOpenTree width count look 0 free [] [] spares [] (n ∷ [])
  pub none : xs ≡ []

emptied_here : (width count : ℕ) (look : ℕ → Option (List ℕ)) (root free n next : ℕ) (old : List (List ℕ)) (us : List (List Inner)) (ahead rest : List Leaf) (spares : List Spare) → IsOpenTree width count look root free us (ahead ++ (n, old) ∷ rest) spares [] [] → IsPath [] us 0 root (length ahead) n → (root ≡ 0 → ⊥)
    → Emptied width count look free n (entries_of (ahead ++ (n, []) ∷ rest))
emptied_here width count look root free n next old (u ∷ us) ahead rest spares o path some = absurd path
emptied_here width count look root free n next old [] (a ∷ ahead) rest spares o path some = absurd (omega (arith, path.0))
emptied_here width count look root free n next old [] [] (r ∷ rest) spares o path some = absurd (omega (arith, ap (λ (l : List ℕ). length l) (sym (top_is root some) ∙ o.hangs)))
emptied_here width count look root free n next old [] [] [] spares o path some = record {
  spares = spares;
  opened = record {
    free_is = o.free_is;
    more = tt;
    placed = tt;
    chain = tt;
    spare = o.spare;
    half = tt;
    hangs = refl;
    rises = tt;
    count_is = omega (arith, o.count_is);
    once = λ k. omega (arith, o.once k);
    low = λ k more. o.low k (omega (arith, more));
    zero = omega (arith, o.zero);
  };
  none = refl;
}

pub less_empty : (width count : ℕ) (look : ℕ → Option (List ℕ)) (root free n next : ℕ) (old : List (List ℕ)) (xs : List (List ℕ)) → IsLessLeaf width count look root free [] n next old [] xs → Emptied width count look free n xs
less_empty width count look root free n next old xs h = subst (Emptied width count look free n) h.entries (emptied_here width count look root free n next old h.us h.ahead h.rest h.spares h.opened h.path h.some)

-- Two neighbouring leaves, of which one lost an entry: `es` and `es'` stand in them, and `ds` and `gs` are to.
pub record IsLeafPair (width count : ℕ) (look : ℕ → Option (List ℕ)) (root free : ℕ) (ss : List Step) (s : Step) (c : ℕ) (es ds : List (List ℕ)) (f : ℕ) (es' gs : List (List ℕ)) (next : ℕ) (xs : List (List ℕ)) : Type 0 where
  pub us : List (List Inner)
  pub ahead : List Leaf
  pub rest : List Leaf
  pub spares : List Spare
  pub opened : IsOpenTree width count look root free us (ahead ++ (c, es) ∷ (f, es') ∷ rest) spares [] []
  pub path : IsPath (ss ++ s ∷ []) us 0 root (length ahead) c
  pub next_is : next ≡ front rest 0
  pub rises : AreInByteOrder (weave us (ahead ++ (c, ds) ∷ (f, gs) ∷ rest))
  pub entries : entries_of (ahead ++ (c, ds) ∷ (f, gs) ∷ rest) ≡ xs
  pub some : root ≡ 0 → ⊥

leaf_of : Option (ℕ × List (List ℕ)) → ℕ × List (List ℕ)
leaf_of None = (0, [])
leaf_of (Some x) = x

same_leaf : (o : Option (ℕ × List (List ℕ))) (x y : ℕ × List (List ℕ)) → o ≡ Some x → o ≡ Some y → x ≡ y
unfolding leaf_of
same_leaf o x y a b = ap leaf_of (sym a ∙ b)

leaves_last : (us : List (List Inner)) (ns leaves : List ℕ) → Hangs ns us leaves → IsLastOver us leaves
leaves_last us ns leaves hangs over u is = sym (hangs_end over u ns leaves (subst (λ l. Hangs ns l leaves) is hangs))

pub leaf_right : (width count : ℕ) (look : ℕ → Option (List ℕ)) (root free : ℕ) (ss : List Step) (s : Step) (n next : ℕ) (old new : List (List ℕ)) (xs : List (List ℕ)) (m : ℕ) (gs : List (List ℕ)) → IsLessLeaf width count look root free (ss ++ s ∷ []) n next old new xs → suc s.taken < length s.kids
    → said_by (leaf_in width) (look (get_or s.kids (suc s.taken) 0)) ≡ Some (m, gs) → IsLeafPair width count look root free ss s n old new (get_or s.kids (suc s.taken) 0) gs gs m xs
leaf_right width count look root free ss s n next old new xs m gs h low said =
    let f = get_or s.kids (suc s.taken) 0 in
    let all = h.ahead ++ (n, old) ∷ h.rest in
    let found = next_under ss s h.us root n h.ahead h.rest old h.path (leaves_last h.us (top_numbers root) (numbers all) h.opened.hangs) low in
    let o = subst (λ (d : List Leaf). IsOpenTree width count look root free h.us (h.ahead ++ (n, old) ∷ d) h.spares [] []) found.is h.opened in
    let chain = chain_second (leaf_in width) look h.ahead ((n, old) ∷ (f, found.what) ∷ found.more) 0 o.chain in
    let same = same_leaf (said_by (leaf_in width) (look f)) (front found.more 0, found.what) (m, gs) chain.2.1 said in
    let what : found.what ≡ gs = ap (λ (x : ℕ × List (List ℕ)). x.1) same in
    record {
      us = h.us;
      ahead = h.ahead;
      rest = found.more;
      spares = h.spares;
      opened = subst (λ t. IsOpenTree width count look root free h.us (h.ahead ++ (n, old) ∷ (f, t) ∷ found.more) h.spares [] []) what o;
      path = h.path;
      next_is = sym (ap (λ (x : ℕ × List (List ℕ)). x.0) same);
      rises = subst (λ t. AreInByteOrder (weave h.us (h.ahead ++ (n, new) ∷ (f, t) ∷ found.more))) what (subst (λ d. AreInByteOrder (weave h.us (h.ahead ++ (n, new) ∷ d))) found.is h.rises);
      entries = ap (λ t. entries_of (h.ahead ++ (n, new) ∷ (f, t) ∷ found.more)) (sym what) ∙ ap (λ d. entries_of (h.ahead ++ (n, new) ∷ d)) (sym found.is) ∙ h.entries;
      some = h.some;
    }

pub leaf_left : (width count : ℕ) (look : ℕ → Option (List ℕ)) (root free : ℕ) (ss : List Step) (s : Step) (j n next : ℕ) (old new : List (List ℕ)) (xs : List (List ℕ)) (m : ℕ) (es : List (List ℕ)) → IsLessLeaf width count look root free (ss ++ s ∷ []) n next old new xs → suc j ≡ s.taken
    → said_by (leaf_in width) (look (get_or s.kids j 0)) ≡ Some (m, es) → IsLeafPair width count look root free ss (turn_to s j) (get_or s.kids j 0) es es n old new next xs
leaf_left width count look root free ss s j n next old new xs m es h one_more said =
    let c = get_or s.kids j 0 in
    let all = h.ahead ++ (n, old) ∷ h.rest in
    let turned = turn_back ss s j h.us root n h.ahead h.rest old one_more h.path (leaves_last h.us (top_numbers root) (numbers all) h.opened.hangs) in
    let found = turned.found in
    let at : (t : List (List ℕ)) → h.ahead ++ (n, t) ∷ h.rest ≡ found.before ++ (c, found.what) ∷ (n, t) ∷ h.rest = λ t. ap (λ (l : List Leaf). l ++ (n, t) ∷ h.rest) found.is ∙ append_assoc found.before ((c, found.what) ∷ []) ((n, t) ∷ h.rest) in
    let o = subst (λ (l : List Leaf). IsOpenTree width count look root free h.us l h.spares [] []) (at old) h.opened in
    let chain = chain_second (leaf_in width) look found.before ((c, found.what) ∷ (n, old) ∷ h.rest) 0 o.chain in
    let same = same_leaf (said_by (leaf_in width) (look c)) (n, found.what) (m, es) chain.1 said in
    let what : found.what ≡ es = ap (λ (x : ℕ × List (List ℕ)). x.1) same in
    record {
      us = h.us;
      ahead = found.before;
      rest = h.rest;
      spares = h.spares;
      opened = subst (λ t. IsOpenTree width count look root free h.us (found.before ++ (c, t) ∷ (n, old) ∷ h.rest) h.spares [] []) what o;
      path = turned.path;
      next_is = h.next_is;
      rises = subst (λ t. AreInByteOrder (weave h.us (found.before ++ (c, t) ∷ (n, new) ∷ h.rest))) what (subst (λ l. AreInByteOrder (weave h.us l)) (at new) h.rises);
      entries = ap (λ t. entries_of (found.before ++ (c, t) ∷ (n, new) ∷ h.rest)) (sym what) ∙ ap entries_of (sym (at new)) ∙ h.entries;
      some = h.some;
    }

module _ (width count : ℕ) (look : ℕ → Option (List ℕ)) (root free : ℕ) (ss : List Step) (s : Step) (c : ℕ) (es ds : List (List ℕ)) (f : ℕ) (es' gs : List (List ℕ)) (next : ℕ) (xs : List (List ℕ)) (p : IsLeafPair width count look root free ss s c es ds f es' gs next xs) (low : suc s.taken < length s.kids) (fit : s.taken < length s.seps) where
  pub leaves_one : (x : List ℕ) → leaf_in width x ≡ Some (next, ds ++ gs) → leaf_half width ≤ length (ds ++ gs)
      → IsGap width count (put look c x) root free ss s.number (take s.taken s.kids ++ c ∷ drop (suc (suc s.taken)) s.kids) (take s.taken s.seps ++ drop (suc s.taken) s.seps) (s.number ∷ []) (f ∷ []) xs
  leaves_one x reads half =
      subst (IsGap width count (put look c x) root free ss s.number (take s.taken s.kids ++ c ∷ drop (suc (suc s.taken)) s.kids) (take s.taken s.seps ++ drop (suc s.taken) s.seps) (s.number ∷ []) (f ∷ [])) p.entries
      (join_leaf width count look root free p.us p.ahead p.rest c f es es' ds gs p.spares [] ss s p.opened p.some p.path low fit p.rises x (reads ∙ ap (λ k. Some (k, ds ++ gs)) p.next_is) half)

  pub leaves_shared : (first : List (List ℕ)) (z sep : List ℕ) (second : List (List ℕ)) (x y : List ℕ) → ds ++ gs ≡ (first ++ z ∷ []) ++ sep ∷ second → length z ≡ length sep → leaf_in width x ≡ Some (f, first ++ z ∷ []) → leaf_in width y ≡ Some (next, sep ∷ second)
      → leaf_half width ≤ length (first ++ z ∷ []) → leaf_half width ≤ length (sep ∷ second)
      → IsGap width count (put (put look c x) f y) root free ss s.number (take s.taken s.kids ++ c ∷ f ∷ drop (suc (suc s.taken)) s.kids) (take s.taken s.seps ++ sep ∷ drop (suc s.taken) s.seps) (s.number ∷ []) [] xs
  leaves_shared first z sep second x y same wide reads reads' half half' =
      subst (IsGap width count (put (put look c x) f y) root free ss s.number (take s.taken s.kids ++ c ∷ f ∷ drop (suc (suc s.taken)) s.kids) (take s.taken s.seps ++ sep ∷ drop (suc s.taken) s.seps) (s.number ∷ []) []) p.entries
      (share_leaf width count look root free p.us p.ahead p.rest c f es es' ds gs p.spares [] ss s p.opened p.some p.path low fit p.rises first z sep second x y same wide reads (reads' ∙ ap (λ k. Some (k, sep ∷ second)) p.next_is) half half')
