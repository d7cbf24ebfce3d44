-- What one look at a tree that is to be changed tells.
use Rattle.std.proofs.Common.{◌≡◌, ℕ, zero, suc, ◌+◌, ◌≤◌, ◌<◌, max, List, [], ◌∷◌, ◌++◌, true, false, cond, Some, None, refl, sym, ap, subst, ◌∙◌, length, take, drop, slice_get, arith, IsTrue}
use Rattle.std.specs.Prelude.{MatchOption}
use Rattle.std.specs.declared.option.Option.{Option}
use Rattle.dms_block.specs.declared.blocks.Blocks.{Ghosts}
use Rattle.dms_block.specs.declared.overlay.Overlay.{Overlay}
use Rattle.dms_block.specs.View.{overlay_content, under}
use Rattle.dms_chain.specs.Leads.{at_is, has_at, lead, with_at}
use Rattle.dms_chain.specs.Linked.{front, numbers, said_by}
use Rattle.dms_chain.specs.ListIn.{Leaf, Spare, entries_of}
use Rattle.dms_chain.specs.Lists.{AreInByteOrder, has_entry, with_entry}
use Rattle.dms_chain.specs.SpellLaws.{IsLeaf}
use Rattle.dms_tree.specs.declared.looking.TreeLook.{TreeLook}
use Rattle.dms_tree.specs.declared.tracing.Trail.{Trail}
use Rattle.dms_tree.specs.Deep.{nine_levels, tree_sizes}
use Rattle.dms_tree.specs.Descent.{chain_wide}
use Rattle.dms_tree.specs.Inserts.{none_zero}
use Rattle.dms_tree.specs.Lasts.{entries_rise}
use Rattle.dms_tree.specs.Levels.{Hangs, Inner, fences, marked, top_numbers}
use Rattle.dms_tree.specs.Looks.{entries_append, no_top, no_tree, root_same, some_top}
use Rattle.dms_tree.specs.OpenRoots.{opens_tree}
use Rattle.dms_tree.specs.OpenTree.{IsOpenTree}
use Rattle.dms_tree.specs.Order.{stands_has}
use Rattle.dms_tree.specs.Takings.{FreeFrom}
use Rattle.dms_tree.specs.TreeAts.{TreeAt}
use Rattle.dms_tree.specs.TreeBlocks.{root_in}
use Rattle.dms_tree.specs.TreeIn.{IsTree, tree_in}
use Rattle.dms_tree.specs.TreeLaws.{Spelt, none_is, tree_is, tree_of}
use Rattle.dms_tree.specs.Trails.{IsTrail, NoTreeNear}
use Rattle.dms_tree.specs.Ups.{ArePassed}
use Rattle.dms_tree.specs.Ways.{TreeFrom}

-- an empty tree, with its free blocks
pub record IsBare (width : ℕ) (bs : List (List ℕ)) (free : ℕ) (xs : List (List ℕ)) : Type 0 where
  pub spares : List Spare
  pub opened : IsOpenTree width (max (length bs) 1) (slice_get bs) 0 free [] [] spares [] []
  pub none : xs ≡ []

-- the head's numbers and the way, in the tree that blocks spell
abbrev pub IsLooked : List ℕ → List (List ℕ) → List (List ℕ) → TreeLook → Type 0
IsLooked c bs xs r = MatchOption r.trail (IsBare (length c) bs r.head.free xs) (λ t. TreeAt c bs r.head.root r.head.free t xs)

module _ {B : Type 0} {g : Ghosts B} where
  -- what holds of the list of a file, where the content is told and this is a look at its tree
  abbrev pub IfLooked : Overlay B g → ℕ → List ℕ → TreeLook → (List (List ℕ) → Type 0) → Type 0
  IfLooked o file c r P = IsTrue (under o).told → (xs : List (List ℕ)) → IsLooked c (overlay_content o file) xs r → P xs

-- of no blocks
pub bare_none : (c : List ℕ) (bs xs : List (List ℕ)) (r : TreeLook) → length bs ≡ 0 → tree_in (length c) bs ≡ Some xs → r.head.free ≡ 0 → r.trail ≡ None → IsLooked c bs xs r
bare_none c bs xs r none is free off =
    subst (λ o. MatchOption o (IsBare (length c) bs r.head.free xs) (λ t. TreeAt c bs r.head.root r.head.free t xs)) (sym off)
    (record {
      spares = [];
      opened = record {
        free_is = sym free;
        more = tt;
        placed = tt;
        chain = tt;
        spare = tt;
        half = tt;
        hangs = refl;
        rises = tt;
        count_is = omega (arith, none);
        once = λ n. omega arith;
        low = λ n some. absurd (omega (arith, some));
        zero = refl;
      };
      none = none_is (length c) bs xs none is;
    })

abbrev snd_of : Option (ℕ × ℕ) → ℕ
snd_of None = 0
snd_of (Some x) = x.1

-- two readings of one head are one
root_free : (look : ℕ → Option (List ℕ)) (a b c d : ℕ) → said_by root_in (look 0) ≡ Some (a, b) → said_by root_in (look 0) ≡ Some (c, d) → b ≡ d
root_free look a b c d one two =
    let x : Option (ℕ × ℕ) = Some (a, b) in
    let y : Option (ℕ × ℕ) = Some (c, d) in
    let same : x ≡ y = sym one ∙ two in
    ap snd_of same

-- of a root that is none
bare_by : (width : ℕ) (bs xs : List (List ℕ)) (free root : ℕ) (us : List (List Inner)) (ls : List Leaf) (fs : List Spare) → root ≡ 0 → front fs 0 ≡ free → IsTree width (length bs) (slice_get bs) root us ls fs → entries_of ls ≡ xs → IsBare width bs free xs
bare_by width bs xs free root [] [] fs none same tree entries =
    let one : length bs ≡ max (length bs) 1 = omega (arith, tree.count_is) in
    record {
      spares = fs;
      opened = subst (λ k. IsOpenTree width k (slice_get bs) 0 free [] [] fs [] []) one
          (subst (λ k. IsOpenTree width (length bs) (slice_get bs) 0 k [] [] fs [] []) same
          (subst (λ k. IsOpenTree width (length bs) (slice_get bs) k (front fs 0) [] [] fs [] []) none
          (opens_tree width (length bs) (slice_get bs) root [] [] fs tree (none_zero width (length bs) (slice_get bs) root [] [] fs tree))));
      none = sym entries;
    }
bare_by width bs xs free root [] (l ∷ ls) fs none same tree entries = absurd (omega (arith, ap (λ (k : List ℕ). length k) (sym (no_top root none) ∙ tree.hangs)))
bare_by width bs xs free root (u ∷ us) ls fs none same tree entries = absurd (omega (arith, tree.some (omega arith), ap (λ (k : List ℕ). length k) (no_top root none)))

pub bare_rootless : (c : List ℕ) (bs xs : List (List ℕ)) (r : TreeLook) → (length bs ≡ 0 → ⊥) → tree_in (length c) bs ≡ Some xs → said_by root_in (slice_get bs 0) ≡ Some (r.head.root, r.head.free) → r.head.root ≡ 0 → r.trail ≡ None → IsLooked c bs xs r
bare_rootless c bs xs r some is said none off =
    let s = tree_is (length c) bs xs some is in
    subst (λ o. MatchOption o (IsBare (length c) bs r.head.free xs) (λ t. TreeAt c bs r.head.root r.head.free t xs)) (sym off)
    (bare_by (length c) bs xs r.head.free s.root s.inner s.leaves s.spares (root_same (slice_get bs) s.root (front s.spares 0) r.head.root r.head.free s.tree.head said ∙ none)
    (root_free (slice_get bs) s.root (front s.spares 0) r.head.root r.head.free s.tree.head said) s.tree s.entries)

-- the tree under a root that is one
record IsUnderRoot (width : ℕ) (bs xs : List (List ℕ)) (root free : ℕ) : Type 0 where
  us : List (List Inner)
  ls : List Leaf
  fs : List Spare
  tree : IsTree width (length bs) (slice_get bs) root us ls fs
  from : TreeFrom width (slice_get bs) root us ls
  free_is : free ≡ front fs 0
  entries : entries_of ls ≡ xs

under_root : (width : ℕ) (bs xs : List (List ℕ)) (root free : ℕ) → (length bs ≡ 0 → ⊥) → tree_in width bs ≡ Some xs → said_by root_in (slice_get bs 0) ≡ Some (root, free) → (root ≡ 0 → ⊥) → IsUnderRoot width bs xs root free
under_root width bs xs root free some is said on =
    let s = tree_is width bs xs some is in
    let same = root_same (slice_get bs) s.root (front s.spares 0) root free s.tree.head said in
    let tree = subst (λ n. IsTree width (length bs) (slice_get bs) n s.inner s.leaves s.spares) same s.tree in
    record {
      us = s.inner;
      ls = s.leaves;
      fs = s.spares;
      tree = tree;
      from = record { hangs = subst (λ (ns : List ℕ). Hangs ns s.inner (numbers s.leaves)) (some_top root on) tree.hangs; inner = tree.inner; chain = tree.chain; rises = tree.rises };
      free_is = sym (root_free (slice_get bs) s.root (front s.spares 0) root free s.tree.head said);
      entries = s.entries;
    }

-- of a way
pub looked_at : (c : List ℕ) (bs xs : List (List ℕ)) (r : TreeLook) (t : Trail) → (length bs ≡ 0 → ⊥) → tree_in (length c) bs ≡ Some xs → said_by root_in (slice_get bs 0) ≡ Some (r.head.root, r.head.free) → (r.head.root ≡ 0 → ⊥) → r.trail ≡ Some t
    → ((us : List (List Inner)) (ls : List Leaf) → TreeFrom (length c) (slice_get bs) r.head.root us ls → IsTrail c us ls r.head.root t) → IsLooked c bs xs r
looked_at c bs xs r t some is said on found at =
    let u = under_root (length c) bs xs r.head.root r.head.free some is said on in
    subst (λ o. MatchOption o (IsBare (length c) bs r.head.free xs) (λ t. TreeAt c bs r.head.root r.head.free t xs)) (sym found)
    (record { us = u.us; ls = u.ls; fs = u.fs; tree = u.tree; some = on; at = at u.us u.ls u.from; free_is = u.free_is; entries = u.entries })

-- where no tree of so few levels hangs from the root, there is none
pub near_none : (width : ℕ) (bs : List (List ℕ)) (root free : ℕ) → width ≤ 104 → length bs ≤ 1048576 → (length bs ≡ 0 → ⊥) → said_by root_in (slice_get bs 0) ≡ Some (root, free) → (root ≡ 0 → ⊥)
    → ((us : List (List Inner)) (ls : List Leaf) → TreeFrom width (slice_get bs) root us ls → length us ≤ 9 → length us + 1 < length bs → ⊥) → tree_in width bs ≡ None
near_none width bs root free low room some said on off = no_tree width bs (tree_in width bs) refl (λ xs is.
    let u = under_root width bs xs root free some is said on in
    let s = tree_sizes width (length bs) (slice_get bs) root u.us u.ls u.fs u.tree on in
    off u.us u.ls u.from (nine_levels width (length bs) (slice_get bs) root u.ls u.fs u.us low room u.tree) (omega (arith, s.all, s.inner, s.levels)))

-- the free blocks of a look are a chain

pub bare_free : (width : ℕ) (bs xs : List (List ℕ)) (free : ℕ) → IsBare width bs free xs → FreeFrom (slice_get bs) free
bare_free width bs xs free b = record { spares = b.spares; chain = b.opened.spare; is = sym b.opened.free_is }

pub at_free : (c : List ℕ) (bs xs : List (List ℕ)) (root free : ℕ) (t : Trail) → TreeAt c bs root free t xs → FreeFrom (slice_get bs) free
at_free c bs xs root free t a = record { spares = a.fs; chain = a.tree.free; is = a.free_is }

pub looked_free : (c : List ℕ) (bs xs : List (List ℕ)) (r : TreeLook) → IsLooked c bs xs r → FreeFrom (slice_get bs) r.head.free
looked_free c bs xs r is = by r.trail is
  where
    by : (o : Option Trail) → MatchOption o (IsBare (length c) bs r.head.free xs) (λ t. TreeAt c bs r.head.root r.head.free t xs) → FreeFrom (slice_get bs) r.head.free
    by None b = bare_free (length c) bs xs r.head.free b
    by (Some t) a = at_free c bs xs r.head.root r.head.free t a

-- whether an entry stands in the tree shows in the leaf

pub at_rises : (c : List ℕ) (bs xs : List (List ℕ)) (root free : ℕ) (t : Trail) → TreeAt c bs root free t xs → AreInByteOrder xs
at_rises c bs xs root free t a = subst AreInByteOrder a.entries (entries_rise (length c) a.ls (marked 0 (fences [] a.us)) (chain_wide (length c) (slice_get bs) a.ls 0 a.tree.chain) a.tree.rises)

pub at_has : (c : List ℕ) (bs xs : List (List ℕ)) (root free : ℕ) (t : Trail) → TreeAt c bs root free t xs → has_entry c xs ≡ at_is c (slice_get t.leaf.entries.items (lead c t.leaf.entries.items))
at_has c bs xs root free t a =
    let es = t.leaf.entries.items in
    let ahead = a.at.spot.ahead in
    let rest = a.at.spot.rest in
    let whole : xs ≡ entries_of ahead ++ (es ++ entries_of rest) = sym a.entries ∙ ap entries_of a.at.spot.is ∙ entries_append ahead ((t.number, es) ∷ rest) in
    ap (has_entry c) whole ∙ stands_has c (entries_of ahead) es (entries_of rest) a.at.spot.stands (a.at.spot.other refl) (subst AreInByteOrder whole (at_rises c bs xs root free t a))

-- an entry that stands there already
pub with_same : (c : List ℕ) (xs : List (List ℕ)) → AreInByteOrder xs → has_entry c xs ≡ true → with_entry c xs ≡ xs
with_same c xs rises on =
    let new = take (lead c xs) xs ++ c ∷ drop (lead c xs) xs in
    with_at c xs ∙ ap (λ t. cond t xs new) (sym (has_at c xs rises) ∙ on)

-- the blocks spell the list of a look
pub at_list : (c : List ℕ) (bs xs : List (List ℕ)) (root free : ℕ) (t : Trail) → TreeAt c bs root free t xs → tree_in (length c) bs ≡ Some xs
at_list c bs xs root free t a = tree_of (length c) bs root a.us a.ls a.fs a.tree ∙ ap Some a.entries

pub looked_some : (c : List ℕ) (bs xs : List (List ℕ)) (r : TreeLook) (t : Trail) → IsLooked c bs xs r → r.trail ≡ Some t → TreeAt c bs r.head.root r.head.free t xs
looked_some c bs xs r t is at = subst (λ o. MatchOption o (IsBare (length c) bs r.head.free xs) (λ t. TreeAt c bs r.head.root r.head.free t xs)) at is

pub looked_none : (c : List ℕ) (bs xs : List (List ℕ)) (r : TreeLook) → IsLooked c bs xs r → r.trail ≡ None → IsBare (length c) bs r.head.free xs
looked_none c bs xs r is at = subst (λ o. MatchOption o (IsBare (length c) bs r.head.free xs) (λ t. TreeAt c bs r.head.root r.head.free t xs)) at is
