-- An entry comes to the leaf that a way led to: it stands there, or the leaf has room, or it is to be cut.
use Rattle.std.proofs.Common.{◌≡◌, ℕ, ◌+◌, ◌*◌, ◌≤◌, ◌<◌, ◌⊎◌, inl, inr, List, [], ◌∷◌, ◌++◌, true, false, Some, None, refl, sym, ap, subst, ◌∙◌, length, slice_get, IsTrue, arith}
use Rattle.std.specs.declared.option.Option.{Option}
use Rattle.dms_block.specs.declared.blocks.Blocks.{Ghosts}
use Rattle.dms_block.specs.declared.overlay.Overlay.{Overlay}
use Rattle.dms_block.specs.Content.{put_block}
use Rattle.dms_block.specs.View.{overlay_content, under}
use Rattle.dms_chain.specs.Leads.{at_is, lead, rising_is}
use Rattle.dms_chain.specs.Linked.{front, numbers}
use Rattle.dms_chain.specs.ListBlocks.{leaf_bytes, leaf_in}
use Rattle.dms_chain.specs.ListIn.{Leaf, Spare, entries_of}
use Rattle.dms_chain.specs.Lists.{AreInByteOrder, has_entry, with_entry}
use Rattle.dms_chain.specs.Seen.{IsListWidth}
use Rattle.dms_chain.specs.SpellLaws.{AllWide, leaf_again}
use Rattle.dms_chain.specs.LinkedLaws.{numbers_times}
use Rattle.dms_chain.specs.Parts.{front_low}
use Rattle.dms_tree.specs.declared.descending.Side.TheVariants.{Through}
use Rattle.dms_tree.specs.declared.descending.TreeSpot.{TreeSpot}
use Rattle.dms_tree.specs.declared.tracing.Trail.{Trail}
use Rattle.dms_tree.specs.Finishing.{IsLeafUp}
use Rattle.dms_tree.specs.Glue.{one_longer, rising_new, trail_up, wide_new}
use Rattle.dms_tree.specs.Inserts.{fits_list, none_zero, with_place}
use Rattle.dms_tree.specs.LeafCuts.{AreTaken}
use Rattle.dms_tree.specs.Levels.{Inner}
use Rattle.dms_tree.specs.OpenLeaves.{half_second}
use Rattle.dms_tree.specs.OpenRoots.{opens_tree}
use Rattle.dms_tree.specs.OpenTree.{AreLeavesHalf, tree_times}
use Rattle.dms_tree.specs.TreeBlocks.{leaf_half}
use Rattle.dms_tree.specs.TreeIn.{IsTree, tree_in}
use Rattle.dms_tree.specs.TreeLaws.{tree_of}
use Rattle.dms_tree.specs.Trails.{IsTrail}
use Rattle.dms_tree.specs.Ways.{IsTreeSpot}

pub record TreeAt (c : List ℕ) (bs : List (List ℕ)) (root free : ℕ) (t : Trail) (xs : List (List ℕ)) : Type 0 where
  pub us : List (List Inner)
  pub ls : List Leaf
  pub fs : List Spare
  pub tree : IsTree (length c) (length bs) (slice_get bs) root us ls fs
  pub some : root ≡ 0 → ⊥
  pub at : IsTrail c us ls root t
  pub free_is : free ≡ front fs 0
  pub entries : entries_of ls ≡ xs

-- where it has no room, blocks are taken and the leaf is cut
pub at_full : (c : List ℕ) (bs : List (List ℕ)) (root free : ℕ) (t : Trail) (xs : List (List ℕ)) (fresh : List ℕ) (next end : ℕ) → IsListWidth (length c) → TreeAt c bs root free t xs → at_is c (slice_get t.leaf.entries.items (lead c t.leaf.entries.items)) ≡ false
    → 1017 < length (with_place c t.leaf.entries.items) * length c → AreTaken (slice_get bs) (length bs) free fresh next end → IsLeafUp (length c) end next bs root t.path.items t.number t.leaf.next (with_place c t.leaf.entries.items) fresh (with_entry c xs)
at_full c bs root free t xs fresh next end width a off many taken =
    subst (λ (l : List (List ℕ)). IsLeafUp (length c) end next bs root t.path.items t.number t.leaf.next (with_place c t.leaf.entries.items) fresh (with_entry c l)) a.entries
    (trail_up c bs root a.us a.ls a.fs t free fresh next end width a.tree a.some a.at a.free_is off many taken)

half_more : (n root least a b : ℕ) → a ≤ b → (n ≡ root) ⊎ (least ≤ a) → (n ≡ root) ⊎ (least ≤ b)
half_more n root least a b le (inl e) = inl e
half_more n root least a b le (inr h) = inr (omega (arith, le, h))

-- where it has room, one block is written
pub at_fits : (c : List ℕ) (bs : List (List ℕ)) (root free : ℕ) (t : Trail) (xs : List (List ℕ)) (bytes : List ℕ) → TreeAt c bs root free t xs → t.number < length bs → at_is c (slice_get t.leaf.entries.items (lead c t.leaf.entries.items)) ≡ false
    → leaf_in (length c) bytes ≡ Some (t.leaf.next, with_place c t.leaf.entries.items) → tree_in (length c) (put_block t.number bytes bs) ≡ Some (with_entry c xs)
at_fits c bs root free t xs bytes a low off reads =
    let w = length c in
    let es = t.leaf.entries.items in
    let p : TreeSpot = record { number = t.number; leaf = t.leaf; fence = a.at.fence } in
    let spot : IsTreeSpot Through c a.us a.ls p = record { spot = a.at.spot; next = a.at.next; between = a.at.between } in
    let ahead = a.at.spot.ahead in
    let rest = a.at.spot.rest in
    let here = subst (λ (l : List Leaf). IsTree w (length bs) (slice_get bs) root a.us l a.fs) a.at.spot.is a.tree in
    let o = opens_tree w (length bs) (slice_get bs) root a.us (ahead ++ (t.number, es) ∷ rest) a.fs here (none_zero w (length bs) (slice_get bs) root a.us (ahead ++ (t.number, es) ∷ rest) a.fs here) in
    let half = (half_second w root ahead ((t.number, es) ∷ rest) o.half).0 in
    fits_list c bs root a.us a.ls a.fs p bytes a.tree a.some spot low off reads (half_more t.number root (leaf_half w) (length es) (length (with_place c es)) (omega (arith, one_longer c es)) half)
    ∙ ap (λ (l : List (List ℕ)). Some (with_entry c l)) a.entries

module _ {B : Type 0} {g : Ghosts B} where
  -- what holds of the list of a file whose tree a way led through, where the content is told
  abbrev pub IfTreeAt : Overlay B g → (file : ℕ) (c : List ℕ) (root free : ℕ) → Trail → (List (List ℕ) → Type 0) → Type 0
  IfTreeAt o file c root free t P = IsTrue (under o).told → (xs : List (List ℕ)) → TreeAt c (overlay_content o file) root free t xs → P xs

pub at_written : (c : List ℕ) (bs : List (List ℕ)) (root free : ℕ) (t : Trail) (xs : List (List ℕ)) → IsListWidth (length c) → length bs ≤ 1048576 → TreeAt c bs root free t xs → t.number < length bs → AllWide (length c) t.leaf.entries.items → AreInByteOrder t.leaf.entries.items
    → at_is c (slice_get t.leaf.entries.items (lead c t.leaf.entries.items)) ≡ false → length (with_place c t.leaf.entries.items) * length c ≤ 1017 → tree_in (length c) (put_block t.number (leaf_bytes t.leaf.next (with_place c t.leaf.entries.items)) bs) ≡ Some (with_entry c xs)
at_written c bs root free t xs width room a low wide rising off fits =
    let w = length c in
    let es = t.leaf.entries.items in
    let ahead = a.at.spot.ahead in
    let rest = a.at.spot.rest in
    let here = subst (λ (l : List Leaf). IsTree w (length bs) (slice_get bs) root a.us l a.fs) a.at.spot.is a.tree in
    let next = front_low rest (length bs) (omega (arith, low)) (λ k more. here.low k (omega (arith, more, tree_times k a.us (ahead ++ (t.number, es) ∷ rest) a.fs, numbers_times k ahead ((t.number, es) ∷ rest)))) in
    at_fits c bs root free t xs (leaf_bytes t.leaf.next (with_place c es)) a low off
    (leaf_again w t.leaf.next (with_place c es) (omega (arith, width.low)) (omega (arith, a.at.next, next, room)) (wide_new c es wide) (record { some = omega (arith, one_longer c es); room = fits; rising = rising_is (with_place c es) (rising_new c es rising off) }))
