-- The first entry of an empty tree: what the blocks spell then.
use Rattle.std.proofs.Common.{◌≡◌, ℕ, zero, suc, ◌+◌, ◌^◌, ◌≤◌, ◌<◌, ◌⊎◌, inl, inr, max, List, [], ◌∷◌, ◌++◌, Some, refl, sym, ap, subst, ◌∙◌, length, slice_get, arith, IsTrue}
use Rattle.std.specs.declared.option.Option.{Option}
use Rattle.dms_block.specs.declared.blocks.Blocks.{Ghosts}
use Rattle.dms_block.specs.declared.overlay.Overlay.{Overlay}
use Rattle.dms_block.specs.Content.{put_block}
use Rattle.dms_block.specs.ContentLaws.{laid_length}
use Rattle.dms_block.specs.View.{overlay_content, under}
use Rattle.dms_chain.specs.Laid.{laid_look}
use Rattle.dms_chain.specs.Linked.{front, numbers, put, said_by, times}
use Rattle.dms_chain.specs.LinkedLaws.{chain_own, chain_still, numbers_length, times_own}
use Rattle.dms_chain.specs.ListBlocks.{free_in, leaf_bytes, leaf_in}
use Rattle.dms_chain.specs.ListIn.{Leaf, Spare}
use Rattle.dms_chain.specs.Parts.{front_low}
use Rattle.dms_chain.specs.Seen.{IsListWidth}
use Rattle.dms_chain.specs.SpellLaws.{leaf_again}
use Rattle.dms_tree.specs.Finishing.{open_head}
use Rattle.dms_tree.specs.OpenMoves.{top_is}
use Rattle.dms_tree.specs.OpenRoots.{closes_tree}
use Rattle.dms_tree.specs.OpenTree.{IsOpenTree, put_here, put_other, tree_length, tree_times}
use Rattle.dms_tree.specs.Settles.{IsTaken, took_one}
use Rattle.dms_tree.specs.TreeBlocks.{root_bytes, root_in}
use Rattle.dms_tree.specs.TreeIn.{IsTree, tree_in}
use Rattle.dms_tree.specs.TreeLaws.{tree_of}
use Rattle.dms_tree.specs.TreeLooks.{IsBare}
use Rattle.dms_tree.specs.TreeSpells.{root_again}

module _ {B : Type 0} {g : Ghosts B} where
  -- what holds where a file's tree is empty, its first free block is this, and its content is told
  abbrev pub IfBare : Overlay B g → (file width free : ℕ) → Type 0 → Type 0
  IfBare o file width free P = IsTrue (under o).told → (xs : List (List ℕ)) → IsBare width (overlay_content o file) free xs → P

-- one leaf of one entry is the tree
open_begin : (width count : ℕ) (look : ℕ → Option (List ℕ)) (free f : ℕ) (c : List ℕ) (fs : List Spare) (bytes : List ℕ) → IsOpenTree width count look 0 free [] [] fs [] (f ∷ []) → leaf_in width bytes ≡ Some (0, c ∷ [])
    → IsOpenTree width count (put look f bytes) f free [] ((f, c ∷ []) ∷ []) fs [] []
open_begin width count look free f c fs bytes o reads =
    let own = times_own f in
    let some : f ≡ 0 → ⊥ = λ e. absurd (omega (arith, o.zero, ap (λ k. times 0 (k ∷ [])) e, times_own 0)) in
    let all = tree_times f [] [] fs in
    record {
      free_is = o.free_is;
      more = tt;
      placed = tt;
      chain = chain_own (leaf_in width) look f bytes (c ∷ []) [] 0 some reads refl tt;
      spare = chain_still free_in look f bytes fs 0 (omega (arith, o.once f, own, all)) o.spare;
      half = (inl refl, tt);
      hangs = top_is f some;
      rises = (tt, tt);
      count_is = omega (arith, o.count_is, tree_length [] [] fs, tree_length [] ((f, c ∷ []) ∷ []) fs);
      once = λ k. omega (arith, o.once k, tree_times k [] [] fs, tree_times k [] ((f, c ∷ []) ∷ []) fs);
      low = λ k more. o.low k (omega (arith, more, tree_times k [] [] fs, tree_times k [] ((f, c ∷ []) ∷ []) fs));
      zero = omega (arith, o.zero, tree_times 0 [] [] fs, tree_times 0 [] ((f, c ∷ []) ∷ []) fs);
    }

-- how many blocks there are then
module _ (width : ℕ) (bs xs : List (List ℕ)) (free f next more : ℕ) (b : IsBare width bs free xs) (taken : IsTaken (slice_get bs) (max (length bs) 1) free f next more) where
  abbrev count : ℕ
  count = max (length bs) 1

  none_free : (fs : List Spare) → IsOpenTree width count (slice_get bs) 0 free [] [] fs [] [] → free ≡ 0 → length fs ≡ 0
  none_free [] o none = refl
  none_free (x ∷ fs) o none = absurd (o.spare.0 (o.free_is ∙ none))

  pub begun_count : (more ≡ max count (f + 1)) × (more ≤ max (length bs) 2)
  begun_count =
      let took = took_one width count (slice_get bs) 0 free f next more [] [] b.spares [] [] b.opened taken in
      let low = took.opened.low f (omega (arith, times_own f)) in
      elim taken [
        | inl t ↦ (omega (arith, t.1, t.3), omega (arith, t.3, b.opened.count_is, tree_length [] [] b.spares, none_free b.spares b.opened t.0))
        | inr t ↦ (omega (arith, t.3, low), omega (arith, t.3))
      ]

  pub begun_list : (c : List ℕ) → width ≡ length c → IsListWidth width → more ≤ 2097152 → tree_in width (put_block f (leaf_bytes 0 (c ∷ [])) (put_block 0 (root_bytes f next) bs)) ≡ Some (c ∷ [])
  begun_list c wide w most =
      let look = slice_get bs in
      let took = took_one width count look 0 free f next more [] [] b.spares [] [] b.opened taken in
      let head = root_bytes f next in
      let bytes = leaf_bytes 0 (c ∷ []) in
      let low : f < more = took.opened.low f (omega (arith, times_own f)) in
      let some : f ≡ 0 → ⊥ = λ e. absurd (omega (arith, took.opened.zero, ap (λ k. times 0 (k ∷ [])) e, times_own 0)) in
      let low' : next < more = subst (λ k. k < more) took.opened.free_is (front_low took.spares more (omega (arith, low)) (λ k some. took.opened.low k (omega (arith, some, tree_times k [] [] took.spares)))) in
      let reads : leaf_in width bytes ≡ Some (0, c ∷ []) = leaf_again width 0 (c ∷ []) (omega (arith, w.low)) (omega arith) (sym wide, tt) (record { some = omega arith; room = omega (arith, w.most, wide); rising = refl }) in
      let headed = open_head width more look 0 next [] [] took.spares (f ∷ []) head took.opened in
      let o = open_begin width more (put look 0 head) next f c took.spares bytes headed reads in
      let said : said_by root_in (put (put look 0 head) f bytes 0) ≡ Some (f, next) =
      ap (said_by root_in) (put_other (put look 0 head) f bytes 0 (λ e. some (sym e)) ∙ put_here look 0 head) ∙ root_again f next (omega (arith, low, most)) (omega (arith, low', most)) in
      let closed = closes_tree width more (put (put look 0 head) f bytes) f next [] ((f, c ∷ []) ∷ []) took.spares o (λ more. absurd (omega (arith, more))) said in
      let bs' = put_block 0 head bs in
      let one : length bs' ≡ count = laid_length 0 head bs (omega arith) in
      let near : f ≤ length bs' = omega (arith, one, low, begun_count.0) in
      let seen : slice_get (put_block f bytes bs') ≡ put (put look 0 head) f bytes = laid_look f bytes bs' near ∙ ap (λ (l : ℕ → Option (List ℕ)). put l f bytes) (laid_look 0 head bs (omega arith)) in
      let size : more ≡ length (put_block f bytes bs') = omega (arith, laid_length f bytes bs' near, one, begun_count.0) in
      tree_of width (put_block f bytes bs') f [] ((f, c ∷ []) ∷ []) took.spares (subst (λ (l : ℕ → Option (List ℕ)). IsTree width (length (put_block f bytes bs')) l f [] ((f, c ∷ []) ∷ []) took.spares) (sym seen)
      (subst (λ k. IsTree width k (put (put look 0 head) f bytes) f [] ((f, c ∷ []) ∷ []) took.spares) size closed))
