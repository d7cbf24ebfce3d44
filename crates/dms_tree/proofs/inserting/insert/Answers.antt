use Rattle.std.proofs.Common.{◌≡◌, ◌<◌, ℕ, List, refl, sym, ap, subst, length, slice_get}
use Rattle.dms_block.specs.HeldLaws.{told_after}
use Rattle.dms_block.specs.View.{overlay_content}
use Rattle.dms_chain.specs.SeenLaws.{causes_since, counts_still, file_still}
use Rattle.dms_tree.specs.Looks.{NoTree, no_tree}
use Rattle.dms_tree.specs.Takings.{FreeFrom, NoFreeFrom}
use Rattle.dms_tree.specs.TreeIn.{tree_in}
use Rattle.dms_tree.specs.TreeLooks.{looked_free}
use Rattle.dms_tree.proofs.inserting.insert.Goals as goal

pub returns-clause-causes : goal.returns-clause-causes
returns-clause-causes g c =
    let a = c.args.over.now in
    let b = c.look.new.over in
    let file = c.args.file in
    let w = length c.args.entry.now in
    let found = c.in_ok-found.found in
    let reads = c.in_ok-found.ensures.reads in
    causes_since (NoFreeFrom b file found.head.free) (NoTree a file w) c.insert_in.result a b c.insert_in.new.over
    (λ f k h. (
      h.0,
      subst (λ m. k < m) (ap (λ (z : ℕ → ℕ). z file) (counts_still reads)) h.1,
      λ told. no_tree w (overlay_content a file) (tree_in w (overlay_content a file)) refl (λ xs is.
          h.2 (told_after reads.looks.passes.lasts told) (subst (λ (l : List (List ℕ)). FreeFrom (slice_get l) found.head.free) (sym (file_still file reads told))
          (looked_free c.args.entry.now (overlay_content a file) xs found (c.in_ok-found.ensures.look told xs is)))),
    ))
    c.in_ok-found.ensures.causes reads c.insert_in.ensures.causes
