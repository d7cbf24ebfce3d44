use Rattle.std.proofs.Common.{◌≡◌, ◌+◌, ◌≤◌, ◌<◌, ◌∙◌, ℕ, List, [], Some, false, refl, sym, ap, subst, length, slice_get, arith}
use Rattle.std.proofs.lemmas.Result.{IfOk-weaker, on_ok_weaker}
use Rattle.std.specs.Prelude.{IfSome}
use Rattle.dms_block.specs.Content.{Content}
use Rattle.dms_block.specs.HeldLaws.{told_after}
use Rattle.dms_block.specs.View.{overlay_content, seen_counts, under}
use Rattle.dms_block.specs.ViewLaws.{seen_still}
use Rattle.dms_chain.specs.Changed.{writes_as, writes_err, writes_more}
use Rattle.dms_chain.specs.Lists.{has_entry, without}
use Rattle.dms_chain.specs.SeenLaws.{causes_since, counts_still, file_still}
use Rattle.dms_tree.specs.Erases.{NoTreeAt}
use Rattle.dms_tree.specs.Looks.{IfTree, NoTree, no_tree}
use Rattle.dms_tree.specs.TreeAts.{IfTreeAt, TreeAt}
use Rattle.dms_tree.specs.TreeIn.{tree_in}
use Rattle.dms_tree.specs.TreeLooks.{looked_none, looked_some}
use Rattle.dms_tree.specs.Trails.{TrailHolds}
use Rattle.dms_tree.proofs.erasing.remove.Goals as goal

pub remove_at-requires-clause-holds : goal.remove_at-requires-clause-holds
remove_at-requires-clause-holds g c =
    let w = length c.args.entry.now in
    let n = seen_counts c.args.over.now c.args.file in
    let held : TrailHolds w n c.in-Some.trail = subst (λ o. IfSome o (TrailHolds w n)) c.in-Some.is c.in_ok-found.ensures.holds in
    subst (λ k. TrailHolds w k c.in-Some.trail) (sym (ap (λ (k : ℕ → ℕ). k c.args.file) (counts_still c.in_ok-found.ensures.reads))) held

pub returns-in-Some-clause-list : goal.returns-in-Some-clause-list
returns-in-Some-clause-list g c = on_ok_weaker c.remove_at.result (λ p told xs is.
    let a = c.args.over.now in
    let e = c.args.entry.now in
    let file = c.args.file in
    let f = c.in_ok-found.found in
    let reads = c.in_ok-found.ensures.reads in
    let at = looked_some e (overlay_content a file) xs f c.in-Some.trail (c.in_ok-found.ensures.look told xs is) c.in-Some.is in
    p (told_after reads.looks.passes.lasts told) xs (subst (λ (l : List (List ℕ)). TreeAt e l f.head.root f.head.free c.in-Some.trail xs) (sym (file_still file reads told)) at)) c.remove_at.ensures.list

pub returns-in-Some-clause-answer : goal.returns-in-Some-clause-answer
returns-in-Some-clause-answer g c =
    let a = c.args.over.now in
    let b = c.look.new.over in
    let e = c.args.entry.now in
    let file = c.args.file in
    let f = c.in_ok-found.found in
    let t = c.in-Some.trail in
    let reads = c.in_ok-found.ensures.reads in
    IfOk-weaker c.remove_at.result (λ was. IfTreeAt b file e f.head.root f.head.free t (λ xs. was ≡ has_entry e xs)) (λ was. IfTree a file (length e) (λ xs. was ≡ has_entry e xs))
    (λ was p told xs is.
    let at = looked_some e (overlay_content a file) xs f t (c.in_ok-found.ensures.look told xs is) c.in-Some.is in
    p (told_after reads.looks.passes.lasts told) xs (subst (λ (l : List (List ℕ)). TreeAt e l f.head.root f.head.free t xs) (sym (file_still file reads told)) at)) c.remove_at.ensures.answer

pub returns-in-Some-clause-others : goal.returns-in-Some-clause-others
returns-in-Some-clause-others g c = on_ok_weaker c.remove_at.result (λ p told f off.
    let reads = c.in_ok-found.ensures.reads in
    p (told_after reads.looks.passes.lasts told) f off ∙ ap (λ (k : Content). k f) (seen_still reads told)) c.remove_at.ensures.others

pub returns-in-Some-clause-counts : goal.returns-in-Some-clause-counts
returns-in-Some-clause-counts g c = on_ok_weaker c.remove_at.result (λ p f. p f ∙ ap (λ (k : ℕ → ℕ). k f) (counts_still c.in_ok-found.ensures.reads)) c.remove_at.ensures.counts

pub returns-in-Some-clause-causes : goal.returns-in-Some-clause-causes
returns-in-Some-clause-causes g c =
    let a = c.args.over.now in
    let b = c.look.new.over in
    let file = c.args.file in
    let e = c.args.entry.now in
    let w = length e in
    let f = c.in_ok-found.found in
    let t = c.in-Some.trail in
    let reads = c.in_ok-found.ensures.reads in
    causes_since (NoTreeAt b file e f.head.root f.head.free t) (NoTree a file w) c.remove_at.result a b c.remove_at.new.over
    (λ g k h. (
      h.0,
      subst (λ m. k < m) (ap (λ (z : ℕ → ℕ). z file) (counts_still reads)) h.1,
      λ told. no_tree w (overlay_content a file) (tree_in w (overlay_content a file)) refl (λ xs is.
          let at = looked_some e (overlay_content a file) xs f t (c.in_ok-found.ensures.look told xs is) c.in-Some.is in
          h.2 (told_after reads.looks.passes.lasts told) xs (subst (λ (l : List (List ℕ)). TreeAt e l f.head.root f.head.free t xs) (sym (file_still file reads told)) at)),
    ))
    c.in_ok-found.ensures.causes reads c.remove_at.ensures.causes

pub returns-in-None-clause-list : goal.returns-in-None-clause-list
returns-in-None-clause-list g c told xs is =
    let a = c.args.over.now in
    let e = c.args.entry.now in
    let file = c.args.file in
    let none = (looked_none e (overlay_content a file) xs c.in_ok-found.found (c.in_ok-found.ensures.look told xs is) c.in-None.is).none in
    ap (tree_in (length e)) (file_still file c.in_ok-found.ensures.reads told) ∙ is ∙ ap Some (subst (λ (l : List (List ℕ)). l ≡ without e l) (sym none) refl)

pub returns-in-None-clause-answer : goal.returns-in-None-clause-answer
returns-in-None-clause-answer g c told xs is =
    let e = c.args.entry.now in
    let none = (looked_none e (overlay_content c.args.over.now c.args.file) xs c.in_ok-found.found (c.in_ok-found.ensures.look told xs is) c.in-None.is).none in
    subst (λ (l : List (List ℕ)). false ≡ has_entry e l) (sym none) refl

pub returns-in-None-clause-others : goal.returns-in-None-clause-others
returns-in-None-clause-others g c told f off = ap (λ (k : Content). k f) (seen_still c.in_ok-found.ensures.reads told)

pub returns-in-None-clause-counts : goal.returns-in-None-clause-counts
returns-in-None-clause-counts g c f = ap (λ (k : ℕ → ℕ). k f) (counts_still c.in_ok-found.ensures.reads)
