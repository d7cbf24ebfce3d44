use Rattle.std.proofs.Common.{◌≡◌, ◌+◌, ◌≤◌, ◌<◌, ◌⊎◌, ◌∙◌, ℕ, List, sym, ap, subst, length, arith}
use Rattle.std.proofs.lemmas.Result.{on_ok_weaker}
use Rattle.dms_block.specs.Content.{Content, put_block}
use Rattle.dms_block.specs.ContentLaws.{in_file, in_others}
use Rattle.dms_block.specs.View.{overlay_content, seen_counts}
use Rattle.dms_block.specs.ViewLaws.{counts_seen}
use Rattle.dms_chain.specs.ListBlocks.{leaf_bytes}
use Rattle.dms_chain.specs.SpellLaws.{wide_room}
use Rattle.dms_tree.specs.declared.raising.PathStep.{PathStep}
use Rattle.dms_tree.specs.Lessens.{LessHolds, less_cleared, less_stays}
use Rattle.dms_tree.specs.TreeBlocks.{leaf_half}
use Rattle.dms_tree.specs.TreeIn.{tree_in}
use Rattle.dms_tree.specs.TwoWrites.{count_kept}
use Rattle.dms_tree.proofs.lessening.lessen.Goals as goal

pub clear-requires-clause-near : goal.clear-requires-clause-near
clear-requires-clause-near g c = c.requires.holds.near

pub returns-then-is_cleared-clause-list : goal.returns-then-is_cleared-clause-list
returns-then-is_cleared-clause-list g c = on_ok_weaker c.clear.result (λ seen told xs l.
    let a = c.args.over.now in
    let file = c.args.file in
    let bs = overlay_content a file in
    let n = counts_seen a (g.met.B.Blocks.agrees a.below c.requires.sound) told file in
    let both = c.is_cleared.ensures.on c.if-is_cleared.true in
    ap (tree_in c.args.width) (seen told c.requires.sound)
    ∙ less_cleared c.args.width bs c.args.head.root c.args.head.free c.args.path.items c.args.number c.args.leaf.next c.args.leaf.entries.items xs l (subst (λ k. LessHolds k c.args.width c.args.path.items c.args.number c.args.head.free c.args.leaf.entries.items) n c.requires.holds) (omega (arith, n, c.requires.room))
    (ap (λ (p : List PathStep). length p) (sym c.as_slice.ensures.value) ∙ both.0) (ap (λ (p : List (List ℕ)). length p) (sym c.as_slice-2.ensures.value) ∙ both.1)) c.clear.ensures.seen

pub is_sparse-requires : goal.is_sparse-requires
is_sparse-requires g c = omega (arith, c.requires.holds.wide_is.low)

pub shrink_at-requires-clause-some : goal.shrink_at-requires-clause-some
shrink_at-requires-clause-some g c = subst (λ (p : List PathStep). 0 < length p) c.as_slice-3.ensures.value (c.is_sparse.ensures.on c.if-is_sparse.true)

pub leaf_block-requires-clause-room : goal.leaf_block-requires-clause-room
leaf_block-requires-clause-room g c = wide_room c.args.width c.args.leaf.entries.items c.requires.holds.wide c.requires.holds.room

pub returns-clause-list : goal.returns-clause-list
returns-clause-list g c = on_ok_weaker c.write.result (λ seen told xs l.
    let a = c.args.over.now in
    let file = c.args.file in
    let bs = overlay_content a file in
    let es = c.args.leaf.entries.items in
    let n = counts_seen a (g.met.B.Blocks.agrees a.below c.requires.sound) told file in
    let some : 0 < length c.args.path.items + length es = omega (arith, c.is_cleared.ensures.off c.if-is_cleared.false, ap (λ (p : List PathStep). length p) c.as_slice.ensures.value, ap (λ (p : List (List ℕ)). length p) c.as_slice-2.ensures.value) in
    let half : (length c.args.path.items ≡ 0) ⊎ (leaf_half c.args.width ≤ length es) = subst (λ (t : List PathStep × List (List ℕ)). (length t.0 ≡ 0) ⊎ (leaf_half c.args.width ≤ length t.1)) (λ i. (c.as_slice-3.ensures.value i, c.as_slice-4.ensures.value i)) (c.is_sparse.ensures.off c.if-is_sparse.false) in
    ap (tree_in c.args.width) (ap (λ (k : Content). k file) (seen told c.requires.sound) ∙ in_file (overlay_content a) file c.args.number c.leaf_block.result.0 ∙ ap (λ b. put_block c.args.number b bs) c.leaf_block.ensures)
    ∙ less_stays c.args.width bs c.args.head.root c.args.head.free c.args.path.items c.args.number c.args.leaf.next es xs l (subst (λ k. LessHolds k c.args.width c.args.path.items c.args.number c.args.head.free es) n c.requires.holds) (omega (arith, n, c.requires.room)) some half) c.write.ensures.seen

pub returns-clause-others : goal.returns-clause-others
returns-clause-others g c = on_ok_weaker c.write.result (λ seen told sound other off.
    ap (λ (k : Content). k other) (seen told sound) ∙ in_others (overlay_content c.args.over.now) c.args.file c.args.number c.leaf_block.result.0 other off) c.write.ensures.seen

pub returns-clause-counts : goal.returns-clause-counts
returns-clause-counts g c = on_ok_weaker c.write.result (λ counts f. ap (λ (k : ℕ → ℕ). k f) counts ∙ count_kept (seen_counts c.args.over.now) c.args.file c.args.number f c.requires.holds.near) c.write.ensures.counts
