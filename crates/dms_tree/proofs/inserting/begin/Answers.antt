use Rattle.std.proofs.Common.{ℕ, ◌≡◌, ◌≤◌, ◌<◌, ◌∙◌, inl, inr, List, [], ◌∷◌, max, ap, sym, subst, length, slice_get, refl, arith}
use Rattle.std.proofs.lemmas.Bool.{cases_lt}
use Rattle.std.proofs.lemmas.Result.{on_ok_weaker}
use Rattle.dms_block.specs.Content.{Content, put_block}
use Rattle.dms_block.specs.HeldLaws.{told_after}
use Rattle.dms_block.specs.View.{overlay_content, seen_counts}
use Rattle.dms_block.specs.ViewLaws.{counts_seen, seen_still}
use Rattle.dms_chain.specs.ListBlocks.{leaf_bytes}
use Rattle.dms_chain.specs.SeenLaws.{counts_still, file_still}
use Rattle.dms_chain.specs.Written.{grown_more, grown_since, two_count, two_grown, two_in, two_off}
use Rattle.dms_tree.specs.Begins.{begun_count, begun_list}
use Rattle.dms_tree.specs.Settles.{IsTaken}
use Rattle.dms_tree.specs.TreeIn.{tree_in}
use Rattle.dms_tree.proofs.inserting.begin.Goals as goal

pub take_block-requires-clause-some : goal.take_block-requires-clause-some
take_block-requires-clause-some g c off = elim (cases_lt 0 (seen_counts c.args.over.now c.args.file)) [
  | inl less ↦ less
  | inr past ↦ absurd (off (c.requires.new (omega (arith, past))))
]

pub returns-clause-list : goal.returns-clause-list
returns-clause-list g c = on_ok_weaker c.write_two.result (λ wrote told xs b.
    let a = c.args.over.now in
    let m = c.take_block.new.over in
    let d = c.write_two.new.over in
    let file = c.args.file in
    let e = c.args.entry.now in
    let w = length e in
    let bs = overlay_content a file in
    let reads = c.in_ok-taken.ensures.reads in
    let t = c.in_ok-taken.taken in
    let n = counts_seen a (g.met.B.Blocks.agrees a.below c.requires.sound) told file in
    let end : c.max-end.result ≡ max (length bs) 1 = omega (arith, c.max-end.ensures, c.count.ensures, n) in
    let taken = subst (λ k. IsTaken (slice_get bs) k c.args.free t.number t.free t.end) end (c.in_ok-taken.ensures.taken told) in
    let most = (begun_count w bs xs c.args.free t.number t.free t.end b taken).1 in
    let block : c.leaf_block.result.0 ≡ leaf_bytes 0 (e ∷ []) = c.leaf_block.ensures ∙ (λ i. leaf_bytes (c.in_ok-leaf.ensures.next i) (c.in_ok-leaf.ensures.entries i)) in
    let is = two_in (overlay_content m) (overlay_content d) file c.root_block.result.0 t.number c.leaf_block.result.0 (wrote (told_after reads.looks.passes.lasts told) reads.looks.stays.sound) in
    ap (tree_in w) (is ∙ (λ i. put_block t.number (block i) (put_block 0 (c.root_block.ensures i) (file_still file reads told i))))
    ∙ begun_list w bs xs c.args.free t.number t.free t.end b taken e refl c.requires.width (omega (arith, most, n, c.requires.room))) c.write_two.ensures.seen

pub returns-clause-others : goal.returns-clause-others
returns-clause-others g c = on_ok_weaker c.write_two.result (λ wrote told other off.
    let reads = c.in_ok-taken.ensures.reads in
    two_off (overlay_content c.take_block.new.over) (overlay_content c.write_two.new.over) c.args.file c.root_block.result.0 c.in_ok-taken.taken.number c.leaf_block.result.0 other off (wrote (told_after reads.looks.passes.lasts told) reads.looks.stays.sound)
    ∙ ap (λ (k : Content). k other) (seen_still reads told)) c.write_two.ensures.seen

pub returns-clause-grows : goal.returns-clause-grows
returns-clause-grows g c = on_ok_weaker c.write_two.result (λ wrote.
    let a = seen_counts c.args.over.now in
    let b = seen_counts c.take_block.new.over in
    let d = seen_counts c.write_two.new.over in
    let file = c.args.file in
    let still = counts_still c.in_ok-taken.ensures.reads in
    let near : c.in_ok-taken.taken.number ≤ max (b file) 1 = omega (arith, c.in_ok-taken.ensures.near, c.max-end.ensures, c.count.ensures, ap (λ (k : ℕ → ℕ). k file) still) in
    grown_more 2 11 file a d (omega arith) (grown_since 2 a b d file still (two_grown b d file c.in_ok-taken.taken.number near wrote))) c.write_two.ensures.counts

pub returns-clause-room : goal.returns-clause-room
returns-clause-room g c = on_ok_weaker c.write_two.result (λ wrote told xs b.
    let a = c.args.over.now in
    let file = c.args.file in
    let bs = overlay_content a file in
    let t = c.in_ok-taken.taken in
    let n = counts_seen a (g.met.B.Blocks.agrees a.below c.requires.sound) told file in
    let end : c.max-end.result ≡ max (length bs) 1 = omega (arith, c.max-end.ensures, c.count.ensures, n) in
    let taken = subst (λ k. IsTaken (slice_get bs) k c.args.free t.number t.free t.end) end (c.in_ok-taken.ensures.taken told) in
    let counts = begun_count (length c.args.entry.now) bs xs c.args.free t.number t.free t.end b taken in
    omega (arith, two_count (seen_counts c.take_block.new.over) (seen_counts c.write_two.new.over) file t.number wrote, ap (λ (k : ℕ → ℕ). k file) (counts_still c.in_ok-taken.ensures.reads), counts.0, counts.1, n)) c.write_two.ensures.counts
