use Rattle.std.proofs.Common.{ℕ, ◌≡◌, ◌≤◌, ◌∙◌, [], ◌∷◌, max, ap, length, refl, arith}
use Rattle.std.proofs.lemmas.Result.{on_ok_weaker}
use Rattle.dms_block.specs.HeldLaws.{told_after}
use Rattle.dms_block.specs.Content.{Content, put_block}
use Rattle.dms_block.specs.View.{overlay_content, seen_counts}
use Rattle.dms_block.specs.ViewLaws.{counts_seen}
use Rattle.dms_chain.specs.ListBlocks.{head_bytes, leaf_bytes}
use Rattle.dms_ordlist.specs.ListChanges.{begun_list}
use Rattle.dms_chain.specs.ListIn.{list_in}
use Rattle.dms_chain.specs.SeenLaws.{counts_still, file_still}
use Rattle.dms_block.specs.ViewLaws.{seen_still}
use Rattle.dms_chain.specs.Written.{grown_since, two_count, two_grown, two_in, two_off}
use Rattle.dms_ordlist.proofs.inserting.begin.Goals as goal

pub returns-clause-list : goal.returns-clause-list
returns-clause-list g c = on_ok_weaker c.write_two.result (λ wrote told fs list free.
    let a = c.args.over.now in
    let b = c.next_free.new.over in
    let d = c.write_two.new.over in
    let file = c.args.file in
    let w = length c.args.entry.now in
    let reads = c.in_ok-number.ensures.reads in
    let number = c.in_ok-number.number in
    let head = head_bytes number c.in_ok-number.free in
    let n = counts_seen a (g.met.B.Blocks.agrees a.below c.requires.sound) told file in
    let block : c.leaf_block.result.0 ≡ leaf_bytes 0 (c.args.entry.now ∷ []) = c.leaf_block.ensures ∙ (λ i. leaf_bytes (c.in_ok-leaf.ensures.next i) (c.in_ok-leaf.ensures.entries i)) in
    let is = two_in (overlay_content b) (overlay_content d) file head number c.leaf_block.result.0 (wrote (told_after reads.looks.passes.lasts told) reads.looks.stays.sound) in
    ap (list_in w) (is ∙ (λ i. put_block number (block i) (put_block 0 head (file_still file reads told i))))
    ∙ begun_list w (overlay_content a file) 0 number c.in_ok-number.free c.args.entry.now c.requires.width (c.in_ok-number.ensures.taken told w [] fs list free) (omega (arith, n, c.requires.room)) refl) c.write_two.ensures.seen

pub returns-clause-others : goal.returns-clause-others
returns-clause-others g c = on_ok_weaker c.write_two.result (λ wrote told other off.
    let b = c.next_free.new.over in
    let d = c.write_two.new.over in
    let reads = c.in_ok-number.ensures.reads in
    two_off (overlay_content b) (overlay_content d) c.args.file (head_bytes c.in_ok-number.number c.in_ok-number.free) c.in_ok-number.number c.leaf_block.result.0 other off (wrote (told_after reads.looks.passes.lasts told) reads.looks.stays.sound)
    ∙ ap (λ (k : Content). k other) (seen_still reads told)) c.write_two.ensures.seen

pub returns-clause-grows : goal.returns-clause-grows
returns-clause-grows g c = on_ok_weaker c.write_two.result (λ wrote.
    let a = seen_counts c.args.over.now in
    let b = seen_counts c.next_free.new.over in
    let d = seen_counts c.write_two.new.over in
    let file = c.args.file in
    let still = counts_still c.in_ok-number.ensures.reads in
    let near : c.in_ok-number.number ≤ max (b file) 1 = omega (arith, c.in_ok-number.ensures.near, ap (λ (k : ℕ → ℕ). k file) still) in
    grown_since 2 a b d file still (two_grown b d file c.in_ok-number.number near wrote)) c.write_two.ensures.counts

pub returns-clause-room : goal.returns-clause-room
returns-clause-room g c = on_ok_weaker c.write_two.result (λ wrote told fs list free.
    let o = c.args.over.now in
    let b = seen_counts c.next_free.new.over in
    let file = c.args.file in
    let n = counts_seen o (g.met.B.Blocks.agrees o.below c.requires.sound) told file in
    let t = c.in_ok-number.ensures.taken told (length c.args.entry.now) [] fs list free in
    omega (arith, two_count b (seen_counts c.write_two.new.over) file c.in_ok-number.number wrote, ap (λ (k : ℕ → ℕ). k file) (counts_still c.in_ok-number.ensures.reads), t.room, n)) c.write_two.ensures.counts
