use Rattle.std.proofs.Common.{◌≡◌, ◌≤◌, ◌<◌, ◌/◌, ◌∙◌, ℕ, max, sym, ap, subst, length, take, drop, arith}
use Rattle.dms_block.specs.HeldLaws.{told_after}
use Rattle.dms_block.specs.Content.{Content, put_block}
use Rattle.dms_block.specs.View.{overlay_content, seen_counts}
use Rattle.dms_block.specs.ViewLaws.{seen_still}
use Rattle.dms_chain.specs.ListBlocks.{flat, head_bytes, leaf_bytes}
use Rattle.dms_ordlist.specs.ListChanges.{lower_fits, upper_fits}
use Rattle.dms_chain.specs.Parts.{wide_drop, wide_take}
use Rattle.dms_chain.specs.SeenLaws.{counts_still, file_still}
use Rattle.dms_chain.specs.SpellLaws.{wide_room}
use Rattle.dms_chain.specs.Written.{grown_since, three_count, three_grown, three_in, three_off}
use Rattle.dms_ordlist.proofs.inserting.split.Goals as goal

pub leaf_block-upper-requires-clause-room : goal.leaf_block-upper-requires-clause-room
leaf_block-upper-requires-clause-room g c =
    let es = c.args.leaf.entries.items in
    let half = c.len-half.result / 2 in
    let is : half ≡ length es / 2 = ap (λ (k : ℕ). k / 2) (omega (arith, c.len-half.ensures)) in
    subst (λ l. length (flat l) ≤ 1017) (sym c.in_ok-others.ensures.tail) (wide_room c.args.width (drop half es) (wide_drop c.args.width half es c.requires.wide) (upper_fits c.args.width half es c.requires.width is c.requires.almost))

pub leaf_block-lower-requires-clause-room : goal.leaf_block-lower-requires-clause-room
leaf_block-lower-requires-clause-room g c =
    let es = c.args.leaf.entries.items in
    let half = c.len-half.result / 2 in
    let is : half ≡ length es / 2 = ap (λ (k : ℕ). k / 2) (omega (arith, c.len-half.ensures)) in
    subst (λ l. length (flat l) ≤ 1017) (sym c.in_ok-others.ensures.items) (wide_room c.args.width (take half es) (wide_take c.args.width half es c.requires.wide) (lower_fits c.args.width half es c.requires.width is c.requires.almost))

pub returns-clause-seen : goal.returns-clause-seen
returns-clause-seen g c told =
    let a = c.args.over.now in
    let b = c.next_free.new.over in
    let d = c.write_three.new.over in
    let file = c.args.file in
    let es = c.args.leaf.entries.items in
    let next = c.args.leaf.next in
    let reads = c.in_ok-fresh.ensures.reads in
    let fresh = c.in_ok-fresh.fresh in
    let half = c.len-half.result / 2 in
    let is : half ≡ length es / 2 = ap (λ (k : ℕ). k / 2) (omega (arith, c.len-half.ensures)) in
    let head = head_bytes c.args.head.first c.in_ok-fresh.free in
    let upper : c.leaf_block-upper.result.0 ≡ leaf_bytes next (drop (length es / 2) es) = c.leaf_block-upper.ensures ∙ ap (leaf_bytes next) (c.in_ok-others.ensures.tail ∙ ap (λ k. drop k es) is) in
    let lower : c.leaf_block-lower.result.0 ≡ leaf_bytes fresh (take (length es / 2) es) = c.leaf_block-lower.ensures ∙ ap (leaf_bytes fresh) (c.in_ok-others.ensures.items ∙ ap (λ k. take k es) is) in
    three_in (overlay_content b) (overlay_content d) file head fresh c.leaf_block-upper.result.0 c.args.number c.leaf_block-lower.result.0 (c.in_ok-write_three.ensures.seen (told_after reads.looks.passes.lasts told) reads.looks.stays.sound)
    ∙ (λ i. put_block c.args.number (lower i) (put_block fresh (upper i) (put_block 0 head (file_still file reads told i))))

pub returns-clause-others : goal.returns-clause-others
returns-clause-others g c told other off =
    let b = c.next_free.new.over in
    let d = c.write_three.new.over in
    let reads = c.in_ok-fresh.ensures.reads in
    three_off (overlay_content b) (overlay_content d) c.args.file (head_bytes c.args.head.first c.in_ok-fresh.free) c.in_ok-fresh.fresh c.leaf_block-upper.result.0 c.args.number c.leaf_block-lower.result.0 other off
    (c.in_ok-write_three.ensures.seen (told_after reads.looks.passes.lasts told) reads.looks.stays.sound)
    ∙ ap (λ (k : Content). k other) (seen_still reads told)

pub returns-clause-grows : goal.returns-clause-grows
returns-clause-grows g c =
    let a = seen_counts c.args.over.now in
    let b = seen_counts c.next_free.new.over in
    let d = seen_counts c.write_three.new.over in
    let file = c.args.file in
    let still = counts_still c.in_ok-fresh.ensures.reads in
    let here = ap (λ (k : ℕ → ℕ). k file) still in
    let near : c.in_ok-fresh.fresh ≤ max (b file) 1 = omega (arith, c.in_ok-fresh.ensures.near, here) in
    let low : c.args.number < b file = omega (arith, c.requires.there, here) in
    grown_since 2 a b d file still (three_grown b d file c.in_ok-fresh.fresh c.args.number near low c.in_ok-write_three.ensures.counts)

pub returns-clause-count : goal.returns-clause-count
returns-clause-count g c =
    let b = seen_counts c.next_free.new.over in
    let d = seen_counts c.write_three.new.over in
    let file = c.args.file in
    let here = ap (λ (k : ℕ → ℕ). k file) (counts_still c.in_ok-fresh.ensures.reads) in
    let low : c.args.number < b file = omega (arith, c.requires.there, here) in
    omega (arith, three_count b d file c.in_ok-fresh.fresh c.args.number low c.in_ok-write_three.ensures.counts, here)
