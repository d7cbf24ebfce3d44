use Rattle.std.proofs.Common.{◌<◌, ◌∙◌, ℕ, [], length, sym, ap, arith, get_or}
use Rattle.dms_block.specs.Changing.{grown_is}
use Rattle.dms_block.specs.View.{overlay_content, seen_counts, under, overlay_changes}
use Rattle.dms_desc.specs.Files.{file_of}
use Rattle.dms_slots.specs.SlotBlockLaws.{none_at, some_at}
use Rattle.dms_slots.proofs.writing.block_at.Goals as goal

pub returns-then-count-block-clause-block : goal.returns-then-count-block-clause-block
returns-then-count-block-clause-block g c tells =
    let b = c.args.b.now in
    let f = file_of c.args.s.now.number in
    let counted = grown_is (overlay_changes b) (under b).owns (under b).counts (under b).content ((g.met.B.Blocks.agrees b.below c.requires.sound).counted tells) b.fits f in
    let here = ap (seen_counts b) c.file_of-file.ensures in
    c.blank.ensures ∙ sym (none_at (overlay_content b f) c.args.block (omega (arith, counted, here, c.count.ensures, c.if-count-block.true)))

pub returns-clause-block : goal.returns-clause-block
returns-clause-block g c tells =
    let b = c.args.b.now in
    let f = file_of c.args.s.now.number in
    let counted = grown_is (overlay_changes b) (under b).owns (under b).counts (under b).content ((g.met.B.Blocks.agrees b.below c.requires.sound).counted tells) b.fits f in
    let here = ap (seen_counts b) c.file_of-file.ensures in
    let low : c.args.block < length (overlay_content b f) = omega (arith, counted, here, c.count.ensures, c.if-count-block.false) in
    c.in_ok-bytes.ensures.block tells ∙ ap (λ (h : ℕ). get_or (overlay_content b h) c.args.block []) c.file_of-file.ensures ∙ some_at (overlay_content b f) c.args.block low
