use Rattle.std.proofs.Common.{◌∙◌, ℕ, List, [], sym, ap, get_or}
use Rattle.dms_desc.specs.Shape.{shape_of}
use Rattle.dms_block.specs.View.{overlay_content}
use Rattle.dms_slots.specs.SlotBlocks.{slots_in, before_free}
use Rattle.dms_slots.specs.SlotBlockLaws.{taken_block}
use Rattle.dms_slots.proofs.finding.taken_in.Goals as goal

pub returns-clause-taken : goal.returns-clause-taken
returns-clause-taken g c tells =
    let b = c.args.b.now in
    taken_block (shape_of c.args.s.now) c.in_ok-bytes.bytes.0 c.before_free.result (sym c.is_block.ensures ∙ c.if-not-is_block.false) c.before_free.ensures.first
    ∙ ap (λ (l : List ℕ). before_free (slots_in (shape_of c.args.s.now) l)) (c.in_ok-bytes.ensures.block tells ∙ ap (λ (h : ℕ). get_or (overlay_content b h) c.args.block []) c.file_of-file.ensures)
