use Rattle.std.proofs.Common.{◌*◌, ◌∙◌, ℕ, List, ap}
use Rattle.std.proofs.lemmas.Result.{on_ok_weaker}
use Rattle.dms_fields.specs.Fields.{lay_bytes}
use Rattle.dms_layout.specs.Slots.{slot_width}
use Rattle.dms_block.specs.Content.{with_block}
use Rattle.dms_block.specs.View.{overlay_content}
use Rattle.dms_desc.specs.Files.{file_of}
use Rattle.dms_slots.specs.SlotBlocks.{block_of, place_of, block_at}
use Rattle.dms_slots.specs.SlotBlockLaws.{zeros_cut}
use Rattle.dms_slots.proofs.writing.free_slot.Goals as goal

pub returns-clause-seen : goal.returns-clause-seen
returns-clause-seen g c =
    let b = c.args.b.now in
    let f = file_of c.args.s.now.number in
    let items = c.args.s.now.items in
    let n = c.args.number in
    let zeros = zeros_cut c.width_of.result (slot_width items) c.ahead.result.now c.blank-zeros.result.0 c.ahead.ensures c.blank-zeros.ensures c.width_of.ensures.width c.requires.fits in
    on_ok_weaker c.write_bytes.result (λ h tells. h tells
    ∙ ap (λ (l : List ℕ). with_block (overlay_content b) f (block_of items n) (lay_bytes (place_of items n * slot_width items) l (block_at (overlay_content b f) (block_of items n)))) zeros) c.write_bytes.ensures.seen
