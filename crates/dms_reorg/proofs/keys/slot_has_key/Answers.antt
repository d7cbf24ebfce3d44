use Rattle.std.proofs.Common.{◌∙◌, ℕ, Vec, Global, ap}
use Rattle.dms_desc.specs.Shape.{shape_of}
use Rattle.dms_slots.specs.Seen.{blocks_of}
use Rattle.dms_slots.specs.SlotBlocks.{slot_at, slot_opt}
use Rattle.dms_reorg.proofs.Collected.{adds_used}
use Rattle.dms_reorg.proofs.keys.slot_has_key.Goals as goal

pub returns-in_ok-has_key-in-Some-clause-had : goal.returns-in_ok-has_key-in-Some-clause-had
returns-in_ok-has_key-in-Some-clause-had g c told =
    let s = shape_of c.args.s.now in
    let t = shape_of c.args.t.now in
    adds_used {V = Vec ℕ Global} (λ k. k.items) c.args.keys.now c.has_key.new.keys c.args.kinds.now s c.args.first.now (slot_at t (blocks_of t c.args.over.now)) c.args.number c.in_ok-has_key-in-Some.field-0
    c.in-Some.slot c.in_ok-wide-in-Some.wide (c.in_ok-read_slot.ensures.slot told ∙ ap slot_opt c.in-Some.is) c.in_ok-wide-in-Some.ensures c.in_ok-has_key-in-Some.ensures
