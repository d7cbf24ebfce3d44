use Rattle.std.proofs.Common.{◌∙◌, ap, length}
use Rattle.dms_layout.specs.SlotLaws.{slot_long}
use Rattle.dms_slots.proofs.writing.write_slot.Goals as goal

pub write_bytes-requires-clause-long : goal.write_bytes-requires-clause-long
write_bytes-requires-clause-long g c = ap length (c.as_slice.ensures ∙ c.in_ok-bytes.ensures) ∙ slot_long c.args.s.now.items c.args.slot.now c.requires.values
