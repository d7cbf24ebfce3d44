use Rattle.std.proofs.Common.{◌∙◌, sym, true, false}
use Rattle.dms_runner.proofs.Firsts.{slot_at}
use Rattle.dms_runner.proofs.slots.next_of.Goals as goal

pub returns-then-is_of : goal.returns-then-is_of
returns-then-is_of c = sym (slot_at c.args.slots.now c.loop-slot.slot c.args.name.now true c.loop-slot-test.true (sym c.is_of.ensures ∙ c.if-is_of.true)) ∙ c.loop-slot.invariant

pub loop-slot-preserved : goal.loop-slot-preserved
loop-slot-preserved c = sym (slot_at c.args.slots.now c.loop-slot.slot c.args.name.now false c.loop-slot-test.true (sym c.is_of.ensures ∙ c.if-is_of.false)) ∙ c.loop-slot.invariant
