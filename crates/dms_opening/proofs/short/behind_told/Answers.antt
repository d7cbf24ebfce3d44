use Rattle.std.proofs.Common.{arith, get_or, take_all}
use Rattle.dms_restore.specs.declared.told.Told.{Told}
use Rattle.dms_opening.specs.Short.{is_told}
use Rattle.dms_opening.proofs.Going.{goes_more, goes_all, no_told, steps_told}
use Rattle.dms_opening.proofs.short.behind_told.Goals as goal

pub loop-one-preserved : goal.loop-one-preserved
loop-one-preserved c =
    goes_more (λ b (t : Told). is_told c.args.file b t) c.args.told.now c.loop-one.one-index no_told c.args.from c.loop-one.next c.past_told-next.result c.loop-one-test.true
    (steps_told c.args.file c.loop-one.next c.past_told-next.result (get_or c.args.told.now c.loop-one.one-index no_told) c.past_told-next.ensures) c.loop-one.invariant

pub returns : goal.returns
returns c = goes_all (λ b (t : Told). is_told c.args.file b t) c.args.told.now c.loop-one.one-index c.args.from c.loop-one.next (take_all c.loop-one.one-index c.args.told.now (omega (arith, c.loop-one-test.false))) c.loop-one.invariant
