use Rattle.std.proofs.Common.{◌≡◌, take}
use Rattle.dms_reorg.specs.Widened.{with_values}
use Rattle.dms_reorg.proofs.widening.with_values.Given as goal

abbrev pub invariant-loop-value : goal.invariant-loop-value
invariant-loop-value l = l.slot ≡ with_values (take l.value-index l.value-items) l.fn.slot
