use Rattle.std.proofs.Common.{◌≡◌, drop}
use Rattle.dms_desc.specs.Fitting.{values_fit}
use Rattle.dms_desc.proofs.fitting.values_fit.Given as goal

abbrev pub invariant-loop-item : goal.invariant-loop-item
invariant-loop-item l = values_fit (drop l.item-index l.items) l.rest ≡ values_fit l.items l.values
