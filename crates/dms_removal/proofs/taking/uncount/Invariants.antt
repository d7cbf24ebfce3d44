use Rattle.std.proofs.Common.{◌≤◌, length, take, true, Ok}
use Rattle.dms_desc.specs.Shape.{as_described}
use Rattle.dms_links.specs.Releasing.{uncount_from}
use Rattle.dms_links.specs.Taking.{TakesSteps}
use Rattle.dms_removal.proofs.taking.uncount.Given as goal

abbrev pub invariant-loop-k : goal.invariant-loop-k
invariant-loop-k g l = record {
  bound : l.k ≤ length l.items;
  steps : TakesSteps (as_described l.desc) (uncount_from 0 (take l.k l.items) l.values) l.k (Ok true) l.fn.over l.over;
}
