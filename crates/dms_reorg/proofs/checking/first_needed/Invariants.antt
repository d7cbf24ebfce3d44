use Rattle.std.proofs.Common.{◌≡◌, ◌+◌, None}
use Rattle.dms_desc.specs.Shape.{as_described}
use Rattle.dms_reorg.specs.Refusals.{EachBelow, first_lacking}
use Rattle.dms_reorg.proofs.checking.first_needed.Given as goal

abbrev pub invariant-loop-place : goal.invariant-loop-place
invariant-loop-place l = EachBelow (l.place + 1) (as_described l.old) (λ n s. first_lacking (as_described l.old) (as_described l.new) n ≡ None)
