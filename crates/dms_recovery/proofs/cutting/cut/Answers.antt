use Rattle.std.proofs.Common.{[]}
use Rattle.dms_opening.proofs.Looks.{ready_of}
use Rattle.dms_recovery.proofs.Cut.{cut_for, cut_behind}
use Rattle.dms_recovery.proofs.cutting.cut.Goals as goal

pub returns-in-Ok-clause-plans : goal.returns-in-Ok-clause-plans
returns-in-Ok-clause-plans c total first files asked rows plans = let kept = c.cut_counts.ensures.kept in cut_for total first files asked rows _ _ kept.0 kept.1 kept.2 kept.3 c.in-Ok.ensures.same plans

pub returns-in-Ok-clause-behind : goal.returns-in-Ok-clause-behind
returns-in-Ok-clause-behind c total first files asked rows plans = let kept = c.cut_counts.ensures.kept in cut_behind total first files asked rows _ _ kept.0 kept.1 kept.2 kept.3 c.in-Ok.ensures.same plans

pub returns-in-Ok-clause-fit : goal.returns-in-Ok-clause-fit
returns-in-Ok-clause-fit c = let kept = c.cut_counts.ensures.kept in ready_of 0 0 (λ f. []) _ _ kept.0 kept.1 kept.2 kept.3 c.in-Ok.ensures.same c.requires.fits c.cut_counts.ensures.few
