use Rattle.std.proofs.Common.{ℕ, ap}
use Rattle.dms_load.specs.Script.{drawn}
use Rattle.dms_load.proofs.Draws.{draw_wraps}
use Rattle.dms_load.proofs.state.LoadState.draw.Goals as goal

pub returns-clause-value : goal.returns-clause-value
returns-clause-value c = ap (λ (x : ℕ). drawn x) (draw_wraps c.args.self.now.x)

pub returns-clause-x : goal.returns-clause-x
returns-clause-x c = draw_wraps c.args.self.now.x
