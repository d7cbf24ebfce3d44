use Rattle.std.proofs.Common.{◌≡◌}
use Rattle.dms_desc.specs.Shape.{as_described}
use Rattle.dms_model.specs.Session.{Session}
use Rattle.dms_storeverbs.specs.View.{Lasted, engine_view, view, StandsFor, MayStep}
use Rattle.dms_runner.specs.Firsts.{lines_of, standing}
use Rattle.dms_runner.specs.Waiting.{AreVerbs}
use Rattle.dms_runner.proofs.Passes.{Passing}
use Rattle.dms_runner.proofs.Splits.{Split}
use Rattle.dms_runner.proofs.retrying.pass.Given as goal

abbrev pub invariant-loop-j : goal.invariant-loop-j
invariant-loop-j g l = record {
  lasts : Lasted l.fn.engine l.engine;
  verbs : AreVerbs (as_described l.fn.engine.desc) (lines_of l.waiting);
  firsts : l.waiting.firsts ≡ l.fn.waiting.firsts;
  passing : (c : Split l.waiting l.j) × ((s : Session) → StandsFor (view l.fn.engine) s → MayStep (as_described l.fn.engine.desc) s → Passing (as_described l.fn.engine.desc) s (lines_of l.fn.waiting) (standing c.behind) (standing c.ahead) (view l.engine) (engine_view l.fn.engine) (engine_view l.engine));
}
