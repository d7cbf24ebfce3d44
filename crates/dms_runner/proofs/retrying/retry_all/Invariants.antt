use Rattle.std.proofs.Common.{◌<◌, ◌+◌, ◌^◌, length}
use Rattle.dms_desc.specs.Shape.{as_described}
use Rattle.dms_model.specs.Session.{Session}
use Rattle.dms_storeverbs.specs.View.{Lasted, engine_view, view, StandsFor}
use Rattle.dms_runner.specs.Answers.{IsInOrder}
use Rattle.dms_runner.specs.Firsts.{AreHeld, lines_of}
use Rattle.dms_runner.proofs.Turns.{Retrying}
use Rattle.dms_runner.proofs.retrying.retry_all.Given as goal

abbrev pub invariant-loop-turn : goal.invariant-loop-turn
invariant-loop-turn g l = record {
  lasts : Lasted l.fn.engine l.engine;
  verbs : AreHeld (as_described l.fn.engine.desc) l.waiting;
  retrying : (s : Session) → StandsFor (view l.fn.engine) s → s.next + length (lines_of l.fn.waiting) + 2 < 2 ^ 64 → IsInOrder (as_described l.fn.engine.desc) s → Retrying (as_described l.fn.engine.desc) s (lines_of l.fn.waiting) l._turn (lines_of l.waiting) (view l.engine) (engine_view l.fn.engine) (engine_view l.engine);
}
