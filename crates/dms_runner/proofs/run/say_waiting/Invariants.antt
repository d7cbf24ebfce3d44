use Rattle.dms_block.specs.Texts.{Prints}
use Rattle.std.proofs.Common.{◌≡◌, ◌<◌, ◌+◌, ◌^◌, take}
use Rattle.dms_runner.specs.Events.{text_of, Performs}
use Rattle.dms_model.specs.Session.{Session}
use Rattle.dms_storeverbs.specs.View.{Lasted, engine_view, view, StandsFor}
use Rattle.dms_runner.specs.Answers.{unanswered_events}
use Rattle.dms_runner.proofs.run.say_waiting.Given as goal

abbrev pub invariant-loop-line : goal.invariant-loop-line
invariant-loop-line g l = record {
  lasts : Lasted l.fn.engine l.engine;
  stands : (s : Session) → StandsFor (view l.fn.engine) s → StandsFor (view l.engine) s;
  next : (engine_view l.engine).next ≡ (engine_view l.fn.engine).next;
  programs : l.engine.programs ≡ l.fn.engine.programs;
  text : Prints (engine_view l.fn.engine).said (engine_view l.engine).said (text_of (unanswered_events (take l.line-index l.waiting)));
  ran : (engine_view l.fn.engine).next + 1 < 2 ^ 64 → Performs (engine_view l.fn.engine) (engine_view l.engine) (unanswered_events (take l.line-index l.waiting));
}
