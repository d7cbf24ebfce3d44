use Rattle.std.proofs.Common.{◌≡◌, ◌≤◌, ◌<◌, ◌+◌, ◌^◌, ℕ, List, take}
use Rattle.dms_desc.specs.Shape.{as_described}
use Rattle.dms_model.specs.Session.{fresh_session}
use Rattle.dms_storeverbs.specs.View.{Lasted, engine_view, view, StandsFor}
use Rattle.dms_runner.proofs.Running.{InputRead, RunsLines}
use Rattle.dms_runner.specs.Answers.{first_state}
use Rattle.dms_model.specs.Db.{Db}
use Rattle.dms_feed.specs.Feeds.{Remains}
use Rattle.dms_feed.specs.Lines.{raw_lines}
use Rattle.dms_runner.specs.Running.{AreEnded}
use Rattle.dms_runner.specs.Firsts.{AreHeld, lines_of}
use Rattle.dms_runner.proofs.run.take_lines.Given as goal

abbrev pub invariant-loop-line : goal.invariant-loop-line
invariant-loop-line g l = record {
  lasts : Lasted l.fn.engine l.engine;
  verbs : AreHeld (as_described l.fn.engine.desc) l.waiting;
  taken : g.I.Source.faults l.source ≡ g.I.Source.faults l.fn.source;
  same_source : g.I.Source.same_source l.fn.source l.source;
  small : l.room ≤ 2147483648;
  few : l.line ≤ 1000000;
  read : (all : List ℕ) → Remains l.fn.feed (g.I.Source.left l.fn.source) all → InputRead l.line l.room all l.feed (g.I.Source.left l.source);
  ended : (all : List ℕ) → Remains l.fn.feed (g.I.Source.left l.fn.source) all → AreEnded (take l.line (raw_lines all));
  runs : (db : Db) (first : ℕ) (all : List ℕ) → StandsFor (view l.fn.engine) (fresh_session db first) → first + 1000003 < 2 ^ 64 → Remains l.fn.feed (g.I.Source.left l.fn.source) all
      → RunsLines (as_described l.fn.engine.desc) (first_state db first) l.line l.room all (view l.engine) (lines_of l.waiting) l.feed (g.I.Source.left l.source) (engine_view l.fn.engine) (engine_view l.engine);
}
