use Rattle.dms_locks.specs.Waits.{HasNoCircle}
use Rattle.dms_model.specs.declared.verb.Verb.{Verb}
use Rattle.dms_model.specs.Session.{Session}
use Rattle.dms_runner.specs.Answers.{first_state}
use Rattle.dms_runner.proofs.Kept.{run_kept}
use Rattle.dms_scriptlaws.specs.Circles.{session_behind}
use Rattle.dms_scriptlaws.proofs.circles.circle_law.Goals as goal

pub returns : goal.returns
returns c = λ desc db first lines. record {
  none = (run_kept (λ (s : Session). HasNoCircle s.waits) (λ (v : Verb). Unit {0}) desc (λ line name verb is. tt) (λ s name verb v none. c.no_wait_circle_law.ensures.keeps desc s name verb none) (first_state db first) lines (c.no_wait_circle_law.ensures.first db first) tt).kept;
  next = λ name verb. c.deadlock_law.ensures desc (session_behind desc db first lines) name verb;
}
