-- What the tries of waiting lines leave.
use Rattle.std.specs.Prelude.{◌≡◌, List, Bool, not}
use Rattle.dms_model.specs.Seen.{Seen}
use Rattle.dms_desc.specs.Shape.{Described}
use Rattle.dms_model.specs.Session.{Session, is_waits, step}
use Rattle.dms_storeverbs.specs.View.{View, StandsFor}
use Rattle.dms_runner.specs.declared.waiting.WaitingLine.{WaitingLine}
use Rattle.dms_runner.specs.Waiting.{RetryEffect, tries}
use Rattle.dms_runner.specs.Events.{Performs}
use Rattle.dms_runner.specs.Answers.{LineEffect}

-- a line was tried in a session: whether it was answered, the session that stands now, and what was said of it
pub record PerformsTry (desc : Described) (s : Session) (h : WaitingLine) (answered : Bool) (now : View) (before after : Seen) : Type 0 where
  pub answers : answered ≡ not (is_waits (step desc s h.program h.verb).reply)
  pub session : StandsFor now (step desc s h.program h.verb).session
  pub ran : Performs before after (tries desc s h)

-- one retry was made, and left these lines; answered: whether a line was answered
pub record PerformsRetry (w : RetryEffect) (now : View) (waiting : List WaitingLine) (answered : Bool) (before after : Seen) : Type 0 where
  pub session : StandsFor now w.session
  pub answered_is : w.answered ≡ answered
  pub waiting_is : w.waiting ≡ waiting
  pub ran : Performs before after w.events

-- the retries were made
pub record PerformsRetries (w : RetryEffect) (now : View) (waiting : List WaitingLine) (before after : Seen) : Type 0 where
  pub session : StandsFor now w.session
  pub waiting_is : waiting ≡ w.waiting
  pub ran : Performs before after w.events

-- a line was taken; on: whether there was room to hold it where it waits
pub record MatchesLine (l : LineEffect) (on : Bool) (now : View) (waiting : List WaitingLine) (before after : Seen) : Type 0 where
  pub full : l.full ≡ not on
  pub session : StandsFor now l.going.session
  pub waiting_is : waiting ≡ l.going.waiting
  pub ran : Performs before after l.events
