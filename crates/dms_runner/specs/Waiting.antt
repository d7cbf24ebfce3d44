-- Waiting lines: the retry over them, and what each try does.
use Rattle.std.specs.Prelude.{ℕ, List, [], ◌∷◌, ◌++◌, Bool, true, false, ◌&&◌, Some, None, if◌then◌else◌, zero, suc}
use Rattle.std.specs.declared.option.Option.{Option}
use Rattle.std.specs.List.{list_any, AllByRecursion}
use Rattle.std.specs.Str.{bytes_eq}
use Rattle.dms_desc.specs.Shape.{Described}
use Rattle.dms_model.specs.declared.reply.Reply.{Reply}
use Rattle.dms_model.specs.Counting.{counts_of}
use Rattle.dms_model.specs.Session.{Session, Outcome, step, is_waits}
use Rattle.dms_model.specs.Verbs.{IsVerbOf}
use Rattle.dms_script.specs.Replies.{reply_text, syncpoint_text}
use Rattle.dms_runner.specs.declared.waiting.WaitingLine.{WaitingLine}
use Rattle.dms_runner.specs.Events.{RunEvent, calls, says}

-- each of these lines has a verb that a line can spell
abbrev pub AreVerbs : Described → List WaitingLine → Type 0
AreVerbs desc waiting = AllByRecursion (λ h. IsVerbOf desc h.verb) waiting

-- a line of this program is among these
abbrev pub has_line : List WaitingLine → List ℕ → Bool
has_line waiting name = list_any (λ h. bytes_eq h.program name) waiting

abbrev pub sync_text : Option ℕ → List ℕ
sync_text None = []
sync_text (Some n) = syncpoint_text n

-- a reply, and then the syncpoint that its step took
unfoldable pub answer_text : ℕ → List ℕ → Reply → Option ℕ → List ℕ
answer_text line program reply sync = reply_text line program reply ++ sync_text sync

-- what is said of a line that was tried: that it waits is said once
abbrev pub said_of : WaitingLine → Reply → Option ℕ → List ℕ
said_of h reply sync = if is_waits reply && h.printed then [] else answer_text h.line h.program reply sync

abbrev pub tried_text : WaitingLine → Outcome → List ℕ
tried_text h o = said_of h o.reply o.sync

-- it was said that the line waits
abbrev pub said_to_wait : WaitingLine → WaitingLine
said_to_wait h = record h { printed = true }

-- a try in a session: the verb is called, and then something is said of it
abbrev pub tries : Described → Session → WaitingLine → List RunEvent
tries desc s h = calls (counts_of desc s h.program h.verb) h.verb (step desc s h.program h.verb) ∷ says (tried_text h (step desc s h.program h.verb)) ∷ []

-- what a retry leaves and does, and whether a line was answered
pub record RetryEffect : Type 0 where
  pub session : Session
  pub waiting : List WaitingLine
  pub events : List RunEvent
  pub answered : Bool

abbrev pub events_before : List RunEvent → RetryEffect → RetryEffect
events_before events w = record w { events = events ++ w.events }

-- a line is answered and leaves the list
abbrev pub answer_effect : Described → Session → WaitingLine → List WaitingLine → RetryEffect
answer_effect desc s h waiting = record { session = (step desc s h.program h.verb).session; waiting = waiting; events = tries desc s h; answered = true }

-- one retry: from the front, a line is tried if no earlier line of its program stands in the list, up to the first that is
-- answered. In front are the lines that were passed over
unfoldable pub retry : Described → Session → List WaitingLine → List WaitingLine → RetryEffect
retry desc s front [] = record { session = s; waiting = front; events = []; answered = false }
retry desc s front (h ∷ hs) =
    if has_line front h.program then retry desc s (front ++ h ∷ []) hs
    else (if is_waits (step desc s h.program h.verb).reply
    then events_before (tries desc s h) (retry desc (step desc s h.program h.verb).session (front ++ said_to_wait h ∷ []) hs)
    else answer_effect desc s h (front ++ hs))

abbrev pub retry_after_answer : Bool → RetryEffect → RetryEffect → RetryEffect
retry_after_answer true first rest = events_before first.events rest
retry_after_answer false first rest = first

-- after each answered line the retry begins again; it ends when nothing in the list is answered. Each answer shortens the
-- list, so there are at most as many answers as waiting lines
unfoldable pub retries : ℕ → Described → Session → List WaitingLine → RetryEffect
retries zero desc s waiting = record { session = s; waiting = waiting; events = []; answered = false }
retries (suc n) desc s waiting = retry_after_answer (retry desc s [] waiting).answered (retry desc s [] waiting) (retries n desc (retry desc s [] waiting).session (retry desc s [] waiting).waiting)
