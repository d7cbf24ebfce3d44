-- What a script does and answers: its lines, one after another.
use Rattle.std.specs.Prelude.{◌<◌, ◌^◌, ℕ, ◌+◌, List, [], ◌∷◌, ◌++◌, Bool, true, false, if◌then◌else◌, nat_le, length}
use Rattle.dms_desc.specs.Shape.{Described}
use Rattle.dms_feed.specs.Lines.{line_text}
use Rattle.dms_desc_bytes.specs.WellFormed.{IsWellFormed}
use Rattle.dms_laws.specs.Coherent.{IsCoherent}
use Rattle.dms_laws.specs.Exclusive.{IsExclusive}
use Rattle.dms_model.specs.declared.verb.Verb.{Verb}
use Rattle.dms_model.specs.Counting.{counts_of}
use Rattle.dms_model.specs.Db.{Db}
use Rattle.dms_model.specs.Points.{Quiet}
use Rattle.dms_model.specs.Session.{Session, Outcome, step, fresh_session, someone_works, is_waits}
use Rattle.dms_script.specs.declared.line.Line.{Line}
use Rattle.dms_script.specs.declared.line.Line.TheVariants.{Empty, Verb as Spoken, Bad}
use Rattle.dms_script.specs.Lines.{line_of}
use Rattle.dms_script.specs.Replies.{bad_text, unanswered_text}
use Rattle.dms_runner.specs.declared.waiting.WaitingLine.{WaitingLine}
use Rattle.dms_runner.specs.Events.{RunEvent, calls, says, goes_back, text_of, quiets_of}
use Rattle.dms_runner.specs.Waiting.{has_line, answer_text, RetryEffect, retries, events_before}

-- how a run stands: the session, the waiting lines in order of line number, and how many lines were taken
pub record RunState : Type 0 where
  pub session : Session
  pub waiting : List WaitingLine
  pub line : ℕ

-- one line more was taken
abbrev pub one_line_more : RunState → RunState
one_line_more g = record g { line = g.line + 1 }

-- room for the numbers of the quiet points that one more line may lead to: a step makes one at most
abbrev pub HasRoomForLine : RunState → Type 0
HasRoomForLine g = g.session.next + length g.waiting + 3 < 2 ^ 64

-- a session from which a script may go on, under a well-formed description: no two programs lock one record, what is locked is a record of the
-- database, and what programs have at hand hangs together with the database
pub record IsInOrder (desc : Described) (s : Session) : Type 0 where
  pub well : IsWellFormed desc
  pub exclusive : IsExclusive s
  pub coherent : IsCoherent desc s

-- one more line may be taken: there is room, and the session is in order
pub record MayTakeLine (desc : Described) (g : RunState) : Type 0 where
  pub room : HasRoomForLine g
  pub order : IsInOrder desc g.session

-- what a line, or a row of lines, leaves and does, and whether one line too many would be held
pub record LineEffect : Type 0 where
  pub going : RunState
  pub events : List RunEvent
  pub full : Bool

abbrev pub nothing_done : RunState → LineEffect
nothing_done g = record { going = g; events = []; full = false }

abbrev pub after_retries : ℕ → RetryEffect → LineEffect
after_retries line w = record { going = record { session = w.session; waiting = w.waiting; line = line }; events = w.events; full = false }

-- At most so many lines are held; the next one is the limit. The try, where there was one, comes before that test; something is
-- said only of a line that is held
abbrev pub put_to_wait : RunState → Session → WaitingLine → List RunEvent → List RunEvent → LineEffect
put_to_wait g s h first_try_effect said =
    if nat_le 10000 (length g.waiting) then record { going = record g { session = s }; events = first_try_effect; full = true }
    else record { going = record { session = s; waiting = g.waiting ++ h ∷ []; line = g.line }; events = first_try_effect ++ said; full = false }

abbrev pub first_line : ℕ → List ℕ → Verb → Bool → WaitingLine
first_line line name verb printed = record { line = line; program = name; verb = verb; printed = printed }

-- a line with this count was tried for the first time: it is held, or answered, and then the waiting lines are retried
abbrev pub first_try_effect : Described → RunState → List ℕ → Verb → ℕ → Outcome → LineEffect
first_try_effect desc g name verb count o =
    if is_waits o.reply then put_to_wait g o.session (first_line g.line name verb true) (calls count verb o ∷ []) (says (answer_text g.line name o.reply o.sync) ∷ [])
    else after_retries g.line (events_before (calls count verb o ∷ says (answer_text g.line name o.reply o.sync) ∷ []) (retries (length g.waiting) desc o.session g.waiting))

-- so a line of this program is tried
abbrev pub tried_first : Described → RunState → List ℕ → Verb → LineEffect
tried_first desc g name verb = first_try_effect desc g name verb (counts_of desc g.session name verb) (step desc g.session name verb)

-- what a line leaves and does; g counts it already. A line whose program has a waiting line is held without a try
abbrev pub line_effect : Described → RunState → Line → LineEffect
line_effect desc g Empty = nothing_done g
line_effect desc g (Bad place) = after_retries g.line (events_before (says (bad_text g.line place) ∷ []) (retries (length g.waiting) desc g.session g.waiting))
line_effect desc g (Spoken name verb) =
    if has_line g.waiting name then put_to_wait g g.session (first_line g.line name verb false) [] []
    else tried_first desc g name verb

unfoldable pub line_step : Described → RunState → List ℕ → LineEffect
line_step desc g raw = line_effect desc (one_line_more g) (line_of desc (line_text raw))

abbrev pub lines_before : LineEffect → LineEffect → LineEffect
lines_before before after = record after { events = before.events ++ after.events }

-- the lines in their order, up to the first that would be one too many to hold
unfoldable pub lines_run : Described → RunState → List (List ℕ) → LineEffect
lines_run desc g [] = nothing_done g
lines_run desc g (l ∷ ls) = if (line_step desc g l).full then line_step desc g l else lines_before (line_step desc g l) (lines_run desc (line_step desc g l).going ls)

-- the lines that are still held
abbrev pub unanswered_events : List WaitingLine → List RunEvent
unanswered_events [] = []
unanswered_events (h ∷ hs) = says (unanswered_text h.line h.program) ∷ unanswered_events hs

-- the end of a run; works: whether a program is in transaction state then
abbrev pub end_events : Bool → List WaitingLine → List RunEvent
end_events works waiting = unanswered_events waiting ++ goes_back works ∷ []

-- at the beginning: no program, nothing held
abbrev pub first_state : Db → ℕ → RunState
first_state db first = record { session = fresh_session db first; waiting = []; line = 0 }

-- the lines of a script as they stand in the input, each with the line feed that ends it, over a database whose next quiet
-- point has this number
abbrev pub script_run : Described → Db → ℕ → List (List ℕ) → LineEffect
script_run desc db first lines = lines_run desc (first_state db first) lines

-- what a script does: its lines, then each line that is still held is answered, and where a program is in transaction state the
-- database goes back to the last quiet point
unfoldable pub script_events : Described → Db → ℕ → List (List ℕ) → List RunEvent
script_events desc db first lines = (script_run desc db first lines).events ++ end_events (someone_works (script_run desc db first lines).going.session.programs) (script_run desc db first lines).going.waiting

-- what it answers
abbrev pub answers_text : Described → Db → ℕ → List (List ℕ) → List ℕ
answers_text desc db first lines = text_of (script_events desc db first lines)

-- the quiet points that it makes
abbrev pub answers_quiets : Described → Db → ℕ → List (List ℕ) → List Quiet
answers_quiets desc db first lines = quiets_of (script_events desc db first lines)

abbrev pub last_quiet : Db → List Quiet → Db
last_quiet db [] = db
last_quiet db (q ∷ qs) = last_quiet q.1 qs

-- the database that a script leaves: that of its last quiet point, or the one that it began with
abbrev pub left_by : Described → Db → ℕ → List (List ℕ) → Db
left_by desc db first lines = last_quiet db (answers_quiets desc db first lines)
