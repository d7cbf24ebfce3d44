-- Where a call starts from, and what it leaves there.
use Rattle.std.specs.Prelude.{ℕ, ◌≡◌, ◌≢◌, ◌+◌, ◌<◌, ◌≤◌, ◌^◌, List, [], Bool, true, false, length, take, Some, slice_get, OnOk, IsErrOf}
use Rattle.std.specs.declared.option.Option.{Option}
use Rattle.std.specs.declared.result.Result.{Result}
use Rattle.dms_block.specs.Texts.{Prints}
use Rattle.dms_block.specs.declared.block_fault.BlockFault.{BlockFault}
use Rattle.dms_desc.specs.Shape.{as_described}
use Rattle.dms_feed.specs.Feeds.{Remains}
use Rattle.dms_feed.specs.Lines.{first_line, raw_lines}
use Rattle.dms_model.specs.declared.store.Store.{Ghosts}
use Rattle.dms_model.specs.Db.{Db}
use Rattle.dms_model.specs.Session.{Session, end_session, fresh_session}
use Rattle.dms_storeverbs.specs.declared.engine.Engine.{Engine}
use Rattle.dms_storeverbs.specs.View.{StandsFor, MayStep, engine_view, view}
use Rattle.dms_script.specs.declared.line.Line.{Line}
use Rattle.dms_runner.specs.declared.waiting.WaitingLine.{WaitingLine}
use Rattle.dms_runner.specs.Answers.{RunState, LineEffect, IsInOrder, MayTakeLine, line_effect, line_step, script_events, script_run}
use Rattle.dms_runner.specs.Events.{RunEvent, EndsAnswered, Performs, PerformsPrefix, TakesEvents, fate_of, quiets_of}
use Rattle.dms_runner.specs.Blaming.{run_fate}
use Rattle.dms_runner.specs.declared.run.RunFault.{RunFault}
use Rattle.dms_runner.specs.declared.run.RunFault.TheVariants.{Lines, Bytes, Held, Input}
use Rattle.dms_runner.specs.Running.{AnswersWhole, AreExactly, AreOfFront, CutInput, FitsScript, KeepsFront, PassesBytes, PassesLines, PassesWaiting}
use Rattle.dms_runner.specs.Trying.{MatchesLine, PerformsRetries, PerformsRetry, PerformsTry}
use Rattle.dms_runner.specs.Waiting.{RetryEffect, retries, tries}

-- it holds of the waiting line in a slot
abbrev pub AtSlot : List (Option WaitingLine) → ℕ → (WaitingLine → Type 0) → Type 0
AtSlot slots i P = (h : WaitingLine) → slice_get slots i ≡ Some (Some h) → P h

-- it holds of the input that a feed and its source have left
abbrev pub OnInput : List ℕ → Option (List ℕ) → (List ℕ → Type 0) → Type 0
OnInput feed left P = (all : List ℕ) → Remains feed left all → P all

-- the input was at its end, and is
abbrev pub InputEnds : List ℕ → Option (List ℕ) → List ℕ → Option (List ℕ) → Type 0
InputEnds feed left feed' left' = OnInput feed left (λ all. (all ≡ []) × Remains feed' left' [])

module _ {St : Type 0} {g : Ghosts St} where
  -- it holds of the session that stands, in which a verb may be carried out
  abbrev pub AtSession : Engine St g → (Session → Type 0) → Type 0
  AtSession e P = (s : Session) → StandsFor (view e) s → MayStep (as_described e.desc) s → P s

  -- it holds of the run that goes on here: these lines are held, and this is the line's number
  abbrev pub AtRunState : Engine St g → List WaitingLine → ℕ → (RunState → Type 0) → Type 0
  AtRunState e waiting line P = (now : RunState) → StandsFor (view e) now.session → now.waiting ≡ waiting → now.line ≡ line → MayTakeLine (as_described e.desc) now → P now

  -- it holds of the database, the first number and the input of a run that starts here
  abbrev pub AtStart : Engine St g → List ℕ → Option (List ℕ) → (Db → ℕ → List ℕ → Type 0) → Type 0
  AtStart e feed left P = (db : Db) (first : ℕ) (all : List ℕ) → StandsFor (view e) (fresh_session db first) → first + 1000003 < 2 ^ 64 → Remains feed left all → P db first all

  -- it holds of the run that goes on here by one line more, of which these bytes are kept
  abbrev pub AtRawLine : Engine St g → List WaitingLine → ℕ → List ℕ → (RunState → List ℕ → Type 0) → Type 0
  AtRawLine e waiting line raw P = (now : RunState) (whole : List ℕ) → raw ≡ take 2003 whole → StandsFor (view e) now.session → now.waiting ≡ waiting → now.line + 1 ≡ line → MayTakeLine (as_described e.desc) now → P now whole

  -- it holds of the run that goes on here, and of the input that it has
  abbrev pub AtInput : Engine St g → List WaitingLine → ℕ → List ℕ → Option (List ℕ) → (RunState → List ℕ → Type 0) → Type 0
  AtInput e waiting line feed left P = (now : RunState) (all : List ℕ) → StandsFor (view e) now.session → now.waiting ≡ waiting → now.line ≡ line → MayTakeLine (as_described e.desc) now → Remains feed left all → P now all

  -- it holds of the session that stands, in which the waiting lines may be retried
  abbrev pub AtRetries : Engine St g → List WaitingLine → (Session → Type 0) → Type 0
  AtRetries e waiting P = (s : Session) → StandsFor (view e) s → s.next + length waiting + 2 < 2 ^ 64 → IsInOrder (as_described e.desc) s → P s

  -- what the try of a waiting line does
  abbrev pub tries_at : Engine St g → Session → WaitingLine → List RunEvent
  tries_at e s h = tries (as_described e.desc) s h

  -- a line was tried, and answered or not
  abbrev pub LineTried : Engine St g → Engine St g → Session → WaitingLine → Bool → Type 0
  LineTried old new s h answered = PerformsTry (as_described old.desc) s h answered (view new) (engine_view old) (engine_view new)

  -- one retry was made; answered: whether a line was answered
  abbrev pub RetryMade : Engine St g → Engine St g → List WaitingLine → Bool → RetryEffect → Type 0
  RetryMade old new waiting answered effect = PerformsRetry effect (view new) waiting answered (engine_view old) (engine_view new)

  -- what the retries of the waiting lines leave and do
  abbrev pub retries_at : Engine St g → Session → List WaitingLine → RetryEffect
  retries_at e s waiting = retries (length waiting) (as_described e.desc) s waiting

  -- they were made
  abbrev pub RetriesMade : Engine St g → Engine St g → List WaitingLine → RetryEffect → Type 0
  RetriesMade old new waiting effect = PerformsRetries effect (view new) waiting (engine_view old) (engine_view new)

  -- a line was taken; on: whether there was room to hold it where it waits
  abbrev pub LineTaken : Engine St g → Engine St g → List WaitingLine → Bool → LineEffect → Type 0
  LineTaken old new waiting on effect = MatchesLine effect on (view new) waiting (engine_view old) (engine_view new)

  -- what a line leaves and does, by what it says or by its bytes
  abbrev pub effect_at : Engine St g → RunState → Line → LineEffect
  effect_at e now line = line_effect (as_described e.desc) now line

  abbrev pub step_at : Engine St g → RunState → List ℕ → LineEffect
  step_at e now raw = line_step (as_described e.desc) now raw

  -- the first line of the input was taken, and there was room to hold it where it waits
  abbrev pub LineOfInputTaken : Engine St g → Engine St g → List WaitingLine → RunState → List ℕ → Type 0
  LineOfInputTaken old new waiting now all = LineTaken old new waiting true (step_at old now (first_line all))

  -- a prefix of these events happened
  abbrev pub PartHappened : {T : Type 0} → Result T BlockFault → Engine St g → Engine St g → List RunEvent → Type 0
  PartHappened result old new events = PerformsPrefix (fate_of result) (engine_view old) (engine_view new) events

  -- in a run
  abbrev pub RunPart : {T : Type 0} → Result T RunFault → Engine St g → Engine St g → List RunEvent → Type 0
  RunPart result old new events = PerformsPrefix (run_fate result) (engine_view old) (engine_view new) events

  -- a prefix happened of what the first line of the input does, which keeps the limit of bytes
  pub record LinePart {T : Type 0} (result : Result T RunFault) (old new : Engine St g) (room : ℕ) (now : RunState) (all : List ℕ) : Type 0 where
    pub some : all ≢ []
    pub fits : length (first_line all) ≤ room
    pub part : RunPart result old new (step_at old now (first_line all)).events

  -- nothing was said; the first line of the input would be one too many to hold, and keeps the limit of bytes, and only what its first try does was done
  pub record HeldTooMany (old new : Engine St g) (room : ℕ) (now : RunState) (all : List ℕ) : Type 0 where
    pub said : Prints (engine_view old).said (engine_view new).said []
    pub some : all ≢ []
    pub full : (step_at old now (first_line all)).full ≡ true
    pub fits : length (first_line all) ≤ room
    pub did : Performs (engine_view old) (engine_view new) (step_at old now (first_line all)).events

  -- the answers of the whole script were said
  abbrev pub AnswersAll : Engine St g → Engine St g → Db → ℕ → List ℕ → Type 0
  AnswersAll old new db first all = AnswersWhole (as_described old.desc) db first (raw_lines all) (engine_view old).said (engine_view new).said

  -- what the script of an input does
  abbrev pub events_at : Engine St g → Db → ℕ → List ℕ → List RunEvent
  events_at e db first all = script_events (as_described e.desc) db first (raw_lines all)

  -- the engine stands for the session at the end of the script
  abbrev pub StandsAtEnd : Engine St g → Engine St g → Db → ℕ → List ℕ → Type 0
  StandsAtEnd old new db first all = StandsFor (view new) (end_session (script_run (as_described old.desc) db first (raw_lines all)).going.session)

  -- the script passes a limit, or its input fails, and what the whole lines before that place answer was printed
  abbrev pub StopsAtLines : Engine St g → Engine St g → Db → ℕ → List ℕ → Type 0
  StopsAtLines old new db first all = PassesLines (as_described old.desc) db first (raw_lines all) (engine_view old).said (engine_view new).said

  abbrev pub StopsAtBytes : Engine St g → Engine St g → Db → ℕ → List ℕ → Type 0
  StopsAtBytes old new db first all = PassesBytes (as_described old.desc) db first (raw_lines all) (engine_view old).said (engine_view new).said

  abbrev pub StopsAtWaiting : Engine St g → Engine St g → Db → ℕ → List ℕ → Type 0
  StopsAtWaiting old new db first all = PassesWaiting (as_described old.desc) db first (raw_lines all) (engine_view old).said (engine_view new).said

  abbrev pub StopsAtInput : Option (List ℕ) → Engine St g → Engine St g → Db → ℕ → List ℕ → Type 0
  StopsAtInput left old new db first all = CutInput (as_described old.desc) db first all left (engine_view old).said (engine_view new).said

  -- exactly what the first m lines do was done
  pub record DoesExactly (old new : Engine St g) (db : Db) (first : ℕ) (all : List ℕ) (n : ℕ) (events : List RunEvent) (m : ℕ) : Type 0 where
    pub are : AreExactly (as_described old.desc) db first (raw_lines all) n events m
    pub did : Performs (engine_view old) (engine_view new) events

  -- So much of the script that an input has was carried out: a prefix of what its first n lines do, which keep its limits of lines and bytes, or, where
  -- they are all, of what it does to its end. Where the run stopped at a limit, or since the input failed, exactly what the lines before do was done; of
  -- a line that is one too many to hold its first try, if there is one, which waits, too.
  pub record CarriesOut {T : Type 0} (result : Result T RunFault) (left : Option (List ℕ)) (old new : Engine St g) (db : Db) (first : ℕ) (all : List ℕ) : Type 0 where
    pub n : ℕ
    pub events : List RunEvent
    pub front : KeepsFront (raw_lines all) n
    pub are : AreOfFront (as_described old.desc) db first (raw_lines all) n events
    pub part : RunPart result old new events
    pub whole : OnOk result (events ≡ events_at old db first all)
    pub lines : IsErrOf result Lines → StopsAtLines old new db first all × DoesExactly old new db first all n events 1000000
    pub bytes : IsErrOf result Bytes → (p : StopsAtBytes old new db first all) × DoesExactly old new db first all n events p.n
    pub full_list : IsErrOf result Held → (p : StopsAtWaiting old new db first all) × DoesExactly old new db first all n events (p.n + 1)
    pub failed : IsErrOf result Input → (p : StopsAtInput left old new db first all) × DoesExactly old new db first all n events p.n

  -- all lines of the script were taken, and it wasn't ended yet: these lines are held, and there is a number for one quiet point more
  pub record TakesAll (old new : Engine St g) (waiting : List WaitingLine) (db : Db) (first : ℕ) (all : List ℕ) : Type 0 where
    pub fits : FitsScript all
    pub roomy : (script_run (as_described old.desc) db first (raw_lines all)).full ≡ false
    pub stands : StandsFor (view new) (script_run (as_described old.desc) db first (raw_lines all)).going.session
    pub waiting_is : waiting ≡ (script_run (as_described old.desc) db first (raw_lines all)).going.waiting
    pub ran : Performs (engine_view old) (engine_view new) (script_run (as_described old.desc) db first (raw_lines all)).events
    pub answered : EndsAnswered (script_run (as_described old.desc) db first (raw_lines all)).events
    pub room : (engine_view new).next + 1 < 2 ^ 64

  -- no more was done than the events of the script may take
  abbrev pub EffortWithin : Engine St g → Engine St g → Db → ℕ → List ℕ → Type 0
  EffortWithin old new db first all = TakesEvents (engine_view old).desc (events_at old db first all) (engine_view old).effort (engine_view new).effort

  -- each quiet point of the script has used one number, and nothing else has
  abbrev pub UsesNumbers : Engine St g → Engine St g → Db → ℕ → List ℕ → Type 0
  UsesNumbers old new db first all = (engine_view new).next ≡ (engine_view old).next + length (quiets_of (events_at old db first all))
