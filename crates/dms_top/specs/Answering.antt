-- What `try` prints.
use Rattle.std.specs.Prelude.{◌≡◌, ℕ, List, [], ◌++◌, take}
use Rattle.std.specs.declared.result.Result.{Result}
use Rattle.std.specs.declared.result.Result.TheVariants.{Ok, Err}
use Rattle.dms_desc.specs.Shape.{Described}
use Rattle.dms_feed.specs.Lines.{raw_lines}
use Rattle.dms_model.specs.Db.{empty_db}
use Rattle.dms_runner.specs.Answers.{script_events}
use Rattle.dms_runner.specs.Events.{RunEvent, text_of}
use Rattle.dms_runner.specs.Running.{AreOfFront, KeepsFront}
use Rattle.dms_status.specs.declared.status.SchemaFault.{SchemaFault}
use Rattle.dms_status.specs.declared.status.Status.{Status}
use Rattle.dms_status.specs.declared.status.Status.TheVariants.{SayFault}
use Rattle.dms_newdb.specs.Judging.{judge_schema}
use Rattle.dms_top.specs.Schema.{schema_text, script_part}

-- the lines of the script of an input
abbrev pub script_of : List ℕ → List (List ℕ)
script_of input = script_part (raw_lines input)

-- nothing where the schema is refused; else what the script does over the empty database, event by event. Its first quiet point has number 1.
abbrev pub judged_events : Result Described SchemaFault → List (List ℕ) → List RunEvent
judged_events (Ok d) lines = script_events d empty_db 1 lines
judged_events (Err e) lines = []

-- what an input of `try` does, and the text that it answers
abbrev pub try_events : List ℕ → List RunEvent
try_events input = judged_events (judge_schema (schema_text input)) (script_of input)

abbrev pub try_text : List ℕ → List ℕ
try_text input = text_of (try_events input)

-- the same of these lines
abbrev pub lines_events : Described → List ℕ → List RunEvent
lines_events d all = script_events d empty_db 1 (raw_lines all)

abbrev pub lines_text : Described → List ℕ → List ℕ
lines_text d all = text_of (lines_events d all)

-- the text grew by these bytes
abbrev pub Printed : List ℕ → List ℕ → List ℕ → Type 0
Printed before after text = after ≡ before ++ text

-- the text grew by a prefix of these bytes
abbrev pub PrintedPrefix : List ℕ → List ℕ → List ℕ → Type 0
PrintedPrefix before after text = (n : ℕ) × (after ≡ before ++ take n text)

-- the text grew by that of the first so many of these events, each one whole
abbrev pub PrintedWhole : List ℕ → List ℕ → List RunEvent → Type 0
PrintedWhole before after events = (k : ℕ) × Printed before after (text_of (take k events))

-- the text grew by a prefix of that of these events, and, where no printing failed, by that of whole ones
pub record PrintedPart (status : Status) (before after : List ℕ) (events : List RunEvent) : Type 0 where
  pub text : PrintedPrefix before after (text_of events)
  pub whole : (status ≡ SayFault → ⊥) → PrintedWhole before after events

-- So it is of the first n lines of a script, which keep its limits of lines and bytes, or, where they are all, of the whole script with its end.
pub record PrintedFront (status : Status) (d : Described) (lines : List (List ℕ)) (before after : List ℕ) : Type 0 where
  pub n : ℕ
  pub events : List RunEvent
  pub front : KeepsFront lines n
  pub are : AreOfFront d empty_db 1 lines n events
  pub part : PrintedPart status before after events
