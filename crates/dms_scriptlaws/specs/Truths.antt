-- What a script tells, and when that is true.
use Rattle.std.specs.Prelude.{ℕ, ◌≡◌, ◌≤◌, ◌+◌, ◌⊎◌, ◌==◌, List, ◌∷◌, ◌++◌, Bool, IsTrue, Some, map, take, length}
use Rattle.std.specs.List.{list_any, range_with_len, AllByRecursion}
use Rattle.dms_base.specs.Name.{IsName}
use Rattle.dms_desc.specs.declared.structure.Item.{Item}
use Rattle.dms_desc.specs.Shape.{Shape, Described}
use Rattle.dms_model.specs.Db.{Db}
use Rattle.dms_desc.specs.Lookups.{structure_of}
use Rattle.dms_model.specs.Points.{Point, Quiet, Stop}
use Rattle.dms_model.specs.Session.{end_session}
use Rattle.dms_model.specs.declared.verb.Verb.{Verb}
use Rattle.dms_model.specs.Valid.{IsValid}
use Rattle.dms_model.specs.Verbs.{IsVerbOf}
use Rattle.dms_laws.specs.Made.{IsWellMade, OfAllItems}
use Rattle.dms_runner.specs.Answers.{script_events, script_run, answers_quiets, left_by}
use Rattle.dms_runner.specs.EventLaws.{any}
use Rattle.dms_runner.specs.Events.{RunEvent, CrashesWithin, text_of, quiets_of, durable_after}
use Rattle.dms_script.specs.declared.line.Line.TheVariants.{Verb as Spoken}
use Rattle.dms_script.specs.Lines.{line_of}
use Rattle.dms_script.specs.Spoken.{HasOrder}
use Rattle.dms_scriptlaws.specs.Told.{told}

-- the quiet points of these events that a syncpoint among them made durable: all up to the last one that was taken
abbrev pub durable_quiets : List RunEvent → List Quiet
durable_quiets events = take (durable_after 0 0 events) (quiets_of events)

-- one of these quiet points has this number
abbrev pub is_quiet_in : List Quiet → ℕ → Bool
is_quiet_in quiets n = list_any (λ (q : Quiet). q.0 == n) quiets

-- one of these points of a store has this number
abbrev pub is_point_in : List Point → ℕ → Bool
is_point_in points n = list_any (λ (p : Point). p.number == n) points

-- wherever the text breaks off, in what an event says, it tells nothing or the number of a quiet point that the events before
-- that one made durable
abbrev pub IsTruthful : List RunEvent → Type 0
IsTruthful events =
    (before : List RunEvent) (at : RunEvent) (rest : List RunEvent) (n : ℕ) → before ++ at ∷ rest ≡ events
    → (told (text_of before ++ take n at.text) ≡ 0) ⊎ IsTrue (is_quiet_in (durable_quiets before) (told (text_of before ++ take n at.text)))

-- a stop within these events, before which all quiet points were durable, leaves the quiet point that its text tells
abbrev pub LeavesTold : List RunEvent → Type 0
LeavesTold events =
    (text printed : List ℕ) (points : List Point) (next : ℕ) (stop : Stop) → CrashesWithin any (Some text) points (length points) next events stop
    → stop.said ≡ text ++ printed → (told printed ≡ 0) ⊎ IsTrue (is_point_in stop.points (told printed))

-- the quiet points have rising numbers from this one on, without a gap
abbrev pub RiseFrom : ℕ → List Quiet → Type 0
RiseFrom first quiets = map (λ (q : Quiet). q.0) quiets ≡ range_with_len first (length quiets)

-- each structure and each item of a description has a name
pub record HasNames (desc : Described) : Type 0 where
  pub structures : (n : ℕ) (shape : Shape) → structure_of desc n ≡ Some shape → IsName shape.name
  pub items : OfAllItems desc (λ (item : Item). IsName item.name)

-- A description under which scripts run: its verbs keep a database valid, its structures and items have names, it is in order, and what the
-- verb of a line names is there and of its kind
pub record IsRunnable (desc : Described) : Type 0 where
  pub made : IsWellMade desc
  pub names : HasNames desc
  pub order : HasOrder desc
  pub lines : (line name : List ℕ) (verb : Verb) → line_of desc line ≡ Spoken name verb → IsVerbOf desc verb

-- whatever a script says, wherever it breaks off, is true; and a stop within it leaves what it told
abbrev pub TellsTrue : Described → Db → ℕ → List (List ℕ) → Type 0
TellsTrue desc db first lines = IsTruthful (script_events desc db first lines)

abbrev pub StopsTold : Described → Db → ℕ → List (List ℕ) → Type 0
StopsTold desc db first lines = LeavesTold (script_events desc db first lines)

-- the database of each quiet point that a script makes is valid, and so is the one that it leaves; the numbers of the quiet points rise one by one from the
-- first number on, and the next one follows them
pub record StayValid (desc : Described) (db : Db) (first : ℕ) (lines : List (List ℕ)) : Type 0 where
  pub valid : AllByRecursion (λ (q : Quiet). IsValid desc q.1) (answers_quiets desc db first lines)
  pub left : IsValid desc (left_by desc db first lines)
  pub numbers : RiseFrom first (answers_quiets desc db first lines)
  pub next : (end_session (script_run desc db first lines).going.session).next ≡ first + length (answers_quiets desc db first lines)
