-- What the script of a load answers over the empty database, and the summary of it.
use Rattle.std.specs.Prelude.{ℕ, ◌≡◌, ◌+◌, true, List, codes, length, take}
use Rattle.dms_desc.specs.Shape.{Described}
use Rattle.dms_feed.specs.Lines.{raw_lines}
use Rattle.dms_load.specs.declared.summary.Summary.{Summary}
use Rattle.dms_load.specs.Script.{load_script}
use Rattle.dms_load.specs.Summary.{summary_text, times}
use Rattle.dms_model.specs.Db.{Db, empty_db, records_of}
use Rattle.dms_model.specs.Points.{Quiet}
use Rattle.dms_runner.specs.Answers.{answers_quiets, answers_text, left_by, script_run}

-- the lines of `load SEED N`
abbrev pub load_lines : ℕ → ℕ → List (List ℕ)
load_lines seed n = raw_lines (load_script seed n)

-- what they answer over the empty database of this description, whose first quiet point has number 1
abbrev pub load_answers : Described → ℕ → ℕ → List ℕ
load_answers d seed n = answers_text d empty_db 1 (load_lines seed n)

-- the quiet points that they make
abbrev pub load_quiets : Described → ℕ → ℕ → List Quiet
load_quiets d seed n = answers_quiets d empty_db 1 (load_lines seed n)

-- the database of the last of these, or the empty one where there is none
abbrev pub load_left : Described → ℕ → ℕ → Db
load_left d seed n = left_by d empty_db 1 (load_lines seed n)

-- ACCOUNT is the second structure of the schema
abbrev pub account : ℕ
account = 2

-- The summary: how many lines there are; how many of them were done, ended with an exception, were printed as waiting, and weren't answered; how many
-- quiet points they made; and how many records ACCOUNT has in the last of them. Each of the four words stands in an answer behind the name of its program,
-- and no name of this script or its schema has one.
unfoldable pub load_summary : Described → ℕ → ℕ → Summary
load_summary d seed n = record {
  lines = n + 4;
  done = times (codes " DONE") (load_answers d seed n);
  exceptions = times (codes " EXCEPTION") (load_answers d seed n);
  held = times (codes " WAITS FOR") (load_answers d seed n);
  unanswered = times (codes " UNANSWERED") (load_answers d seed n);
  quiets = length (load_quiets d seed n);
  records = length (records_of (load_left d seed n).records account);
}

-- its seven lines
abbrev pub load_text : Described → ℕ → ℕ → List ℕ
load_text d seed n = summary_text (load_summary d seed n)

-- a line of the script would be one too many to hold
abbrev pub HoldsTooMany : Described → ℕ → ℕ → Type 0
HoldsTooMany d seed n = (i : ℕ) × ((script_run d empty_db 1 (take (i + 1) (load_lines seed n))).full ≡ true)
