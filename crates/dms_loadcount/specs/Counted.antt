-- What is known of a script that was counted to its end.
use Rattle.std.specs.Prelude.{ℕ, ◌≡◌, false, List, Some, codes}
use Rattle.std.specs.declared.option.Option.{Option}
use Rattle.dms_desc.specs.Shape.{Described}
use Rattle.dms_load.specs.declared.summary.Summary.{Summary}
use Rattle.dms_load.specs.Script.{load_script}
use Rattle.dms_load.specs.Summary.{times}
use Rattle.dms_loadcount.specs.Answers.{load_lines, load_summary}
use Rattle.dms_model.specs.Db.{empty_db}
use Rattle.dms_runner.specs.Answers.{script_run}
use Rattle.dms_runner.specs.Running.{FitsScript}

-- So many lines answered this text, where it is told: the four words are counted in it.
pub record CountsText (lines : ℕ) (said : Option (List ℕ)) (s : Summary) : Type 0 where
  pub lines_is : s.lines ≡ lines
  pub done : (text : List ℕ) → said ≡ Some text → s.done ≡ times (codes " DONE") text
  pub exceptions : (text : List ℕ) → said ≡ Some text → s.exceptions ≡ times (codes " EXCEPTION") text
  pub held : (text : List ℕ) → said ≡ Some text → s.held ≡ times (codes " WAITS FOR") text
  pub unanswered : (text : List ℕ) → said ≡ Some text → s.unanswered ≡ times (codes " UNANSWERED") text

-- it keeps the limits of a script, and this is its summary
pub record CountsLoad (d : Described) (seed n : ℕ) (s : Summary) : Type 0 where
  pub fits : FitsScript (load_script seed n)
  pub room : (script_run d empty_db 1 (load_lines seed n)).full ≡ false
  pub is : s ≡ load_summary d seed n
