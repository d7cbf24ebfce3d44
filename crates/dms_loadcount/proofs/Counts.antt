-- The summary, from what was counted.
use Rattle.std.proofs.Common.{◌≡◌, ◌+◌, ◌++◌, ◌∙◌, ◌≤◌, ℕ, List, [], Some, Option, false, ap, sym, subst, refl, arith, length}
use Rattle.std.specs.Prelude.{codes, IsErrOf}
use Rattle.std.specs.declared.result.Result.TheVariants.{Err}
use Rattle.dms_block.specs.Texts.{Prints}
use Rattle.dms_desc.specs.Shape.{Described}
use Rattle.dms_load.specs.declared.summary.Summary.{Summary}
use Rattle.dms_load.specs.Script.{load_script}
use Rattle.dms_load.specs.Summary.{times}
use Rattle.dms_loadcount.specs.declared.counting.CountFault.{CountFault}
use Rattle.dms_loadcount.specs.Answers.{account, load_answers, load_left, load_lines, load_quiets, load_summary, HoldsTooMany}
use Rattle.dms_loadcount.specs.Counted.{CountsLoad, CountsText}
use Rattle.dms_feed.specs.Feeds.{Remains}
use Rattle.dms_model.specs.Db.{Db, empty_db, records_of}
use Rattle.dms_model.specs.Session.{fresh_session}
use Rattle.dms_storeverbs.specs.View.{StandsFor, View}
use Rattle.dms_runner.specs.Running.{AnswersWhole, FitsScript, PassesWaiting}

summary_is : (d : Described) (seed n : ℕ) (s : Summary) (said : Option (List ℕ)) → CountsText (n + 4) said s → said ≡ Some (load_answers d seed n) → s.quiets ≡ length (load_quiets d seed n) → s.records ≡ length (records_of (load_left d seed n).records account) → s ≡ load_summary d seed n
unfolding load_summary
summary_is d seed n s said c is quiets records = λ i. record {
  lines = c.lines_is i;
  done = c.done (load_answers d seed n) is i;
  exceptions = c.exceptions (load_answers d seed n) is i;
  held = c.held (load_answers d seed n) is i;
  unanswered = c.unanswered (load_answers d seed n) is i;
  quiets = quiets i;
  records = records i;
}

-- a script that was answered whole over a database in memory, which had printed nothing before
pub counts : (d : Described) (seed n : ℕ) (s : Summary) (said : List ℕ) (before : Option (List ℕ)) (first next : ℕ) → CountsText (n + 4) (Some said) s → before ≡ Some [] → AnswersWhole d empty_db 1 (load_lines seed n) before (Some said) → FitsScript (load_script seed n)
    → s.quiets + 1 ≡ next → first ≡ 1 → first + length (load_quiets d seed n) ≤ next → next ≤ first + length (load_quiets d seed n) → s.records ≡ length (records_of (load_left d seed n).records account) → CountsLoad d seed n s
counts d seed n s said before first next c none a fits quiets one low high records = record { fits = fits; room = a.room; is = summary_is d seed n s (Some said) c (a.text [] none) (omega (arith, quiets, one, low, high)) records }

pub holds_too_many : (d : Described) (seed n : ℕ) (before after : Option (List ℕ)) → PassesWaiting d empty_db 1 (load_lines seed n) before after → HoldsTooMany d seed n
holds_too_many d seed n before after p = (p.n, p.full)

-- a session that begins with number 1
pub begins : (v : View) (n : ℕ) → n ≡ 1 → StandsFor v (fresh_session empty_db n) → StandsFor v (fresh_session empty_db 1)
begins v n one stands = subst (λ (k : ℕ). StandsFor v (fresh_session empty_db k)) one stands

-- with nothing held, what the source has left remains
pub remains : (held left all : List ℕ) → held ≡ [] → left ≡ all → Remains held (Some left) all
remains held left all none is = subst (λ (h : List ℕ). Remains h (Some left) all) (sym none) (ap (λ (l : List ℕ). Some l) is)

-- why a count failed, as its answer says
pub fault_is : (a b : CountFault) → IsErrOf {T = Summary} (Err a) b → a ≡ b
fault_is a b is = cc
