-- What the command `utility` does: what is common to all statements, and a field for each statement.
use Rattle.std.specs.Prelude.{ℕ, ◌≡◌, List, Option}
use Rattle.std.specs.declared.result.Result.TheVariants as answer
use Rattle.dms_site.specs.declared.site.Site.{Ghosts}
use Rattle.dms_site.specs.declared.source.Source as source
use Rattle.dms_statements.specs.Statements.{statement_of}
use Rattle.dms_statements.specs.declared.statement.NamedRow.{NamedRow}
use Rattle.dms_statements.specs.declared.statement.Statement.TheVariants.{Dump, Rebuild, Rollback, Reconstruct}
use Rattle.dms_status.specs.declared.status.Status.{Status}
use Rattle.dms_dumping.specs.DumpDoes.{DumpDoes}
use Rattle.dms_dumping.specs.Statuses.{IsOfReading}
use Rattle.dms_goback.specs.RebuildDoes.{RebuildDoes}
use Rattle.dms_goback.specs.ReconstructDoes.{ReconstructDoes}
use Rattle.dms_goback.specs.RollbackDoes.{RollbackDoes}
use Rattle.dms_utility.specs.Asking.{JudgesText, OfText}
use Rattle.dms_utility.specs.Statuses.{IsOfUtility}

-- What `utility` promises of a site and of the input before and after it, and of the status.
pub record UtilityDoes {S I : Type 0} (g : Ghosts S) (i : source.Ghosts I) (old new : S) (from to : I) (status : Status) : Type 0 where
  -- only the statuses 0, 3, 4 of an opening or of a row, 5, 6, 7, 8 of the audit, 9, 10, 11 and 12 come
  pub statuses : IsOfUtility status
  -- 12 comes only where the input is no statement, with its first bad place; all but 6, 7 and 12 only where it is one
  pub text : JudgesText (i.left from) status
  -- at 6 and 12 no call on the site was made
  pub untouched : IsOfReading status → new ≡ old
  pub dump : OfText (i.left from) (λ all. (d : ℕ) → statement_of all ≡ answer.Ok (Dump d) → DumpDoes g d old new status)
  pub rollback : OfText (i.left from) (λ all. (n : ℕ) → statement_of all ≡ answer.Ok (Rollback n) → RollbackDoes g n old new status)
  pub rebuild : OfText (i.left from) (λ all. (d : ℕ) (chosen : Option ℕ) → statement_of all ≡ answer.Ok (Rebuild d chosen) → RebuildDoes g d chosen old new status)
  pub reconstruct : OfText (i.left from) (λ all. (d : ℕ) (rows : List NamedRow) → statement_of all ≡ answer.Ok (Reconstruct d rows) → ReconstructDoes g d rows old new status)
