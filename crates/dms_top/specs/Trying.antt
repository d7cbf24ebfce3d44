-- The command `try`: its promises.
use Rattle.std.specs.Prelude.{◌≡◌, IsOk, IsTrue}
use Rattle.std.specs.declared.result.Result.TheVariants.{Err}
use Rattle.dms_plain.specs.Speaking.{OnlySpeaks}
use Rattle.dms_site.specs.declared.site.Site.{Ghosts}
use Rattle.dms_site.specs.declared.source.Source as source
use Rattle.dms_status.specs.declared.status.SchemaFault.{SchemaFault}
use Rattle.dms_status.specs.declared.status.Status.{Status}
use Rattle.dms_status.specs.declared.status.Status.TheVariants.{Ok, SchemaRefused}
use Rattle.dms_top.specs.Answering.{Printed, PrintedFront, PrintedPart, script_of, try_events, try_text}
use Rattle.dms_newdb.specs.Judging.{judge_schema}
use Rattle.dms_top.specs.Premises.{OfInput, OfTriedScript}
use Rattle.dms_top.specs.Schema.{schema_text}
use Rattle.dms_top.specs.TryLimits.{BlamesTry, SaidIf}
use Rattle.dms_top.specs.Words.{IsOfTry, IsPast, ComesUnsaid}

-- What `try` promises of a site and an input before and after it, and of the status.
pub record TryDoes {S I : Type 0} (g : Ghosts S) (i : source.Ghosts I) (old new : S) (from to : I) (status : Status) : Type 0 where
  -- only the statuses 0, 2, 6, 7, 8 of the script and 10 come: no call on a file is made that could fail, and none is found to exist
  pub statuses : IsOfTry status
  -- a schema is refused by its first fault
  pub refused : (f : SchemaFault) → status ≡ SchemaRefused f → OfInput (i.left from) (λ all. judge_schema (schema_text all) ≡ Err f)
  -- the statuses after the schema, 0, 8 and 10, come only where it is accepted
  pub accepted : IsPast status → OfInput (i.left from) (λ all. IsOk (judge_schema (schema_text all)))
  -- the statuses 0, 6 and 8 have their cause in the input, and at 6 and 8 exactly what the lines before answer was printed
  pub by_input : BlamesTry (SaidIf g.tells_said (g.said old) (g.said new)) (i.left from) (i.left to) status
  -- at status 0 exactly what the script answers was printed
  pub answers : status ≡ Ok → IsTrue g.tells_said → OfInput (i.left from) (λ all. Printed (g.said old) (g.said new) (try_text all))
  -- at every status a prefix of that was printed, and at every status but 10 the text of whole answers
  pub part : IsTrue g.tells_said → OfInput (i.left from) (λ all. PrintedPart status (g.said old) (g.said new) (try_events all))
  -- at every status so it is of what the first so many lines answer, which keep the limits of lines and bytes
  pub front : IsTrue g.tells_said → OfTriedScript (i.left from) (λ d all. PrintedFront status d (script_of all) (g.said old) (g.said new))
  -- at status 2, which comes before the script, nothing was printed
  pub silent : IsTrue g.tells_said → ComesUnsaid status → g.said new ≡ g.said old
  -- the files stay
  pub files : IsTrue g.tells → g.files new ≡ g.files old
  -- a stop at each moment leaves what a stop at entry could leave, with more text or none
  pub only_speaks : OnlySpeaks (g.clock old) (g.clock new)
