-- The statuses of `run`.
use Rattle.dms_status.specs.declared.status.Status.{Status}
use Rattle.dms_status.specs.declared.status.Status.TheVariants.{Ok, BadWords, SchemaRefused, NoDatabase, Needed, InputFault, Memory, Limit, Damaged, SayFault, DiskFault, Exists, BadStatement, Reorganization, BadStream, Diverged, Flaw}
use Rattle.dms_runtop.specs.Statuses.{IsOfRun}
use Rattle.dms_top.specs.Words.{IsUntouched}

-- none of them comes before a call on the site
pub never_untouched : (s : Status) → IsOfRun s → IsUntouched s → ⊥
never_untouched Ok of is = is
never_untouched BadWords of is = of
never_untouched (SchemaRefused f) of is = of
never_untouched NoDatabase of is = is
never_untouched (Needed n) of is = is
never_untouched InputFault of is = is
never_untouched Memory of is = is
never_untouched (Limit l) of is = is
never_untouched (Damaged f b) of is = is
never_untouched SayFault of is = is
never_untouched DiskFault of is = is
never_untouched Exists of is = is
never_untouched (BadStatement p) of is = of
never_untouched (Reorganization why) of is = of
never_untouched (BadStream place) of is = of
never_untouched (Diverged file block) of is = of
never_untouched (Flaw flaw) of is = of
