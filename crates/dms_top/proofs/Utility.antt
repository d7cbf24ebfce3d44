-- The statuses of `utility`.
use Rattle.dms_status.specs.declared.status.Status.{Status}
use Rattle.dms_status.specs.declared.status.Status.TheVariants.{Ok, BadWords, SchemaRefused, NoDatabase, Needed, InputFault, Memory, Limit, Damaged, SayFault, DiskFault, Exists, BadStatement, Reorganization, BadStream, Diverged, Flaw}
use Rattle.dms_top.specs.Words.{IsUntouched}
use Rattle.dms_dumping.specs.Statuses.{IsOfReading}
use Rattle.dms_utility.specs.Statuses.{IsOfUtility}

-- of them only a bad statement comes before a call on the site
pub only_read : (s : Status) → IsOfUtility s → IsUntouched s → IsOfReading s
only_read Ok of is = absurd is
only_read BadWords of is = absurd of
only_read (SchemaRefused f) of is = absurd of
only_read NoDatabase of is = absurd is
only_read (Needed n) of is = absurd is
only_read InputFault of is = absurd is
only_read Memory of is = absurd is
only_read (Limit l) of is = absurd is
only_read (Damaged f b) of is = absurd is
only_read SayFault of is = absurd is
only_read DiskFault of is = absurd is
only_read Exists of is = absurd is
only_read (BadStatement p) of is = tt
only_read (Reorganization why) of is = of
only_read (BadStream place) of is = of
only_read (Diverged file block) of is = of
only_read (Flaw flaw) of is = of
