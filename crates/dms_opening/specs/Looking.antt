-- The first step of an opening: a database was looked at.
use Rattle.dms_site.specs.declared.site.Site.{Ghosts}
use Rattle.dms_restore.specs.Views.{view_of, LogStarts}
use Rattle.dms_opening.specs.declared.looking.PlannedOpening.{PlannedOpening}
use Rattle.dms_opening.specs.Openings.{IsTrailFound}
use Rattle.dms_opening.specs.Plans.{Plans}

-- A stop leaves no other files than those that are read. Scanning refuses nothing in them, and its trail is this one; no point of it is refused, and this is
-- what its opening does.
pub record IsLookedAt {S : Type 0} (g : Ghosts S) (p : PlannedOpening S) : Type 0 where
  pub starts : LogStarts (view_of g p.log)
  pub trail : IsTrailFound p.log.end.total p.log.first (g.files p.log.site)
  pub plans : Plans p.log.end.total p.log.first (g.files p.log.site) p.plan
