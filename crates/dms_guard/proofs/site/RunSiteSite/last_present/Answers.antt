use Rattle.dms_guard.specs.GuardLaws.{guarded_looked}
use Rattle.dms_guard.proofs.site.RunSiteSite.last_present.Goals as goal

pub returns-clause-same_site : goal.returns-clause-same_site
returns-clause-same_site g c = guarded_looked _ c.args.self.now.site c.last_present.new.self c.last_present.ensures.same_site c.last_present.ensures.files c.last_present.ensures.moments c.last_present.ensures.faults.later
