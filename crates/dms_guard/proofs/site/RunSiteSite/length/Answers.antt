use Rattle.dms_guard.specs.GuardLaws.{guarded_looked}
use Rattle.dms_guard.proofs.site.RunSiteSite.length.Goals as goal

pub returns-clause-same_site : goal.returns-clause-same_site
returns-clause-same_site g c = guarded_looked _ c.args.self.now.site c.length.new.self c.length.ensures.same_site c.length.ensures.files c.length.ensures.moments c.length.ensures.faults.later
