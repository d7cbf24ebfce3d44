use Rattle.dms_guard.specs.GuardLaws.{guarded_looked}
use Rattle.dms_guard.proofs.site.RunSiteSite.read.Goals as goal

pub returns-clause-same_site : goal.returns-clause-same_site
returns-clause-same_site g c = guarded_looked _ c.args.self.now.site c.read.new.self c.read.ensures.same_site c.read.ensures.files c.read.ensures.moments c.read.ensures.faults.later
