use Rattle.dms_guard.specs.GuardLaws.{guarded_looked}
use Rattle.dms_guard.proofs.site.RunSiteSite.sync.Goals as goal

pub returns-clause-same_site : goal.returns-clause-same_site
returns-clause-same_site g c = guarded_looked _ c.args.self.now.site c.sync.new.self c.sync.ensures.same_site c.sync.ensures.files c.sync.ensures.moments c.sync.ensures.faults.later
