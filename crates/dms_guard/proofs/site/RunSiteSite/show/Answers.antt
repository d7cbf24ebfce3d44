use Rattle.std.proofs.Common.{arith}
use Rattle.dms_guard.specs.GuardLaws.{guarded_looked}
use Rattle.dms_guard.proofs.site.RunSiteSite.show.Goals as goal

pub returns-clause-same_site : goal.returns-clause-same_site
returns-clause-same_site g c = guarded_looked _ c.args.self.now.site c.show.new.self c.show.ensures.same_site c.show.ensures.files c.show.ensures.moments (omega (arith, c.show.ensures.disk_faults))
