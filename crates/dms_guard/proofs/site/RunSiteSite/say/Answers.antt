use Rattle.std.proofs.Common.{arith}
use Rattle.dms_guard.specs.GuardLaws.{guarded_printed}
use Rattle.dms_guard.proofs.site.RunSiteSite.say.Goals as goal

pub returns-clause-same_site : goal.returns-clause-same_site
returns-clause-same_site g c = guarded_printed _ c.args.self.now.site c.say.new.self c.args.bytes.now c.say.ensures.same_site c.say.ensures.files c.say.ensures.moments (omega (arith, c.say.ensures.disk_faults))
