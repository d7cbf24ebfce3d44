use Rattle.dms_online.specs.Sites.{but_looked}
use Rattle.dms_online.proofs.dump_site.DumpSiteSite.read.Goals as goal

pub returns-clause-same_site : goal.returns-clause-same_site
returns-clause-same_site g c = but_looked _ c.args.self.now.site c.read.new.self c.read.ensures.same_site c.read.ensures.files c.read.ensures.moments c.read.ensures.faults.later
