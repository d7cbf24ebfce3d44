use Rattle.dms_online.specs.Sites.{but_looked}
use Rattle.dms_online.proofs.dump_site.DumpSiteSite.sync.Goals as goal

pub returns-clause-same_site : goal.returns-clause-same_site
returns-clause-same_site g c = but_looked _ c.args.self.now.site c.sync.new.self c.sync.ensures.same_site c.sync.ensures.files c.sync.ensures.moments c.sync.ensures.faults.later
