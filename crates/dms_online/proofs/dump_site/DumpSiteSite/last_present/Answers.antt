use Rattle.dms_online.specs.Sites.{but_looked}
use Rattle.dms_online.proofs.dump_site.DumpSiteSite.last_present.Goals as goal

pub returns-clause-same_site : goal.returns-clause-same_site
returns-clause-same_site g c = but_looked _ c.args.self.now.site c.last_present.new.self c.last_present.ensures.same_site c.last_present.ensures.files c.last_present.ensures.moments c.last_present.ensures.faults.later
