use Rattle.std.proofs.Common.{sym}
use Rattle.dms_site.specs.Files.{Cut}
use Rattle.dms_online.specs.Sites.{but_written}
use Rattle.dms_online.proofs.dump_site.DumpSiteSite.cut.Goals as goal

pub returns-clause-same_site : goal.returns-clause-same_site
returns-clause-same_site g c =
    but_written _ c.args.file (Cut c.args.len) c.args.self.now.site c.cut.new.self (λ is. c.if-file-self.false (sym is)) c.cut.ensures.same_site c.cut.ensures.torn c.cut.ensures.moments c.cut.ensures.faults.later
