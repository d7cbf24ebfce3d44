use Rattle.std.proofs.Common.{length, sym}
use Rattle.dms_site.specs.Files.{Torn}
use Rattle.dms_online.specs.Sites.{but_written}
use Rattle.dms_online.proofs.dump_site.DumpSiteSite.write_at.Goals as goal

pub returns-clause-same_site : goal.returns-clause-same_site
returns-clause-same_site g c =
    but_written _ c.args.file (Torn c.args.at (length c.args.bytes.now)) c.args.self.now.site c.write_at.new.self (λ is. c.if-file-self.false (sym is)) c.write_at.ensures.same_site c.write_at.ensures.torn c.write_at.ensures.moments c.write_at.ensures.faults.later
