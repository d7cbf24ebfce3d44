use Rattle.std.proofs.Common.{◌≡◌, ◌∙◌, true, false, length, sym}
use Rattle.dms_site.specs.Files.{Torn}
use Rattle.dms_guard.specs.GuardLaws.{guarded_written}
use Rattle.dms_guard.proofs.site.RunSiteSite.write_at.Goals as goal

pub returns-clause-same_site : goal.returns-clause-same_site
returns-clause-same_site g c =
    guarded_written _ c.args.file (Torn c.args.at (length c.args.bytes.now)) c.args.self.now.site c.write_at.new.self (λ is. let none : false ≡ true = sym c.if-is_beside.false ∙ c.is_beside.ensures.1 is in absurd cc) c.write_at.ensures.same_site c.write_at.ensures.torn c.write_at.ensures.moments c.write_at.ensures.faults.later
