use Rattle.std.proofs.Common.{◌≡◌, ◌∙◌, true, false, sym}
use Rattle.dms_site.specs.Files.{Cut}
use Rattle.dms_guard.specs.GuardLaws.{guarded_written}
use Rattle.dms_guard.proofs.site.RunSiteSite.cut.Goals as goal

pub returns-clause-same_site : goal.returns-clause-same_site
returns-clause-same_site g c =
    guarded_written _ c.args.file (Cut c.args.len) c.args.self.now.site c.cut.new.self (λ is. let none : false ≡ true = sym c.if-is_beside.false ∙ c.is_beside.ensures.1 is in absurd cc) c.cut.ensures.same_site c.cut.ensures.torn c.cut.ensures.moments c.cut.ensures.faults.later
