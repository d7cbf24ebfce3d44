use Rattle.std.proofs.Common.{ap}
use Rattle.dms_site.specs.Files.{Files}
use Rattle.dms_sitemem.proofs.journal.Journal.new.Goals as goal

pub returns-clause-files : goal.returns-clause-files
returns-clause-files c f = ap (λ (l : Files). l f) c.new.ensures.files
