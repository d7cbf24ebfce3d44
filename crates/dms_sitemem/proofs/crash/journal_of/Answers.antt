use Rattle.std.proofs.Common.{◌∙◌, ap}
use Rattle.dms_site.specs.Files.{Files}
use Rattle.dms_sitemem.proofs.crash.journal_of.Goals as goal

pub returns-clause-files : goal.returns-clause-files
returns-clause-files c g = ap (λ (l : Files). l g) c.in_ok-recall.ensures.files ∙ c.in_ok-place_all.ensures.files g
