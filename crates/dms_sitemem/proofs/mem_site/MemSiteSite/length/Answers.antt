use Rattle.std.proofs.Common.{◌∙◌, ap, List, ℕ, length}
use Rattle.dms_site.specs.Files.{Files}
use Rattle.dms_sitemem.proofs.mem_site.MemSiteSite.length.Goals as goal

pub returns-clause-length : goal.returns-clause-length
returns-clause-length c = ap (λ (l : List ℕ). length l) (c.bytes.ensures ∙ ap (λ (l : Files). l c.args.file) c.look-kept.ensures.files)
