use Rattle.std.proofs.Common.{◌∙◌, ◌++◌, ap, List, ℕ, length, drop}
use Rattle.dms_site.specs.Files.{Files, range}
use Rattle.dms_sitemem.proofs.mem_site.MemSiteSite.read.Goals as goal

pub returns-clause-bytes : goal.returns-clause-bytes
returns-clause-bytes c =
    let into = c.args.into.now in
    let same = ap (λ (l : Files). l c.args.file) c.look-kept.ensures.files in (
      c.read-count.ensures.count ∙ ap (λ (l : List ℕ). length (range c.args.at (length into) l)) same,
      c.read-count.ensures.bytes ∙ ap (λ (l : List ℕ). range c.args.at (length into) l ++ drop c.read-count.result into) same,
    )
