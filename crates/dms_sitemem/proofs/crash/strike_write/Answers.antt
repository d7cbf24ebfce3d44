use Rattle.std.proofs.Common.{◌∙◌, ap, sym}
use Rattle.dms_site.specs.Files.{with_file}
use Rattle.dms_sitemem.specs.declared.pick.Fill.{Fill}
use Rattle.dms_sitemem.specs.Slots.{files_of}
use Rattle.dms_sitemem.specs.Picks.{file_after}
use Rattle.dms_sitemem.proofs.Kept.{same_file}
use Rattle.dms_sitemem.proofs.crash.strike_write.Goals as goal

pub returns-in-Old-clause-files : goal.returns-in-Old-clause-files
returns-in-Old-clause-files c =
    let files = files_of c.args.image.now.files in
    let f = c.args.file in
    same_file files f ∙ ap (λ (fill : Fill). with_file files f (file_after fill c.args.seed.now c.args.at c.args.bytes.now (files f))) (sym c.in-Old.is)
