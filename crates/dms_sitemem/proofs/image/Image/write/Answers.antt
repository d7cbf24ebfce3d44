use Rattle.std.proofs.Common.{◌∙◌, if◌then◌else◌, ◌==◌, refl}
use Rattle.std.proofs.lemmas.Result.{on_ok_weaker}
use Rattle.dms_site.specs.Files.{overlay_bytes}
use Rattle.dms_sitemem.specs.Slots.{files_of}
use Rattle.dms_sitemem.proofs.Kept.{kept_file}
use Rattle.dms_sitemem.proofs.image.Image.write.Goals as goal

pub returns-clause-written : goal.returns-clause-written
returns-clause-written c =
    let f = c.args.file in
    let same = c.in_ok-ensure_entry.ensures.same in
    on_ok_weaker c.lay_in.result (λ laid.
    kept_file (files_of c.args.self.now.files) _ f _ _ (λ g. laid g ∙ (λ j. if g == f then overlay_bytes c.args.at c.args.bytes.now (same f j) else same g j)) refl) c.lay_in.ensures.laid
