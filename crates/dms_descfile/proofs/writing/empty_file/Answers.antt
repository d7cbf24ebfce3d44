use Rattle.std.proofs.Common.{◌∙◌, ap}
use Rattle.std.proofs.lemmas.Result.{on_ok_weaker}
use Rattle.dms_site.specs.Files.{Files}
use Rattle.dms_site.specs.Laws.{with_file_here}
use Rattle.dms_descfile.proofs.writing.empty_file.Goals as goal

pub returns-clause-emptied : goal.returns-clause-emptied
returns-clause-emptied g c =
    on_ok_weaker c.cut_synced.result (λ cut tells. ap (λ (l : Files). l 1) (cut tells) ∙ with_file_here _ 1 _) c.cut_synced.ensures.cut
