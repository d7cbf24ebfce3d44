use Rattle.std.proofs.Common.{refl}
use Rattle.dms_sitemem.proofs.Kept.{kept_file}
use Rattle.dms_sitemem.proofs.image.Image.cut.Goals as goal

pub returns-clause-cut : goal.returns-clause-cut
returns-clause-cut c = kept_file _ _ _ _ _ c.cut_in.ensures.cut refl
