use Rattle.std.proofs.Common.{◌≡◌, rules}
use Rattle.std.proofs.lemmas.Result.{on_ok_weaker}
use Rattle.dms_sitemem.proofs.Kept.{kept_file}
use Rattle.dms_sitemem.proofs.image.Image.set.Goals as goal

pub returns-clause-set : goal.returns-clause-set
returns-clause-set c =
    let same : c.in_ok-kept.kept.items ≡ c.args.bytes.now = search rules in
    on_ok_weaker c.set_in.result (λ set. kept_file _ _ _ _ _ set same) c.set_in.ensures.set
