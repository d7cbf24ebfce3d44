use Rattle.std.proofs.Common.{refl}
use Rattle.dms_wal.proofs.imaged.ImagedBlocks.reserve.Goals as goal

pub returns-clause-same : goal.returns-clause-same
returns-clause-same c = (λ f b. c.reserve.ensures.keys.2 (record { file = f; block = b }), (refl, refl))
