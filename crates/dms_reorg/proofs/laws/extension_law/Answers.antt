use Rattle.dms_reorg.proofs.Extended.{extends_gives, stays_counted}
use Rattle.dms_reorg.proofs.laws.extension_law.Goals as goal

pub returns : goal.returns
returns c = record { gives = extends_gives; counted = stays_counted }
