use Rattle.dms_reorg.proofs.Growing.{each_grows}
use Rattle.dms_reorg.proofs.OneReason.{one_reason}
use Rattle.dms_reorg.proofs.checking.refusal_law.Goals as goal

pub returns : goal.returns
returns c = record { one = one_reason; grows = each_grows }
