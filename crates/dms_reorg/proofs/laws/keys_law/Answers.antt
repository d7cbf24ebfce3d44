use Rattle.dms_reorg.proofs.Judging.{refuses_no_record, told_by_keys}
use Rattle.dms_reorg.proofs.laws.keys_law.Goals as goal

pub returns : goal.returns
returns c = record { told = told_by_keys; none = refuses_no_record }
