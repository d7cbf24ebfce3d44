use Rattle.dms_audfile.proofs.Tailed.{tail_is_found}
use Rattle.dms_audfile.proofs.laws.what_is_read_from_a_block_is_found.Goals as goal

pub returns : goal.returns
returns c = tail_is_found
