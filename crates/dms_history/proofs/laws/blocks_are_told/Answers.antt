use Rattle.dms_history.proofs.ToldBlocks.{tells_blocks, each_from_file}
use Rattle.dms_history.proofs.laws.blocks_are_told.Goals as goal

pub returns : goal.returns
returns c = record { told = tells_blocks; files = each_from_file }
