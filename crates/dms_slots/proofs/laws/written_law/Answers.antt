use Rattle.dms_slots.specs.Written.{block_written}
use Rattle.dms_slots.proofs.laws.written_law.Goals as goal

pub returns : goal.returns
returns c = block_written
