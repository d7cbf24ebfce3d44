use Rattle.dms_links.specs.Changed.{written}
use Rattle.dms_links.proofs.laws.written_slot_law.Goals as goal

pub returns : goal.returns
returns c = written
