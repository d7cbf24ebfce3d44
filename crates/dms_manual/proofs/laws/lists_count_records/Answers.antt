use Rattle.dms_manual.specs.CountedFor.{counted_for}
use Rattle.dms_manual.proofs.laws.lists_count_records.Goals as goal

pub returns : goal.returns
returns c desc s db n small low told = counted_for desc s db n small low told
