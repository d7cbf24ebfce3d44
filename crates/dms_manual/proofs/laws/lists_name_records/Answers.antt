use Rattle.dms_manual.specs.Named.{named_manual}
use Rattle.dms_manual.proofs.laws.lists_name_records.Goals as goal

pub returns : goal.returns
returns c desc s db n r at small low = named_manual desc s db n r at small low
