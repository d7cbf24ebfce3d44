use Rattle.dms_reorg.proofs.Alike.{stays_itself}
use Rattle.dms_reorg.proofs.Spelled.{spells_extended}
use Rattle.dms_reorg.proofs.laws.rewritten_law.Goals as goal

pub returns : goal.returns
returns c = record { spells = spells_extended; itself = stays_itself }
