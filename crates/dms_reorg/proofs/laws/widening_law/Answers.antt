use Rattle.dms_reorg.proofs.InPlace.{each_in_place}
use Rattle.dms_reorg.proofs.Widened.{each_reads_before, widened_fits, widens_file}
use Rattle.dms_reorg.proofs.laws.widening_law.Goals as goal

pub returns : goal.returns
returns c = record { file = widens_file; fits = widened_fits; before = each_reads_before; in_place = each_in_place }
