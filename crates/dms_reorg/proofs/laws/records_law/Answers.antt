use Rattle.dms_reorg.proofs.Records.{holds_set, keeps_numbers, spelled_holds, widens_records}
use Rattle.dms_reorg.proofs.laws.records_law.Goals as goal

pub returns : goal.returns
returns c = record { spelled = spelled_holds; widens = widens_records; numbers = keeps_numbers; set = holds_set }
