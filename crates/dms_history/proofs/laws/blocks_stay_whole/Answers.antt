use Rattle.dms_history.proofs.Sizing.{sized_replay, sized_base}
use Rattle.dms_history.proofs.laws.blocks_stay_whole.Goals as goal

pub returns : goal.returns
returns c = record { replay = sized_replay; base = sized_base }
