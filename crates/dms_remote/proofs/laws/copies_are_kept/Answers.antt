use Rattle.dms_remote.proofs.Settled.{copy_is_found, copy_stays, copy_settles}
use Rattle.dms_remote.proofs.laws.copies_are_kept.Goals as goal

pub returns : goal.returns
returns c = record { found = copy_is_found; stays = copy_stays; settles = copy_settles }
