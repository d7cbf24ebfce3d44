use Rattle.dms_remote.proofs.BlockKinds.{entries_are_of}
use Rattle.dms_remote.proofs.laws.entries_are_at_their_places.Goals as goal

pub returns : goal.returns
returns c = entries_are_of
