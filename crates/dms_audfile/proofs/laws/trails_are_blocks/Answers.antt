use Rattle.dms_audfile.proofs.Copies.{blocks_are_found, found_are_blocks, blocks_are_there, trail_goes_on, trail_is_same}
use Rattle.dms_audfile.proofs.laws.trails_are_blocks.Goals as goal

pub returns : goal.returns
returns c = record { are_found = blocks_are_found; are_blocks = found_are_blocks; are_there = blocks_are_there; goes_on = trail_goes_on; is_same = trail_is_same }
