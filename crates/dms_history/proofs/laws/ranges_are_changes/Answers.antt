use Rattle.dms_history.proofs.Turns.{no_ranges, live_of_ranges, left_out, range_changes}
use Rattle.dms_history.proofs.Again.{ranges_steady}
use Rattle.dms_history.proofs.Splits.{ranges_split, images_go_on}
use Rattle.dms_history.proofs.Patches.{range_fits}
use Rattle.dms_history.proofs.laws.ranges_are_changes.Goals as goal

pub returns : goal.returns
returns c = record { plain = no_ranges; live = live_of_ranges; left_out = left_out; changes = range_changes; steady = ranges_steady; splits = ranges_split; goes_on = images_go_on; fits = range_fits }
