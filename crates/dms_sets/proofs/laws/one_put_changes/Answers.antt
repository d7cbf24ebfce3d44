use Rattle.dms_sets.specs.Puts.{put_leaves}
use Rattle.dms_sets.specs.Kept.{fits_after}
use Rattle.dms_sets.proofs.laws.one_put_changes.Goals as goal

pub returns-clause-entries : goal.returns-clause-entries
returns-clause-entries c = put_leaves

pub returns-clause-fits : goal.returns-clause-fits
returns-clause-fits c = fits_after
