use Rattle.dms_restore.specs.Logging.{waits}
use Rattle.dms_restore.proofs.log.Log.waits_image.Goals as goal

pub returns : goal.returns
unfolding waits
returns g c = c.holds_image.ensures
