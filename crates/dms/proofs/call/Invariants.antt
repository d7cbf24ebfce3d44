use Rattle.std.specs.Prelude.{None}
use Rattle.dms.proofs.call.Given as goal

abbrev pub ghost-dms : goal.ghost-dms
ghost-dms a = None
