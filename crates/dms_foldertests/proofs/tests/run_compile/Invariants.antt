use Rattle.std.specs.Prelude.{None}
use Rattle.dms_foldertests.proofs.tests.run_compile.Given as goal

abbrev pub ghost-dms : goal.ghost-dms
ghost-dms a = None
