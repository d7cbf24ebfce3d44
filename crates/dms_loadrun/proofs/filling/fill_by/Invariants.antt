use Rattle.std.proofs.Common.{Some}
use Rattle.dms_loadrun.specs.Filling.{load_state}
use Rattle.dms_loadrun.proofs.filling.fill_by.Given as goal

abbrev pub ghost-run_command : goal.ghost-run_command
ghost-run_command g a = Some load_state
