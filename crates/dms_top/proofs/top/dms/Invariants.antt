use Rattle.dms_top.proofs.top.dms.Given as goal

abbrev pub ghost-run_command : goal.ghost-run_command
ghost-run_command g a = g.state
