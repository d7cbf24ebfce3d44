use Rattle.dms_runtop.proofs.command.run_guarded.Given as goal

abbrev pub ghost-run_found : goal.ghost-run_found
ghost-run_found g a = g.state
