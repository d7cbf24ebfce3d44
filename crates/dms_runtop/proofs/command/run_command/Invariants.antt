use Rattle.dms_runtop.proofs.command.run_command.Given as goal

abbrev pub ghost-run_guarded : goal.ghost-run_guarded
ghost-run_guarded g a = g.state
