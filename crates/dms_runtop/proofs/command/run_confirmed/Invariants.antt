use Rattle.dms_runtop.proofs.command.run_confirmed.Given as goal

abbrev pub ghosts-run_known : goal.ghosts-run_known
ghosts-run_known g a = record { known = g.K.Knows.known }
