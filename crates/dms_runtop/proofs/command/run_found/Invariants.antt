use Rattle.std.specs.Prelude.{is_some}
use Rattle.dms_runtop.proofs.command.run_found.Given as goal

abbrev pub ghosts-run_confirmed : goal.ghosts-run_confirmed
ghosts-run_confirmed g a = record { known = is_some g.state }
