use Rattle.std.specs.Prelude.{None}
use Rattle.dms_stoptests.proofs.command.perform_words.Given as goal

abbrev pub ghost-dms : goal.ghost-dms
ghost-dms a = None
