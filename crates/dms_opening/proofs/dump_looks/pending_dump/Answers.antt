use Rattle.dms_opening.proofs.Chosen.{dump_none, dump_some}
use Rattle.dms_opening.proofs.dump_looks.pending_dump.Goals as goal

pub returns-in-None : goal.returns-in-None
returns-in-None c files entries t = dump_none files entries c.args.history.now c.in-None.is t

pub returns-in-Some : goal.returns-in-Some
returns-in-Some c files entries t = dump_some files entries c.args.history.now c.in-Some.at c.dump_of.result c.in-Some.is t c.dump_of.ensures
