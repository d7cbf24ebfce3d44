use Rattle.dms_wal.proofs.Started.{usable_new}
use Rattle.dms_wal.proofs.running.Running.new.Goals as goal

pub returns-in-Ok-clause-usable : goal.returns-in-Ok-clause-usable
returns-in-Ok-clause-usable g c bounds starts = usable_new g.S.Site c.args.log c.args.start c.in-Ok.pool c.new-in-Ok.result _ c.in-Ok.ensures c.new-in-Ok.ensures.none c.new-in-Ok.ensures.control.0 c.requires.table bounds starts
