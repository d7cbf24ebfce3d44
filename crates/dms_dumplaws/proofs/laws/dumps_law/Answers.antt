use Rattle.dms_dumplaws.proofs.Throughout.{dump_keeps, rebuild_keeps, reconstruct_keeps, rollback_keeps, run_keeps}
use Rattle.dms_dumplaws.proofs.laws.dumps_law.Goals as goal

pub returns : goal.returns
returns g c = record {
  run = run_keeps g.S.Site c.args.before.now c.args.after.now g.I.Source;
  dump = dump_keeps g.S.Site c.args.before.now c.args.after.now;
  rollback = rollback_keeps g.S.Site c.args.before.now c.args.after.now;
  rebuild = rebuild_keeps g.S.Site c.args.before.now c.args.after.now;
  reconstruct = reconstruct_keeps g.S.Site c.args.before.now c.args.after.now;
}
