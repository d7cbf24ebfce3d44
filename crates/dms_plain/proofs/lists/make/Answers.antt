use Rattle.std.proofs.Common.{[], ◌∷◌, ap, arith, length, length-append}
use Rattle.dms_plain.specs.Rows.{records_in}
use Rattle.dms_plain.proofs.Following.{list_pushed}
use Rattle.dms_plain.proofs.lists.make.Goals as goal

pub loop-i-preserved : goal.loop-i-preserved
loop-i-preserved c = record {
  lists = list_pushed c.args.structures.now c.loop-i.lists.items c.push.new.self.items c.loop-i.i (records_in c.args.rows.now) c.index-structures-i.result c.in-Ok.members c.loop-i.invariant.lists c.loop-i.invariant.count
      (omega (arith, c.loop-i-test.true)) c.index-structures-i.is c.in-Ok.ensures c.in-Ok-push.ensures.items;
  count = omega (arith, ap length c.in-Ok-push.ensures.items, length-append c.loop-i.lists.items (c.in-Ok.members ∷ []), c.loop-i.invariant.count);
}
