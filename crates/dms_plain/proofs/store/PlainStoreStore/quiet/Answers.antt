use Rattle.dms_desc.specs.Shape.{as_described}
use Rattle.dms_plain.proofs.Fits.{forgotten}
use Rattle.dms_plain.proofs.store.PlainStoreStore.quiet.Goals as goal

pub invariant_of-self : goal.invariant_of-self
invariant_of-self g c = record {
  in_order = c.args.self.now.in_order;
  fit = forgotten (as_described c.args.self.now.desc) c.args.self.now.rows.items c.args.self.now.undo.items c.clear.new.self.items c.clear.ensures.items c.args.self.now.fit;
  listed = c.args.self.now.listed;
}
