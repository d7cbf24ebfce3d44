use Rattle.dms_block.specs.Faults.{Undamaged}
use Rattle.dms_desc.specs.Shape.{as_described}
use Rattle.dms_store.specs.LiftedLaws.{silent_lifted}
use Rattle.dms_store.specs.Undamaged.{undamaged_below}
use Rattle.std.proofs.Common.{subst, sym}
use Rattle.dms_store.specs.TakenLaws.{sync_known, sync_mark}
use Rattle.dms_store.proofs.store.BlockStore.sync.Goals as goal

pub returns-clause-silent : goal.returns-clause-silent
returns-clause-silent g c =
    silent_lifted (as_described c.args.self.now.desc) _ _ c.args.self.now.found c.note.new.found (g.B.Blocks.pace c.args.self.now.over.below) (g.B.Blocks.pace c.sync-made.new.self) (g.B.Blocks.held c.args.self.now.over.below) (g.B.Blocks.held c.sync-made.new.self) c.sync-made.ensures.passes

pub returns-clause-undamaged : goal.returns-clause-undamaged
returns-clause-undamaged g c d told =
    let a = g.B.Blocks.held c.args.self.now.over.below in
    subst (λ r. Undamaged r) (sym c.note.ensures.same)
    (undamaged_below (as_described c.args.self.now.desc) a c.requires.serves (g.met.B.Blocks.agrees c.args.self.now.over.below c.requires.sound) d told c.sync-made.result (g.B.Blocks.held c.sync-made.new.self) c.sync-made.ensures.causes)

pub invariant_of-self-2 : goal.invariant_of-self-2
invariant_of-self-2 g c = record {
  taken = sync_known (as_described c.args.self.now.desc) c.args.self.now.known.counts c.keep.new.self.counts (g.B.Blocks.held c.args.self.now.over.below) (g.B.Blocks.held c.sync-made.new.self) c.sync-made.ensures.passes.lasts
      c.sync-made.result c.keep.ensures.counts c.sync-made.ensures.made c.args.self.now.taken;
  marked = sync_mark (as_described c.args.self.now.desc) c.args.self.now.known.marked c.keep.new.self.marked (g.B.Blocks.held c.args.self.now.over.below) (g.B.Blocks.held c.sync-made.new.self) c.sync-made.ensures.passes.lasts
      c.sync-made.result c.keep.ensures.marked c.sync-made.ensures.made c.args.self.now.marked;
}
