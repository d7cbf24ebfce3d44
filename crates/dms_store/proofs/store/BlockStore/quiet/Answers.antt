use Rattle.std.proofs.Common.{subst, sym}
use Rattle.dms_block.specs.Faults.{Undamaged}
use Rattle.dms_desc.specs.Shape.{as_described}
use Rattle.dms_store.specs.Lifted.{IsUsable}
use Rattle.dms_store.specs.LiftedLaws.{no_point_lifted, quiet_leaves}
use Rattle.dms_store.specs.Undamaged.{undamaged_below}
use Rattle.dms_store.specs.TakenLaws.{quiet_known, quiet_mark}
use Rattle.dms_store.proofs.store.BlockStore.quiet.Goals as goal

pub returns-clause-leaves : goal.returns-clause-leaves
returns-clause-leaves g c =
    let usable = IsUsable (as_described c.args.self.now.desc) c.args.self.now.over in
    quiet_leaves (as_described c.args.self.now.desc) usable usable c.args.self.now.found c.note.new.found (g.B.Blocks.pace c.args.self.now.over.below) (g.B.Blocks.pace c.quiet-made.new.self) (g.B.Blocks.held c.args.self.now.over.below) (g.B.Blocks.held c.quiet-made.new.self)
    (g.met.B.Blocks.agrees c.args.self.now.over.below c.requires.sound) c.quiet-made.ensures.leaves

pub returns-clause-undamaged : goal.returns-clause-undamaged
returns-clause-undamaged g c d told =
    let a = g.B.Blocks.held c.args.self.now.over.below in
    subst (λ r. Undamaged r) (sym c.note.ensures.same)
    (undamaged_below (as_described c.args.self.now.desc) a c.requires.serves (g.met.B.Blocks.agrees c.args.self.now.over.below c.requires.sound) d told c.quiet-made.result (g.B.Blocks.held c.quiet-made.new.self) c.quiet-made.ensures.causes)

pub returns-clause-no_point : goal.returns-clause-no_point
returns-clause-no_point g c =
    let usable = IsUsable (as_described c.args.self.now.desc) c.args.self.now.over in
    no_point_lifted (as_described c.args.self.now.desc) usable usable c.args.self.now.found c.note.new.found (g.B.Blocks.pace c.args.self.now.over.below) (g.B.Blocks.pace c.quiet-made.new.self) (g.B.Blocks.held c.args.self.now.over.below) (g.B.Blocks.held c.quiet-made.new.self)
    c.quiet-made.result c.note.result c.note.ensures.same c.quiet-made.ensures.no_point

pub invariant_of-self-2 : goal.invariant_of-self-2
invariant_of-self-2 g c = record {
  taken = quiet_known (as_described c.args.self.now.desc) c.args.self.now.known.counts c.mark.new.self.counts (g.B.Blocks.held c.args.self.now.over.below) (g.B.Blocks.held c.quiet-made.new.self) c.quiet-made.ensures.lasts
      c.quiet-made.result c.mark.ensures.counts c.quiet-made.ensures.made c.quiet-made.ensures.numbered c.args.self.now.taken;
  marked = quiet_mark (as_described c.args.self.now.desc) c.args.self.now.known.counts c.mark.new.self.marked (g.B.Blocks.held c.args.self.now.over.below) (g.B.Blocks.held c.quiet-made.new.self) c.quiet-made.ensures.lasts
      c.quiet-made.result c.mark.ensures.marked c.quiet-made.ensures.made c.quiet-made.ensures.numbered c.args.self.now.taken;
}
