use Rattle.dms_block.specs.Faults.{Undamaged}
use Rattle.dms_desc.specs.Shape.{as_described}
use Rattle.dms_store.specs.LiftedLaws.{silent_lifted}
use Rattle.dms_store.specs.Undamaged.{undamaged_below}
use Rattle.std.proofs.Common.{subst, sym}
use Rattle.dms_store.specs.TakenLaws.{back_known, mark_known}
use Rattle.dms_store.proofs.store.BlockStore.back_out.Goals as goal

pub returns-clause-silent : goal.returns-clause-silent
returns-clause-silent g c =
    silent_lifted (as_described c.args.self.now.desc) _ _ c.args.self.now.found c.note.new.found (g.B.Blocks.pace c.args.self.now.over.below) (g.B.Blocks.pace c.back_out-gone.new.self) (g.B.Blocks.held c.args.self.now.over.below) (g.B.Blocks.held c.back_out-gone.new.self) c.back_out-gone.ensures.passes

pub returns-clause-undamaged : goal.returns-clause-undamaged
returns-clause-undamaged g c d told =
    let a = g.B.Blocks.held c.args.self.now.over.below in
    subst (λ r. Undamaged r) (sym c.note.ensures.same)
    (undamaged_below (as_described c.args.self.now.desc) a c.requires.serves (g.met.B.Blocks.agrees c.args.self.now.over.below c.requires.sound) d told c.back_out-gone.result (g.B.Blocks.held c.back_out-gone.new.self) c.back_out-gone.ensures.causes)

pub invariant_of-self-2 : goal.invariant_of-self-2
invariant_of-self-2 g c = record {
  taken = back_known (as_described c.args.self.now.desc) c.args.self.now.known.marked c.go_back.new.self.counts (g.B.Blocks.held c.args.self.now.over.below) (g.B.Blocks.held c.back_out-gone.new.self) c.back_out-gone.ensures.passes.lasts
      c.back_out-gone.result c.go_back.ensures.counts c.back_out-gone.ensures.content c.args.self.now.marked;
  marked = mark_known (as_described c.args.self.now.desc) c.args.self.now.known.marked c.go_back.new.self.marked (g.B.Blocks.held c.args.self.now.over.below) (g.B.Blocks.held c.back_out-gone.new.self) c.back_out-gone.ensures.passes.lasts
      c.back_out-gone.result c.go_back.ensures.marked c.back_out-gone.ensures.stays c.args.self.now.marked;
}
