use Rattle.std.proofs.Common.{◌≡◌, take}
use Rattle.std.specs.declared.result.Result.TheVariants.{Ok}
use Rattle.dms_block.specs.Held.{Held, Looks}
use Rattle.dms_block.proofs.Sifting.{Sifted}
use Rattle.dms_block.proofs.sift.sift.Given as goal

abbrev pub invariant-loop-change : goal.invariant-loop-change
invariant-loop-change g l =
    let a : Held = g.B.Blocks.held l.fn.below in
    let b : Held = g.B.Blocks.held l.below in
    record {
      looks : Looks {T = Unit {0}} l.change-index (Ok tt) a b;
      faults : b.faults ≡ a.faults;
      same : g.B.Blocks.same_blocks l.fn.below l.below;
      sifted : Sifted a.told a.content a.owns a.counts l.kept.items.items (take l.change-index l.changes.items.items);
    }
