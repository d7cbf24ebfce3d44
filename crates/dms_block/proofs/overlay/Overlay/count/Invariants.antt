use Rattle.std.proofs.Common.{◌≡◌, take}
use Rattle.dms_block.specs.Content.{counts_after}
use Rattle.dms_block.proofs.overlay.Overlay.count.Given as goal

abbrev pub invariant-loop-change : goal.invariant-loop-change
invariant-loop-change g l = l.n ≡ counts_after (take l.change-index l.self.changes.items.items) (g.B.Blocks.held l.self.below).counts l.file
