use Rattle.std.proofs.Common.{◌≡◌, ◌<◌, ℕ, false}
use Rattle.dms_block.specs.Changing.{at_index}
use Rattle.dms_block.proofs.changes.place_of.Given as goal

abbrev pub invariant-loop-i : goal.invariant-loop-i
invariant-loop-i l = (k : ℕ) → k < l.i → at_index l.id.file l.id.block k l.changes ≡ false
