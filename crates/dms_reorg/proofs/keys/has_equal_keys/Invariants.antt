use Rattle.std.proofs.Common.{◌≡◌, ℕ, Ok, Vec, Global}
use Rattle.std.specs.Prelude.{IsTrue}
use Rattle.dms_block.specs.View.{ReadsOverlay, under}
use Rattle.dms_desc.specs.Shape.{shape_of}
use Rattle.dms_slots.specs.Seen.{blocks_of}
use Rattle.dms_slots.specs.SlotBlocks.{slot_at}
use Rattle.dms_reorg.specs.EqualKeys.{key_at}
use Rattle.dms_reorg.proofs.Collected.{KeysUpTo}
use Rattle.dms_reorg.proofs.keys.has_equal_keys.Given as goal

abbrev pub invariant-loop-index : goal.invariant-loop-index
invariant-loop-index g l = record {
  reads : ReadsOverlay {T = ℕ} l.index (Ok 0) l.fn.over l.over;
  faults : (under l.over).faults ≡ (under l.fn.over).faults;
  kept : IsTrue (under l.fn.over).told → KeysUpTo {V = Vec ℕ Global} (λ k. k.items) (key_at l.kinds (shape_of l.s) l.first (slot_at (shape_of l.t) (blocks_of (shape_of l.t) l.fn.over))) l.index l.keys;
}
