use Rattle.std.proofs.Common.{◌≡◌, ◌+◌, ◌-◌, ◌*◌, ℕ, Ok}
use Rattle.std.specs.Prelude.{IsTrue, min}
use Rattle.dms_block.specs.View.{under}
use Rattle.dms_desc.specs.Files.{file_of}
use Rattle.dms_desc.specs.Shape.{shape_of}
use Rattle.dms_slots.specs.Seen.{blocks_of, count_of}
use Rattle.dms_slots.specs.SlotBlocks.{per_block}
use Rattle.dms_reorg.specs.InPlace.{IsMade}
use Rattle.dms_reorg.specs.OneFile.{ChangesFile}
use Rattle.dms_reorg.proofs.widening.widen_blocks.Given as goal

abbrev pub invariant-loop-turn : goal.invariant-loop-turn
invariant-loop-turn g l = record {
  count : count_of (shape_of l.s) l.over ≡ min l.count (count_of (shape_of l.s) l.fn.over + l.turn);
  faults : (under l.over).faults ≡ (under l.fn.over).faults;
  changes : ChangesFile {T = ℕ} (file_of l.s.number) (l.turn * (per_block l.t.items + 1)) l.turn (Ok 0) l.fn.over l.over;
  made :
      IsTrue (under l.fn.over).told
      → IsMade (shape_of l.s) (shape_of l.t) l.first (blocks_of (shape_of l.s) l.fn.over) (min (count_of (shape_of l.s) l.fn.over) (l.count - l.turn)) (min l.count (count_of (shape_of l.s) l.fn.over + l.turn)) (blocks_of (shape_of l.s) l.over);
}
