use Rattle.std.proofs.Common.{◌≡◌, ◌+◌, ◌≤◌, ◌++◌, ℕ, drop, Ok}
use Rattle.std.specs.Prelude.{IsTrue}
use Rattle.dms_block.specs.View.{ReadsOverlay, overlay_content, under}
use Rattle.dms_desc.specs.Shape.{shape_of}
use Rattle.dms_links.specs.Linking.{linking_from, walked_slots}
use Rattle.dms_links.proofs.walking.linking_slots.Given as goal

abbrev pub invariant-loop-i : goal.invariant-loop-i
invariant-loop-i g l = record {
  reads : ReadsOverlay {T = ℕ} l.i (Ok 0) l.fn.over l.over;
  bound : l.i ≤ l.count;
  faults : (under l.over).faults ≡ (under l.fn.over).faults;
  on : IsTrue (under l.fn.over).told → l.found.items ++ linking_from l.s.number l.s.items l.to l.number (l.i + 1) (drop l.i (walked_slots (shape_of l.s) (overlay_content l.fn.over)))
      ≡ l.fn.before.items ++ linking_from l.s.number l.s.items l.to l.number 1 (walked_slots (shape_of l.s) (overlay_content l.fn.over));
}
