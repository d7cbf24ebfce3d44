use Rattle.std.proofs.Common.{◌≡◌, ◌≤◌, length, take, drop, min}
use Rattle.dms_memblocks.specs.Undoing.{rows, undo_all}
use Rattle.dms_memblocks.proofs.files.take_back_to.Given as goal

abbrev pub invariant-loop-log : goal.invariant-loop-log
invariant-loop-log l = record {
  log : l.log.items ≡ take (length l.log.items) l.fn.log.items;
  files : rows l.files.items ≡ undo_all (drop (length l.log.items) l.fn.log.items) (rows l.fn.files.items);
  enough : min l.n (length l.fn.log.items) ≤ length l.log.items;
}

abbrev pub decreases-loop-log : goal.decreases-loop-log
decreases-loop-log l = length l.log.items
