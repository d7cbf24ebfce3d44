use Rattle.std.proofs.Common.{◌≡◌, length}
use Rattle.dms_memblocks.specs.Undoing.{AreEmpty, rows}
use Rattle.dms_memblocks.proofs.memory.empty_files.Given as goal

abbrev pub invariant-loop : goal.invariant-loop
invariant-loop l = record {
  many : length l.all.items ≡ l.counter;
  empty : AreEmpty (rows l.all.items);
}
