use Rattle.std.proofs.Common.{take}
use Rattle.dms_memblocks.specs.Undoing.{PutAll, rows}
use Rattle.dms_memblocks.proofs.files.put_all.Given as goal

abbrev pub invariant-loop-change : goal.invariant-loop-change
invariant-loop-change l = PutAll l.made (take l.change-index l.changes) (rows l.fn.files.items) l.fn.log.items (rows l.files.items) l.log.items
