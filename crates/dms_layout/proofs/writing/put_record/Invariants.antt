use Rattle.std.proofs.Common.{◌≡◌, ◌++◌, drop}
use Rattle.dms_layout.specs.Slots.{record_bytes}
use Rattle.dms_layout.proofs.writing.put_record.Given as goal

abbrev pub invariant-loop-item : goal.invariant-loop-item
invariant-loop-item l = l.out ++ record_bytes (drop l.item-index l.items) l.rest ≡ l.initial.out ++ record_bytes l.items l.values
