use Rattle.std.proofs.Common.{◌≡◌, ◌+◌, ◌-◌, false, length}
use Rattle.dms_audfile.specs.Blocks.{entries_from}
use Rattle.dms_audfile.specs.HeldImages.{holds_on}
use Rattle.dms_audfile.proofs.holding.holds_in.Given as goal

abbrev pub invariant-loop-entry : goal.invariant-loop-entry
invariant-loop-entry l = record {
  at : l.at + length l.rest ≡ 2 + length l.bytes;
  so_far : holds_on l.file l.block l.found (entries_from (length l.bytes - l._entry) l.at l.rest) ≡ holds_on l.file l.block false (entries_from (length l.bytes) 2 l.bytes);
}
