use Rattle.std.proofs.Common.{◌≡◌, ◌≤◌, length, take}
use Rattle.dms_reorg.proofs.comparing.begins_with.Given as goal

abbrev pub invariant-loop-place : goal.invariant-loop-place
invariant-loop-place l = record {
  long : length l.first ≤ length l.items;
  same : take l.place l.items ≡ take l.place l.first;
}
