use Rattle.std.proofs.Common.{◌≡◌, ◌+◌, ◌≤◌, drop}
use Rattle.dms_load.specs.Summary.{times}
use Rattle.dms_load.proofs.summary.times.Given as goal

abbrev pub invariant-loop-place : goal.invariant-loop-place
invariant-loop-place l = record {
  sum : l.count + times l.fn.word (drop l.place l.fn.text) ≡ times l.fn.word l.fn.text;
  bound : l.count ≤ l.place;
}
