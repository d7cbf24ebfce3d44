use Rattle.std.proofs.Common.{◌≡◌, ◌<◌, ◌^◌, drop}
use Rattle.dms_top.specs.Words.{number_behind}
use Rattle.dms_top.proofs.tags.number_of.Given as goal

abbrev pub invariant-loop-byte : goal.invariant-loop-byte
invariant-loop-byte l = record {
  small : l.number < 2 ^ 64;
  so_far : number_behind l.number (drop l.byte-index l.digits) ≡ number_behind 0 l.digits;
}
