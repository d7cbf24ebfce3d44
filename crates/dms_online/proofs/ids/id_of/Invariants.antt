use Rattle.std.proofs.Common.{◌≡◌, drop}
use Rattle.dms_dump.specs.Copies.{id_at}
use Rattle.dms_online.proofs.ids.id_of.Given as goal

abbrev pub invariant-loop-count : goal.invariant-loop-count
invariant-loop-count l = record {
  same : id_at (drop l.count-index l.counts) l.left ≡ id_at l.counts l.n;
}
