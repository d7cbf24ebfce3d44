use Rattle.std.proofs.Common.{eqb, rules, sym}
use Rattle.std.proofs.lemmas.List.Sorted.{IsPartitionPoint-from_clause}
use Rattle.dms_plain.specs.declared.rows.RecordRow.{RecordRow}
use Rattle.dms_plain.proofs.Gaps.{gap_found, halfway_start, zeros_first}
use Rattle.dms_plain.proofs.rows.gap.Goals as goal

pub loop-low-init : goal.loop-low-init
loop-low-init c =
    let rows = c.args.rows.now in
    let from = c.partition_point-from.result in
    let split = IsPartitionPoint-from_clause (λ (r : RecordRow). eqb r.number 0) rows from c.partition_point-from.ensures.partitioned (zeros_first rows c.requires.rising) (λ a r q k. search rules) in
    halfway_start rows from split c.partition_point-from.ensures.bound

pub returns : goal.returns
returns c = sym (gap_found c.args.rows.now c.partition_point-from.result c.loop-low.low c.loop-low.high c.requires.rising c.loop-low.invariant c.loop-low-test.false)
