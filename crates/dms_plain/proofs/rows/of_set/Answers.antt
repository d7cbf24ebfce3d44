use Rattle.std.proofs.Common.{◌-◌, [], leb, ltb, rules, arith}
use Rattle.std.proofs.lemmas.List.Sorted.{IsPartitionPoint-from_clause, IsPartitionedBy-leb, IsPartitionedBy-ltb}
use Rattle.dms_plain.specs.declared.rows.RecordRow.{RecordRow}
use Rattle.dms_plain.proofs.Gaps.{sets_rise, own_between, own_rise, own_rows}
use Rattle.dms_plain.proofs.rows.of_set.Goals as goal

pub slice_bounds-result-count : goal.slice_bounds-result-count
slice_bounds-result-count c =
    let rows = c.args.rows.now in
    let set = c.args.set in
    let rise = sets_rise rows c.requires in
    let low = IsPartitionPoint-from_clause (λ (r : RecordRow). ltb r.set set) rows c.partition_point-from.result c.partition_point-from.ensures.partitioned (IsPartitionedBy-ltb (λ (r : RecordRow). r.set) rows set rise) (λ a r q k. search rules) in
    let high = IsPartitionPoint-from_clause (λ (r : RecordRow). leb r.set set) rows c.partition_point-end.result c.partition_point-end.ensures.partitioned (IsPartitionedBy-leb (λ (r : RecordRow). r.set) rows set rise) (λ a r q k. search rules) in
    let own = own_between (λ (r : RecordRow). r.set) set rows (record { set = 0; number = 0; rec = record { owner = 0; values = [] } }) c.partition_point-from.result c.partition_point-end.result low high c.partition_point-from.ensures.bound c.partition_point-end.ensures.bound in
    omega (arith, own.0)

pub slice_bounds-result-start : goal.slice_bounds-result-start
slice_bounds-result-start c =
    let rows = c.args.rows.now in
    let set = c.args.set in
    let rise = sets_rise rows c.requires in
    let low = IsPartitionPoint-from_clause (λ (r : RecordRow). ltb r.set set) rows c.partition_point-from.result c.partition_point-from.ensures.partitioned (IsPartitionedBy-ltb (λ (r : RecordRow). r.set) rows set rise) (λ a r q k. search rules) in
    let high = IsPartitionPoint-from_clause (λ (r : RecordRow). leb r.set set) rows c.partition_point-end.result c.partition_point-end.ensures.partitioned (IsPartitionedBy-leb (λ (r : RecordRow). r.set) rows set rise) (λ a r q k. search rules) in
    let own = own_between (λ (r : RecordRow). r.set) set rows (record { set = 0; number = 0; rec = record { owner = 0; values = [] } }) c.partition_point-from.result c.partition_point-end.result low high c.partition_point-from.ensures.bound c.partition_point-end.ensures.bound in
    omega (arith, own.0)

pub returns-clause-rising : goal.returns-clause-rising
returns-clause-rising c =
    let rows = c.args.rows.now in
    let set = c.args.set in
    let rise = sets_rise rows c.requires in
    let low = IsPartitionPoint-from_clause (λ (r : RecordRow). ltb r.set set) rows c.partition_point-from.result c.partition_point-from.ensures.partitioned (IsPartitionedBy-ltb (λ (r : RecordRow). r.set) rows set rise) (λ a r q k. search rules) in
    let high = IsPartitionPoint-from_clause (λ (r : RecordRow). leb r.set set) rows c.partition_point-end.result c.partition_point-end.ensures.partitioned (IsPartitionedBy-leb (λ (r : RecordRow). r.set) rows set rise) (λ a r q k. search rules) in
    let own = own_between (λ (r : RecordRow). r.set) set rows (record { set = 0; number = 0; rec = record { owner = 0; values = [] } }) c.partition_point-from.result c.partition_point-end.result low high c.partition_point-from.ensures.bound c.partition_point-end.ensures.bound in
    own_rise set rows c.partition_point-from.result (c.partition_point-end.result - c.partition_point-from.result) c.requires own.1

pub returns-clause-numbered : goal.returns-clause-numbered
returns-clause-numbered c =
    let rows = c.args.rows.now in
    let set = c.args.set in
    let rise = sets_rise rows c.requires in
    let low = IsPartitionPoint-from_clause (λ (r : RecordRow). ltb r.set set) rows c.partition_point-from.result c.partition_point-from.ensures.partitioned (IsPartitionedBy-ltb (λ (r : RecordRow). r.set) rows set rise) (λ a r q k. search rules) in
    let high = IsPartitionPoint-from_clause (λ (r : RecordRow). leb r.set set) rows c.partition_point-end.result c.partition_point-end.ensures.partitioned (IsPartitionedBy-leb (λ (r : RecordRow). r.set) rows set rise) (λ a r q k. search rules) in
    let own = own_between (λ (r : RecordRow). r.set) set rows (record { set = 0; number = 0; rec = record { owner = 0; values = [] } }) c.partition_point-from.result c.partition_point-end.result low high c.partition_point-from.ensures.bound c.partition_point-end.ensures.bound in
    own_rows set rows c.partition_point-from.result (c.partition_point-end.result - c.partition_point-from.result) own.1
