use Rattle.std.proofs.Common.{◌-◌, leb, ltb, rules, sym}
use Rattle.std.proofs.lemmas.List.Sorted.{IsPartitionPoint-from_clause, IsPartitionedBy-leb, IsPartitionedBy-ltb}
use Rattle.dms_model.specs.Db.{SubsetEntry}
use Rattle.dms_model.specs.Uses.{entry_of}
use Rattle.dms_plain.proofs.Gaps.{own_between, own_count}
use Rattle.dms_plain.proofs.Rising.{subsets_rise}
use Rattle.dms_plain.proofs.manual.count_of.Goals as goal

pub overflow_sub-result : goal.overflow_sub-result
overflow_sub-result c =
    let es = c.args.kept.now in
    let subset = c.args.subset in
    let key = λ (e : SubsetEntry). e.subset in
    let rise = subsets_rise es c.requires in
    let low = IsPartitionPoint-from_clause (λ (e : SubsetEntry). ltb e.subset subset) es c.partition_point-from.result c.partition_point-from.ensures.partitioned (IsPartitionedBy-ltb key es subset rise) (λ a r q k. search rules) in
    let high = IsPartitionPoint-from_clause (λ (e : SubsetEntry). leb e.subset subset) es c.partition_point-end.result c.partition_point-end.ensures.partitioned (IsPartitionedBy-leb key es subset rise) (λ a r q k. search rules) in
    let own = own_between key subset es (entry_of 0 0 0) c.partition_point-from.result c.partition_point-end.result low high c.partition_point-from.ensures.bound c.partition_point-end.ensures.bound in
    own.0

pub returns : goal.returns
returns c =
    let es = c.args.kept.now in
    let subset = c.args.subset in
    let key = λ (e : SubsetEntry). e.subset in
    let rise = subsets_rise es c.requires in
    let low = IsPartitionPoint-from_clause (λ (e : SubsetEntry). ltb e.subset subset) es c.partition_point-from.result c.partition_point-from.ensures.partitioned (IsPartitionedBy-ltb key es subset rise) (λ a r q k. search rules) in
    let high = IsPartitionPoint-from_clause (λ (e : SubsetEntry). leb e.subset subset) es c.partition_point-end.result c.partition_point-end.ensures.partitioned (IsPartitionedBy-leb key es subset rise) (λ a r q k. search rules) in
    let own = own_between key subset es (entry_of 0 0 0) c.partition_point-from.result c.partition_point-end.result low high c.partition_point-from.ensures.bound c.partition_point-end.ensures.bound in
    sym (own_count key subset es c.partition_point-from.result (c.partition_point-end.result - c.partition_point-from.result) own.1)
