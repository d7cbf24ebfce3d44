use Rattle.std.proofs.Common.{rules}
use Rattle.std.specs.Ordering.{is_lt}
use Rattle.std.proofs.lemmas.List.Sorted.{IsPartitionPoint-from_clause}
use Rattle.dms_plain.specs.declared.member.Member.{Member}
use Rattle.dms_plain.specs.Listed.{front_cmp, member_of}
use Rattle.dms_plain.proofs.Listing.{front_found, fronts_parted}
use Rattle.dms_plain.proofs.members.front_of.Goals as goal

pub returns : goal.returns
returns c =
    let ps = c.args.parts.now in
    let ms = c.args.kept.now in
    let x = member_of ps c.args.owner c.args.values.now 0 in
    front_found ps ms c.requires x c.partition_point.result c.partition_point.ensures.bound
    (IsPartitionPoint-from_clause (λ (m : Member). is_lt (front_cmp ps m x)) ms c.partition_point.result c.partition_point.ensures.partitioned (fronts_parted ps ms c.requires x) (λ a r q k. search rules))
