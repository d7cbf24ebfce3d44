use Rattle.std.proofs.Common.{rules, ◌≡◌}
use Rattle.std.proofs.lemmas.Fn.{always_returns_same}
use Rattle.dms_plain.specs.declared.member.Member.{Member}
use Rattle.dms_plain.specs.Listed.{member_cmp, member_of}
use Rattle.dms_plain.proofs.Listing.{found}
use Rattle.dms_plain.proofs.members.find.Goals as goal

pub returns : goal.returns
returns c =
    let x = member_of c.args.parts.now c.args.owner c.args.values.now c.args.number in
    let ord = λ (m : Member). member_cmp c.args.parts.now m x in
    found c.args.parts.now x c.args.kept.now c.binary_search_by.result c.requires c.binary_search_by.ensures.bound
    (c.binary_search_by.ensures.position ord (always_returns_same _ (λ a r. r ≡ ord a.0.now) _ (λ a r f' t. search rules)))
