use Rattle.std.proofs.Common.{List, sym, subst, ap, ◌∙◌}
use Rattle.std.specs.List.Sorted.{IsStrictlySortedBy}
use Rattle.std.specs.declared.result.Result.TheVariants.{Ok, Err}
use Rattle.dms_plain.specs.declared.member.Member.{Member}
use Rattle.dms_plain.specs.Listed.{IsMemberAt, has, member_cmp, member_of}
use Rattle.dms_plain.proofs.Listing.{member_total, missing}
use Rattle.dms_plain.proofs.Ordered.{gone, rising_remove}
use Rattle.dms_plain.proofs.members.remove.Goals as goal

pub returns-in-Ok-clause-rising : goal.returns-in-Ok-clause-rising
returns-in-Ok-clause-rising c =
    let ps = c.args.parts.now in
    subst (IsStrictlySortedBy (member_cmp ps)) (sym c.remove-member.ensures.items) (rising_remove (member_total ps) c.in-Ok.i c.args.kept.now.items c.requires)

pub returns-in-Ok-clause-has : goal.returns-in-Ok-clause-has
returns-in-Ok-clause-has c = λ x.
    let ps = c.args.parts.now in
    let k = member_of ps c.args.owner c.args.values.now c.args.number in
    let ms = c.args.kept.now.items in
    let at : IsMemberAt ps k ms (Ok c.in-Ok.i) = subst (λ (xs : List Member). IsMemberAt ps k xs (Ok c.in-Ok.i)) c.as_slice.ensures.value c.in-Ok.ensures in
    ap (has ps x) c.remove-member.ensures.items ∙ gone (member_total ps) k x c.in-Ok.i ms c.requires at.0 at.1

pub returns-in-Err-clause-has : goal.returns-in-Err-clause-has
returns-in-Err-clause-has c = λ x.
    let ps = c.args.parts.now in
    let k = member_of ps c.args.owner c.args.values.now c.args.number in
    let ms = c.args.kept.now.items in
    let at : IsMemberAt ps k ms (Err c.in-Err.field-0) = subst (λ (xs : List Member). IsMemberAt ps k xs (Err c.in-Err.field-0)) c.as_slice.ensures.value c.in-Err.ensures in
    missing ps k x c.in-Err.field-0 ms at
