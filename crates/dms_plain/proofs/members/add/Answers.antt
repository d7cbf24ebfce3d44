use Rattle.std.proofs.Common.{List, sym, subst, ap, ◌∙◌}
use Rattle.std.specs.Prelude.{insert}
use Rattle.std.specs.List.Sorted.{IsStrictlySortedBy}
use Rattle.std.specs.Ordering.{is_eq}
use Rattle.std.specs.declared.result.Result.TheVariants.{Ok, Err}
use Rattle.dms_plain.specs.declared.member.Member.{Member}
use Rattle.dms_plain.specs.Listed.{IsMemberAt, has, member_cmp, member_of}
use Rattle.dms_plain.proofs.Listing.{member_total}
use Rattle.dms_plain.proofs.Ordered.{any_insert, rising_insert, stood}
use Rattle.dms_plain.proofs.members.add.Goals as goal

pub returns-in-Ok-clause-has : goal.returns-in-Ok-clause-has
returns-in-Ok-clause-has c = λ x.
    let ps = c.args.parts.now in
    let k = member_of ps c.args.owner c.args.values.now c.args.number in
    let ms = c.args.kept.now.items in
    let at : IsMemberAt ps k ms (Ok c.in-Ok.field-0) = subst (λ (xs : List Member). IsMemberAt ps k xs (Ok c.in-Ok.field-0)) c.as_slice.ensures.value c.in-Ok.ensures in
    stood (member_total ps) k x c.in-Ok.field-0 ms at.0 at.1

pub returns-in_ok-insert-in-Err-clause-rising : goal.returns-in_ok-insert-in-Err-clause-rising
returns-in_ok-insert-in-Err-clause-rising c =
    let ps = c.args.parts.now in
    let k = member_of ps c.args.owner c.args.values.now c.args.number in
    let ms = c.args.kept.now.items in
    let i = c.in-Err.i in
    let at : IsMemberAt ps k ms (Err i) = subst (λ (xs : List Member). IsMemberAt ps k xs (Err i)) c.as_slice.ensures.value c.in-Err.ensures in
    subst (IsStrictlySortedBy (member_cmp ps)) (sym (c.in_ok-insert-in-Err.ensures.items ∙ ap (insert ms i) c.in_ok-made-in-Err.ensures)) (rising_insert (member_total ps) k i ms at.0 at.1 at.2 c.requires)

pub returns-in_ok-insert-in-Err-clause-has : goal.returns-in_ok-insert-in-Err-clause-has
returns-in_ok-insert-in-Err-clause-has c = λ x.
    let ps = c.args.parts.now in
    let k = member_of ps c.args.owner c.args.values.now c.args.number in
    let ms = c.args.kept.now.items in
    let i = c.in-Err.i in
    let at : IsMemberAt ps k ms (Err i) = subst (λ (xs : List Member). IsMemberAt ps k xs (Err i)) c.as_slice.ensures.value c.in-Err.ensures in
    ap (has ps x) (c.in_ok-insert-in-Err.ensures.items ∙ ap (insert ms i) c.in_ok-made-in-Err.ensures) ∙ any_insert (λ m. is_eq (member_cmp ps m x)) k i ms at.0
