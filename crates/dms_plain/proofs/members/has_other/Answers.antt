use Rattle.std.proofs.Common.{◌≡◌, true, false, sym, ◌∙◌, arith, length, slice_get, ◌+◌}
use Rattle.std.specs.Prelude.{nat_lt, ◌&&◌, ◌||◌}
use Rattle.std.proofs.lemmas.Bool.Decides.{nat_tests}
use Rattle.dms_plain.specs.Listed.{is_other_in, member_of}
use Rattle.dms_plain.proofs.Listing.{other_is}
use Rattle.dms_plain.proofs.Ordered.{true_or}
use Rattle.dms_plain.proofs.members.has_other.Goals as goal

pub returns-then-is_other_at : goal.returns-then-is_other_at
returns-then-is_other_at c =
    let ps = c.args.parts.now in
    let ms = c.args.kept.now in
    let x = member_of ps c.args.owner c.args.values.now 0 in
    let i = c.front_of-i.result in
    c.if-is_other_at.true
    ∙ sym (other_is ps ms c.requires c.args.number x i c.front_of-i.ensures
    ∙ true_or (is_other_in ps c.args.number x (slice_get ms i)) (sym c.is_other_at.ensures ∙ c.if-is_other_at.true) (nat_lt i (length ms) && is_other_in ps c.args.number x (slice_get ms (i + 1))))

pub returns-then-i-kept : goal.returns-then-i-kept
returns-then-i-kept c =
    let ps = c.args.parts.now in
    let ms = c.args.kept.now in
    let x = member_of ps c.args.owner c.args.values.now 0 in
    let i = c.front_of-i.result in
    let off : is_other_in ps c.args.number x (slice_get ms i) ≡ false = sym c.is_other_at.ensures ∙ c.if-is_other_at.false in
    let room : nat_lt i (length ms) ≡ true = grind (arith, nat_tests, c.if-i-kept.true) in
    c.is_other_at-then-i-kept.ensures
    ∙ sym (other_is ps ms c.requires c.args.number x i c.front_of-i.ensures ∙ (λ j. off j || (room j && is_other_in ps c.args.number x (slice_get ms (i + 1)))))

pub returns-else-i-kept : goal.returns-else-i-kept
returns-else-i-kept c =
    let ps = c.args.parts.now in
    let ms = c.args.kept.now in
    let x = member_of ps c.args.owner c.args.values.now 0 in
    let i = c.front_of-i.result in
    let off : is_other_in ps c.args.number x (slice_get ms i) ≡ false = sym c.is_other_at.ensures ∙ c.if-is_other_at.false in
    let none : nat_lt i (length ms) ≡ false = grind (arith, nat_tests, c.if-i-kept.false) in
    none ∙ sym (other_is ps ms c.requires c.args.number x i c.front_of-i.ensures ∙ (λ j. off j || (none j && is_other_in ps c.args.number x (slice_get ms (i + 1)))))
