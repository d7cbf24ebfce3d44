use Rattle.std.proofs.Common.{◌≡◌, ◌<◌, ◌∙◌, false, length, inl, inr, sym, subst, arith}
use Rattle.std.proofs.lemmas.Bool.{cases_eq}
use Rattle.dms_block.specs.Changing.{at_index, at_index_is, none_from_index, no_change_of}
use Rattle.dms_block.proofs.changes.place_of.Goals as goal

pub returns-then-eq-clause-found : goal.returns-then-eq-clause-found
returns-then-eq-clause-found c =
    let low : c.loop-i.i < length c.args.changes.now = omega arith in
    (low, at_index_is c.args.id.file c.args.id.block _ _ no_change_of low ∙ sym c.eq.ensures ∙ c.if-eq.true)

pub loop-i-preserved : goal.loop-i-preserved
loop-i-preserved c = λ k less.
    let low : c.loop-i.i < length c.args.changes.now = omega arith in
    elim (cases_eq k c.loop-i.i) [
      | inl same ↦ subst (λ j. at_index c.args.id.file c.args.id.block j c.args.changes.now ≡ false) (sym same) (at_index_is c.args.id.file c.args.id.block _ _ no_change_of low ∙ sym c.eq.ensures ∙ c.if-eq.false)
      | inr other ↦ c.loop-i.invariant k (omega arith)
    ]

pub returns-clause-none : goal.returns-clause-none
returns-clause-none c = none_from_index _ _ _ (λ k low. c.loop-i.invariant k (omega arith))
