use Rattle.std.proofs.Common.{◌∙◌, [], ◌∷◌, true, sym, subst, take, get_or, slice_set, length-set}
use Rattle.dms_shapes.specs.Marks.{Marked}
use Rattle.dms_shapes.proofs.Marking.{marked_both, marked_one, met_again, take_on}
use Rattle.dms_shapes.proofs.marks.mark_all.Goals as goal

pub returns-then-not-is_fresh-clause-answer : goal.returns-then-not-is_fresh-clause-answer
returns-then-not-is_fresh-clause-answer c =
    met_again c.args.seen.now c.loop-number.seen c.args.numbers.now c.loop-number.number-index c.loop-number-test.true c.loop-number.invariant.marked (sym c.is_fresh.ensures ∙ c.if-not-is_fresh.true)

pub loop-number-preserved : goal.loop-number-preserved
loop-number-preserved c =
    let ns = c.args.numbers.now in
    let i = c.loop-number.number-index in
    let at = get_or ns i 0 in
    record {
      marked = subst (Marked c.args.seen.now (slice_set c.loop-number.seen at true)) (sym (take_on ns i c.loop-number-test.true))
          (marked_both c.args.seen.now c.loop-number.seen (slice_set c.loop-number.seen at true) (take i ns) (at ∷ []) c.loop-number.invariant.marked
          (marked_one c.loop-number.seen at (sym c.is_fresh.ensures ∙ c.if-not-is_fresh.false)));
      long = length-set c.loop-number.seen at true ∙ c.loop-number.invariant.long;
    }
