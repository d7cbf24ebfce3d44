use Rattle.std.proofs.Common.{ℕ, List, ◌∙◌, ap, arith}
use Rattle.std.proofs.lemmas.List.{take_rest}
use Rattle.std.specs.List.{starts_with}
use Rattle.std.specs.Prelude.{nat_eq}
use Rattle.dms_load.proofs.Counted.{hit, miss}
use Rattle.dms_load.proofs.summary.times.Goals.{then-starts_with, else-starts_with}
use Rattle.dms_load.proofs.summary.times.Goals as goal

pub loop-place-preserved : goal.loop-place-preserved
loop-place-preserved c =
    elim c.if-starts_with.branch [
      | then-starts_with w ↦ record {
        sum = hit c.args.word.now c.args.text.now c.loop-place.place c.loop-place.count c.if-starts_with.count _ c.starts_with.result c.loop-place-test.true (c.starts_with.ensures.value ∙ ap (λ (l : List ℕ). starts_with nat_eq l c.args.word.now) (take_rest c.args.text.now c.loop-place.place)) w.if-starts_with.true w.count-is c.loop-place.invariant.sum;
        bound = omega (arith, w.count-is, c.loop-place.invariant.bound);
      }
      | else-starts_with w ↦ record {
        sum = miss c.args.word.now c.args.text.now c.loop-place.place c.loop-place.count c.if-starts_with.count _ c.starts_with.result c.loop-place-test.true (c.starts_with.ensures.value ∙ ap (λ (l : List ℕ). starts_with nat_eq l c.args.word.now) (take_rest c.args.text.now c.loop-place.place)) w.if-starts_with.false w.count-is c.loop-place.invariant.sum;
        bound = omega (arith, w.count-is, c.loop-place.invariant.bound);
      }
    ]
