use Rattle.std.proofs.Common.{◌≡◌, ◌<◌, ◌∙◌, Some, None, sym, ap, arith}
use Rattle.dms_block.specs.Content.{Content}
use Rattle.dms_desc.specs.Lookups.{structure_of}
use Rattle.dms_desc.specs.Shape.{as_described}
use Rattle.dms_rowflaws.proofs.Firsts.{number_found, number_passed, numbers_passed}
use Rattle.dms_rowflaws.specs.Shapes.{unshaped_at, unshaped_by}
use Rattle.dms_view.specs.Looked.{looked_ok, looks_on}
use Rattle.dms_rowflaws.proofs.shapes.first_shape.Goals as goal

pub returns-then-not-branch-clause-first : goal.returns-then-not-branch-clause-first
returns-then-not-branch-clause-first g c told =
    let d = as_described c.args.desc.now in
    let content = g.V.View.content c.args.view.now in
    let n = c.loop-number.number in
    let still = c.loop-number.invariant.looks.content told in
    let low : n < 201 = omega (arith, c.loop-number-test.true) in
    let found : unshaped_at d content n (structure_of d n) ≡ Some n =
    ap (λ (x : Content). unshaped_at d x n (structure_of d n)) (sym still) ∙ sym (c.in_ok-is_shaped_at.ensures.is told) ∙ ap (λ b. unshaped_by b n) c.if-not-branch.true in
    number_found (λ m. unshaped_at d content m (structure_of d m)) n _ low n found (c.loop-number.invariant.walked told)

pub loop-number-preserved : goal.loop-number-preserved
loop-number-preserved g c = record {
  walked = λ told.
      let d = as_described c.args.desc.now in
      let content = g.V.View.content c.args.view.now in
      let n = c.loop-number.number in
      let still = c.loop-number.invariant.looks.content told in
      let low : n < 201 = omega (arith, c.loop-number-test.true) in
      let none : unshaped_at d content n (structure_of d n) ≡ None =
      ap (λ (x : Content). unshaped_at d x n (structure_of d n)) (sym still) ∙ sym (c.in_ok-is_shaped_at.ensures.is told) ∙ ap (λ b. unshaped_by b n) c.if-not-branch.false in
      number_passed (λ m. unshaped_at d content m (structure_of d m)) n _ low none (c.loop-number.invariant.walked told);
  looks = looks_on g.V.View c.args.view.now c.loop-number.view c.is_shaped_at.new.view (g.met.V.View.same_then _ _ _) c.loop-number.invariant.looks (looked_ok g.V.View _ _ _ c.in_ok-is_shaped_at.ensures.looks);
}

pub returns-clause-first : goal.returns-clause-first
returns-clause-first g c told =
    numbers_passed (λ m. unshaped_at (as_described c.args.desc.now) (g.V.View.content c.args.view.now) m (structure_of (as_described c.args.desc.now) m)) c.loop-number.number _ (omega (arith, c.loop-number-test.false)) (c.loop-number.invariant.walked told)
