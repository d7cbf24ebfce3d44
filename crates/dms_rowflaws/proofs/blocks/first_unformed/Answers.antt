use Rattle.std.proofs.Common.{◌<◌, ◌∙◌, sym, ap, length, slice_get, arith}
use Rattle.dms_block.specs.Content.{Content}
use Rattle.dms_desc.specs.Shape.{shape_of}
use Rattle.dms_rowflaws.proofs.Firsts.{at_number, block_found, block_passed}
use Rattle.dms_view.specs.Looked.{looked_ok, looks_on}
use Rattle.dms_rowflaws.proofs.blocks.first_unformed.Goals as goal

pub returns-then-not-branch-clause-first : goal.returns-then-not-branch-clause-first
returns-then-not-branch-clause-first g c told =
    let file = c.args.file in
    let n = c.loop-number.number in
    let bs = g.V.View.content c.args.view.now file in
    let still = c.loop-number.invariant.looks.content told in
    let low : n < length bs = omega (arith, c.loop-number-test.true, c.count-count.ensures.count told) in
    let there = at_number bs n low in
    let said = c.in_ok-is_formed_at.ensures.is told there.0 (ap (λ (x : Content). slice_get (x file) n) still ∙ there.1) in
    block_found (shape_of c.args.s.now) c.args.width n bs there.0 _ there.1 (c.loop-number.invariant.walked told) (sym said ∙ c.if-not-branch.true)

pub loop-number-preserved : goal.loop-number-preserved
loop-number-preserved g c = record {
  walked = λ told.
      let file = c.args.file in
      let n = c.loop-number.number in
      let bs = g.V.View.content c.args.view.now file in
      let still = c.loop-number.invariant.looks.content told in
      let low : n < length bs = omega (arith, c.loop-number-test.true, c.count-count.ensures.count told) in
      let there = at_number bs n low in
      let said = c.in_ok-is_formed_at.ensures.is told there.0 (ap (λ (x : Content). slice_get (x file) n) still ∙ there.1) in
      block_passed (shape_of c.args.s.now) c.args.width n bs there.0 _ there.1 (c.loop-number.invariant.walked told) (sym said ∙ c.if-not-branch.false);
  looks = looks_on g.V.View c.args.view.now c.loop-number.view c.is_formed_at.new.view (g.met.V.View.same_then _ _ _) c.loop-number.invariant.looks (looked_ok g.V.View _ _ _ c.in_ok-is_formed_at.ensures.looks);
}
