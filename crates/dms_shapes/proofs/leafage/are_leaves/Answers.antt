use Rattle.std.proofs.Common.{◌<◌, ◌∙◌, sym, ap, length, get_or, slice_get, arith}
use Rattle.dms_block.specs.Content.{Content}
use Rattle.dms_chain.specs.Linked.{said_by}
use Rattle.dms_chain.specs.ListBlocks.{leaf_in}
use Rattle.dms_shapes.specs.Leafage.{is_leaf_at}
use Rattle.dms_shapes.proofs.Fringes.{leaves_end, leaves_on, leaves_stop}
use Rattle.dms_shapes.proofs.Marking.{times_at}
use Rattle.dms_view.specs.Looked.{looked_ok, looks_on}
use Rattle.dms_shapes.proofs.leafage.are_leaves.Goals as goal

pub returns-then-not-branch-clause-are : goal.returns-then-not-branch-clause-are
returns-then-not-branch-clause-are g c told below =
    let w = c.args.width in
    let root = c.args.root in
    let file = c.args.file in
    let ns = c.args.level.now.numbers.items in
    let fs = c.args.level.now.fences.items in
    let place = c.loop-place.place in
    let n = get_or ns place 0 in
    let still = c.loop-place.invariant.looks.content told in
    let low : place < length ns = omega (arith, c.loop-place-test.true, c.len-place-end.ensures) in
    let here : n < length (g.V.View.content c.loop-place.view file) = omega (arith, below n (times_at ns place low), ap (λ (x : Content). length (x file)) still) in
    let said = ap (λ (x : Content). is_leaf_at w root ns fs place (said_by (leaf_in w) (slice_get (x file) n))) (sym still) ∙ sym (c.in_ok-is_leaf_at.ensures.is told here) ∙ c.if-not-branch.true in
    leaves_stop w root (slice_get (g.V.View.content c.args.view.now file)) ns fs place _ low said (c.loop-place.invariant.walked told below)

pub loop-place-preserved : goal.loop-place-preserved
loop-place-preserved g c = record {
  walked = λ told below.
      let w = c.args.width in
      let root = c.args.root in
      let file = c.args.file in
      let ns = c.args.level.now.numbers.items in
      let fs = c.args.level.now.fences.items in
      let place = c.loop-place.place in
      let n = get_or ns place 0 in
      let still = c.loop-place.invariant.looks.content told in
      let low : place < length ns = omega (arith, c.loop-place-test.true, c.len-place-end.ensures) in
      let here : n < length (g.V.View.content c.loop-place.view file) = omega (arith, below n (times_at ns place low), ap (λ (x : Content). length (x file)) still) in
      let said = ap (λ (x : Content). is_leaf_at w root ns fs place (said_by (leaf_in w) (slice_get (x file) n))) (sym still) ∙ sym (c.in_ok-is_leaf_at.ensures.is told here) ∙ c.if-not-branch.false in
      leaves_on w root (slice_get (g.V.View.content c.args.view.now file)) ns fs place _ low said (c.loop-place.invariant.walked told below);
  looks = looks_on g.V.View c.args.view.now c.loop-place.view c.is_leaf_at.new.view (g.met.V.View.same_then _ _ _) c.loop-place.invariant.looks (looked_ok g.V.View _ _ _ c.in_ok-is_leaf_at.ensures.looks);
}

pub returns-clause-are : goal.returns-clause-are
returns-clause-are g c told below =
    leaves_end c.args.width c.args.root (slice_get (g.V.View.content c.args.view.now c.args.file)) c.args.level.now.numbers.items c.args.level.now.fences.items c.loop-place.place _
    (omega (arith, c.loop-place-test.false, c.len-place-end.ensures)) (c.loop-place.invariant.walked told below)
