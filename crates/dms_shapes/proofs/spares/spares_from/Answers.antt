use Rattle.std.proofs.Common.{◌<◌, ◌∙◌, true, sym, ap, length, slice_get, arith, length-set, option_map}
use Rattle.dms_block.specs.Content.{Content}
use Rattle.dms_chain.specs.Linked.{said_by}
use Rattle.dms_chain.specs.ListBlocks.{free_in}
use Rattle.dms_shapes.specs.WalkLaws.{fresh_low, no_spare, spare_met, spare_twice, spares_too_long}
use Rattle.dms_view.specs.Looked.{looked_ok, looks_on}
use Rattle.dms_shapes.proofs.spares.spares_from.Goals as goal

pub returns-then-not-is_fresh-clause-answer : goal.returns-then-not-is_fresh-clause-answer
returns-then-not-is_fresh-clause-answer g c told long =
    spare_twice (slice_get (g.V.View.content c.args.view.now c.args.file)) c.args.first c.args.seen.now c.loop-met.seen c.loop-met.met c.loop-met.at
    (c.loop-met.invariant.walked told long) c.if-at-eq0.false (sym c.is_fresh.ensures ∙ c.if-not-is_fresh.true)

pub returns-in-None-clause-answer : goal.returns-in-None-clause-answer
returns-in-None-clause-answer g c told long =
    let file = c.args.file in
    let at = c.loop-met.at in
    let still = c.loop-met.invariant.looks.content told in
    let low = fresh_low c.loop-met.seen at (sym c.is_fresh.ensures ∙ c.if-not-is_fresh.false) in
    let here : at < length (g.V.View.content c.loop-met.view file) = omega (arith, low, c.loop-met.invariant.long, long, ap (λ (x : Content). length (x file)) still) in
    let said = ap (λ (x : Content). said_by free_in (slice_get (x file) at)) (sym still) ∙ c.in_ok-next.ensures.spare told here ∙ ap (option_map (λ n. (n, tt))) c.in-None.is in
    no_spare (slice_get (g.V.View.content c.args.view.now file)) c.args.first c.args.seen.now c.loop-met.seen c.loop-met.met at
    (c.loop-met.invariant.walked told long) c.if-at-eq0.false said

pub loop-met-preserved : goal.loop-met-preserved
loop-met-preserved g c = record {
  walked = λ told long.
      let file = c.args.file in
      let at = c.loop-met.at in
      let still = c.loop-met.invariant.looks.content told in
      let fresh = sym c.is_fresh.ensures ∙ c.if-not-is_fresh.false in
      let low = fresh_low c.loop-met.seen at fresh in
      let here : at < length (g.V.View.content c.loop-met.view file) = omega (arith, low, c.loop-met.invariant.long, long, ap (λ (x : Content). length (x file)) still) in
      let said = ap (λ (x : Content). said_by free_in (slice_get (x file) at)) (sym still) ∙ c.in_ok-next.ensures.spare told here ∙ ap (option_map (λ n. (n, tt))) c.in-Some.is in
      spare_met (slice_get (g.V.View.content c.args.view.now file)) c.args.first c.args.seen.now c.loop-met.seen c.loop-met.met at c.in-Some.next
      (c.loop-met.invariant.walked told long) c.if-at-eq0.false fresh said;
  looks = looks_on g.V.View c.args.view.now c.loop-met.view c.spare_at.new.view (g.met.V.View.same_then _ _ _) c.loop-met.invariant.looks (looked_ok g.V.View _ _ _ c.in_ok-next.ensures.looks);
  long = length-set c.loop-met.seen c.loop-met.at true ∙ c.loop-met.invariant.long;
}

pub returns-clause-answer : goal.returns-clause-answer
returns-clause-answer g c told long =
    spares_too_long (slice_get (g.V.View.content c.args.view.now c.args.file)) c.args.first c.args.seen.now c.loop-met.seen c.loop-met.met c.loop-met.at
    (c.loop-met.invariant.walked told long) c.if-at-eq0-2.false (omega (arith, c.loop-met-test.false, c.loop-met.invariant.long))
