use Rattle.std.proofs.Common.{◌<◌, ◌+◌, ◌∙◌, ℕ, List, true, sym, ap, subst, length, slice_get, slice_set, arith, length-set}
use Rattle.dms_block.specs.Content.{Content}
use Rattle.dms_chain.specs.Linked.{said_by}
use Rattle.dms_chain.specs.ListBlocks.{leaf_in}
use Rattle.dms_chain.specs.Spelled.{leaf_opt}
use Rattle.dms_shapes.specs.WalkLaws.{fresh_low, leaf_met_by, met_twice, no_leaf, no_order, too_long}
use Rattle.dms_shapes.specs.Walks.{WalkedLeaves, goes_on}
use Rattle.dms_chain.specs.Leads.{last_of}
use Rattle.std.specs.declared.option.Option.{Option}
use Rattle.dms_view.specs.Looked.{looked_ok, looks_on}
use Rattle.dms_shapes.proofs.leaves.leaves_from.Goals as goal

pub returns-then-not-is_fresh-clause-answer : goal.returns-then-not-is_fresh-clause-answer
returns-then-not-is_fresh-clause-answer g c told long =
    met_twice c.args.width (slice_get (g.V.View.content c.args.view.now c.args.file)) c.args.first c.args.seen.now c.loop-met.seen c.loop-met.met c.loop-met.at c.loop-met.last
    (c.loop-met.invariant.walked told long) c.if-at-eq0.false (sym c.is_fresh.ensures ∙ c.if-not-is_fresh.true)

pub returns-in-None-clause-answer : goal.returns-in-None-clause-answer
returns-in-None-clause-answer g c told long =
    let w = c.args.width in
    let file = c.args.file in
    let at = c.loop-met.at in
    let still = c.loop-met.invariant.looks.content told in
    let low = fresh_low c.loop-met.seen at (sym c.is_fresh.ensures ∙ c.if-not-is_fresh.false) in
    let here : at < length (g.V.View.content c.loop-met.view file) = omega (arith, low, c.loop-met.invariant.long, long, ap (λ (x : Content). length (x file)) still) in
    let said = ap (λ (x : Content). said_by (leaf_in w) (slice_get (x file) at)) (sym still) ∙ c.in_ok-leaf.ensures.leaf told here ∙ ap leaf_opt c.in-None.is in
    no_leaf w (slice_get (g.V.View.content c.args.view.now file)) c.args.first c.args.seen.now c.loop-met.seen c.loop-met.met at c.loop-met.last
    (c.loop-met.invariant.walked told long) c.if-at-eq0.false said

pub returns-then-not-goes_on-clause-answer : goal.returns-then-not-goes_on-clause-answer
returns-then-not-goes_on-clause-answer g c told long =
    let w = c.args.width in
    let file = c.args.file in
    let at = c.loop-met.at in
    let still = c.loop-met.invariant.looks.content told in
    let low = fresh_low c.loop-met.seen at (sym c.is_fresh.ensures ∙ c.if-not-is_fresh.false) in
    let here : at < length (g.V.View.content c.loop-met.view file) = omega (arith, low, c.loop-met.invariant.long, long, ap (λ (x : Content). length (x file)) still) in
    let said = ap (λ (x : Content). said_by (leaf_in w) (slice_get (x file) at)) (sym still) ∙ c.in_ok-leaf.ensures.leaf told here ∙ ap leaf_opt c.in-Some.is in
    no_order w (slice_get (g.V.View.content c.args.view.now file)) c.args.first c.args.seen.now c.loop-met.seen c.loop-met.met at c.loop-met.last
    (c.loop-met.invariant.walked told long) c.if-at-eq0.false c.in-Some.leaf.next c.in-Some.leaf.entries.items said
    (ap (goes_on c.loop-met.last) (sym c.deref.ensures.value) ∙ sym c.goes_on.ensures ∙ c.if-not-goes_on.true)

pub loop-met-preserved : goal.loop-met-preserved
loop-met-preserved g c = record {
  walked = λ told long.
      let w = c.args.width in
      let file = c.args.file in
      let at = c.loop-met.at in
      let still = c.loop-met.invariant.looks.content told in
      let fresh = sym c.is_fresh.ensures ∙ c.if-not-is_fresh.false in
      let low = fresh_low c.loop-met.seen at fresh in
      let here : at < length (g.V.View.content c.loop-met.view file) = omega (arith, low, c.loop-met.invariant.long, long, ap (λ (x : Content). length (x file)) still) in
      let said = ap (λ (x : Content). said_by (leaf_in w) (slice_get (x file) at)) (sym still) ∙ c.in_ok-leaf.ensures.leaf told here ∙ ap leaf_opt c.in-Some.is in
      subst (λ (o : Option (List ℕ)). WalkedLeaves w (slice_get (g.V.View.content c.args.view.now file)) c.args.first c.args.seen.now (slice_set c.loop-met.seen at true) (c.loop-met.met + 1) c.in-Some.leaf.next o)
      (sym (c.in_ok-last.ensures ∙ ap last_of c.deref-in-loop-met.ensures.value))
      (leaf_met_by w (slice_get (g.V.View.content c.args.view.now file)) c.args.first c.args.seen.now c.loop-met.seen c.loop-met.met at c.in-Some.leaf.next c.loop-met.last c.in-Some.leaf.entries.items
      (c.loop-met.invariant.walked told long) c.if-at-eq0.false fresh said (ap (goes_on c.loop-met.last) (sym c.deref.ensures.value) ∙ sym c.goes_on.ensures ∙ c.if-not-goes_on.false));
  looks = looks_on g.V.View c.args.view.now c.loop-met.view c.leaf_at.new.view (g.met.V.View.same_then _ _ _) c.loop-met.invariant.looks (looked_ok g.V.View _ _ _ c.in_ok-leaf.ensures.looks);
  long = length-set c.loop-met.seen c.loop-met.at true ∙ c.loop-met.invariant.long;
}

pub returns-clause-answer : goal.returns-clause-answer
returns-clause-answer g c told long =
    too_long c.args.width (slice_get (g.V.View.content c.args.view.now c.args.file)) c.args.first c.args.seen.now c.loop-met.seen c.loop-met.met c.loop-met.at c.loop-met.last
    (c.loop-met.invariant.walked told long) c.if-at-eq0-2.false (omega (arith, c.loop-met-test.false, c.loop-met.invariant.long))
