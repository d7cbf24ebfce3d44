use Rattle.std.proofs.Common.{◌≡◌, ◌∙◌, None, sym, ap, subst, length, slice_get, arith}
use Rattle.dms_block.specs.Content.{Content}
use Rattle.dms_shapes.specs.Leafage.{are_leaves}
use Rattle.dms_shapes.specs.Trees.{BottomAnswer, HasBottom}
use Rattle.dms_shapes.proofs.Wholes.{bottom_below, leaves_tree, no_leaves_tree, no_root}
use Rattle.dms_shapes.proofs.tree.tree_under.Goals as goal

pub returns-then-root-eq0-clause-answer : goal.returns-then-root-eq0-clause-answer
returns-then-root-eq0-clause-answer g c told long head = no_root c.args.width (slice_get (g.V.View.content c.args.view.now c.args.file)) c.args.root c.args.seen.now c.if-root-eq0.true

pub returns-then-branch-clause-answer : goal.returns-then-branch-clause-answer
returns-then-branch-clause-answer g c told long head =
    let w = c.args.width in
    let root = c.args.root in
    let file = c.args.file in
    let look = slice_get (g.V.View.content c.args.view.now file) in
    let old = c.args.seen.now in
    let seen = c.levels_under.new.seen in
    let b = c.in-Some.bottom in
    let ns = b.level.numbers.items in
    let fs = b.level.fences.items in
    let some : root ≡ 0 → ⊥ = λ e. absurd (omega (arith, e, c.if-root-eq0.false)) in
    let has : HasBottom w look root old seen b.met ns fs = subst (BottomAnswer w look root old seen) c.in-Some.is (c.in_ok-bottom.ensures.answer told long) in
    let still = c.in_ok-bottom.ensures.looks.content told in
    let below = bottom_below w look root old some seen b.met ns fs has (length (g.V.View.content c.levels_under.new.view file)) (long ∙ ap (λ (x : Content). length (x file)) (sym still)) in
    let said = ap (λ (x : Content). are_leaves w root (slice_get (x file)) None ns fs) (sym still) ∙ sym (c.in_ok-are_leaves.ensures.are told below) ∙ c.if-branch.true in
    leaves_tree w look root old some seen b.met ns fs has head said

pub returns-clause-answer : goal.returns-clause-answer
returns-clause-answer g c told long head =
    let w = c.args.width in
    let root = c.args.root in
    let file = c.args.file in
    let look = slice_get (g.V.View.content c.args.view.now file) in
    let old = c.args.seen.now in
    let seen = c.levels_under.new.seen in
    let b = c.in-Some.bottom in
    let ns = b.level.numbers.items in
    let fs = b.level.fences.items in
    let some : root ≡ 0 → ⊥ = λ e. absurd (omega (arith, e, c.if-root-eq0.false)) in
    let has : HasBottom w look root old seen b.met ns fs = subst (BottomAnswer w look root old seen) c.in-Some.is (c.in_ok-bottom.ensures.answer told long) in
    let still = c.in_ok-bottom.ensures.looks.content told in
    let below = bottom_below w look root old some seen b.met ns fs has (length (g.V.View.content c.levels_under.new.view file)) (long ∙ ap (λ (x : Content). length (x file)) (sym still)) in
    let said = ap (λ (x : Content). are_leaves w root (slice_get (x file)) None ns fs) (sym still) ∙ sym (c.in_ok-are_leaves.ensures.are told below) ∙ c.if-branch.false in
    no_leaves_tree w look root old some seen b.met ns fs has said
