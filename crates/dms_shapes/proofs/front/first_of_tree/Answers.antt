use Rattle.std.proofs.Common.{◌<◌, ◌∙◌, ap, length, arith, option_map}
use Rattle.dms_shapes.proofs.Fronts.{no_tree, none_kept}
use Rattle.dms_shapes.proofs.Wholes.{no_head_no_tree}
use Rattle.dms_tree.specs.TreeIn.{tree_in}
use Rattle.dms_shapes.proofs.front.first_of_tree.Goals as goal

pub returns-then-count-eq0-clause-first : goal.returns-then-count-eq0-clause-first
returns-then-count-eq0-clause-first g c told xs is =
    no_tree c.args.width (g.V.View.content c.args.view.now c.args.file) xs (omega (arith, c.count-count.ensures.count told, c.if-count-eq0.true)) is

pub returns-in-None-clause-first : goal.returns-in-None-clause-first
returns-in-None-clause-first g c told xs is =
    let w = c.args.width in
    let bs = g.V.View.content c.args.view.now c.args.file in
    let some : 0 < length bs = omega (arith, c.count-count.ensures.count told, c.if-count-eq0.false) in
    absurd (none_kept (tree_in w bs) xs
    (no_head_no_tree w bs (λ e. absurd (omega (arith, some, e))) (c.in_ok-head.ensures.head told some ∙ ap (option_map (λ h. (h.root, h.free))) c.in-None.is)) is)
