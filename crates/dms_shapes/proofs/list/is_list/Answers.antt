use Rattle.std.proofs.Common.{◌<◌, ◌∙◌, sym, ap, length, arith, option_map}
use Rattle.dms_shapes.specs.ListShapes.{empty_list, no_head_no_list}
use Rattle.dms_shapes.proofs.list.is_list.Goals as goal

pub returns-then-count-eq0-clause-is : goal.returns-then-count-eq0-clause-is
returns-then-count-eq0-clause-is g c told = sym (empty_list c.args.width (g.V.View.content c.args.view.now c.args.file) (omega (arith, c.count-count.ensures.count told, c.if-count-eq0.true)))

pub returns-in-None-clause-is : goal.returns-in-None-clause-is
returns-in-None-clause-is g c told =
    let bs = g.V.View.content c.args.view.now c.args.file in
    let some : 0 < length bs = omega (arith, c.count-count.ensures.count told, c.if-count-eq0.false) in
    sym (no_head_no_list c.args.width bs (λ e. absurd (omega (arith, some, e))) (c.in_ok-head.ensures.head told some ∙ ap (option_map (λ h. (h.first, h.free))) c.in-None.is))
