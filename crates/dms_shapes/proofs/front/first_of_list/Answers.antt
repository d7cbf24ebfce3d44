use Rattle.std.proofs.Common.{◌<◌, ◌∙◌, ap, length, arith, option_map}
use Rattle.dms_chain.specs.ListIn.{list_in}
use Rattle.dms_shapes.proofs.Fronts.{list_ahead, no_list, none_kept}
use Rattle.dms_shapes.specs.ListShapes.{no_head_no_list}
use Rattle.dms_shapes.proofs.front.first_of_list.Goals as goal

pub returns-then-count-eq0-clause-first : goal.returns-then-count-eq0-clause-first
returns-then-count-eq0-clause-first g c told width xs is =
    no_list width (g.V.View.content c.args.view.now c.args.file) xs (omega (arith, c.count-count.ensures.count told, c.if-count-eq0.true)) is

pub returns-in-Some-clause-first : goal.returns-in-Some-clause-first
returns-in-Some-clause-first g c told width xs is =
    let bs = g.V.View.content c.args.view.now c.args.file in
    let some : 0 < length bs = omega (arith, c.count-count.ensures.count told, c.if-count-eq0.false) in
    list_ahead width bs xs c.in-Some.head.first c.in-Some.head.free (λ e. absurd (omega (arith, some, e)))
    (c.in_ok-head.ensures.head told some ∙ ap (option_map (λ h. (h.first, h.free))) c.in-Some.is) is

pub returns-in-None-clause-first : goal.returns-in-None-clause-first
returns-in-None-clause-first g c told width xs is =
    let bs = g.V.View.content c.args.view.now c.args.file in
    let some : 0 < length bs = omega (arith, c.count-count.ensures.count told, c.if-count-eq0.false) in
    absurd (none_kept (list_in width bs) xs
    (no_head_no_list width bs (λ e. absurd (omega (arith, some, e))) (c.in_ok-head.ensures.head told some ∙ ap (option_map (λ h. (h.first, h.free))) c.in-None.is)) is)
