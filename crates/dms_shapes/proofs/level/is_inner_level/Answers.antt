use Rattle.std.proofs.Common.{◌∙◌, sym, ap, get_or, slice_get, arith}
use Rattle.std.specs.Prelude.{is_some}
use Rattle.dms_shapes.proofs.LevelSteps.{first_level}
use Rattle.dms_shapes.proofs.Marking.{times_at}
use Rattle.dms_tree.specs.Nodes.{inner_opt}
use Rattle.dms_shapes.proofs.level.is_inner_level.Goals as goal

pub returns-in-Some-clause-is : goal.returns-in-Some-clause-is
returns-in-Some-clause-is g c told below =
    let ns = c.args.numbers.now in
    let low = below (get_or ns 0 0) (times_at ns 0 (omega (arith, c.in-len1-up.len_at_least))) in
    sym (first_level c.args.width (slice_get (g.V.View.content c.args.view.now c.args.file)) ns c.in-len1-up.len_at_least ∙ ap is_some (c.in_ok-_inner-in-len1-up.ensures.inner told low ∙ ap inner_opt c.in-Some.is))

pub returns-in-None-clause-is : goal.returns-in-None-clause-is
returns-in-None-clause-is g c told below =
    let ns = c.args.numbers.now in
    let low = below (get_or ns 0 0) (times_at ns 0 (omega (arith, c.in-len1-up.len_at_least))) in
    sym (first_level c.args.width (slice_get (g.V.View.content c.args.view.now c.args.file)) ns c.in-len1-up.len_at_least ∙ ap is_some (c.in_ok-_inner-in-len1-up.ensures.inner told low ∙ ap inner_opt c.in-None.is))
