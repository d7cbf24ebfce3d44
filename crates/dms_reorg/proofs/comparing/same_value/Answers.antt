use Rattle.std.proofs.Common.{sym, ap, ◌∙◌}
use Rattle.std.specs.Ordering.{is_eq}
use Rattle.dms_reorg.proofs.Same.{tied_values-Decides}
use Rattle.dms_reorg.proofs.comparing.same_value.Goals as goal

pub returns : goal.returns
returns c =
    let decides = tied_values-Decides c.args.a.now c.args.b.now in
    let is = c.is_eq.ensures ∙ ap is_eq c.order.ensures in
    (λ h. decides.0 (sym is ∙ h), λ e. is ∙ decides.1 e)
