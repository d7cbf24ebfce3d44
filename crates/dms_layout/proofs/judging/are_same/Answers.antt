use Rattle.std.proofs.Common.{◌∙◌, ap, sym}
use Rattle.std.specs.Prelude.{◌&&◌, ◌==◌}
use Rattle.std.specs.List.{list_all}
use Rattle.dms_layout.specs.Judging.{eq_same}
use Rattle.dms_layout.proofs.judging.are_same.Goals as goal

pub returns-then-has_length : goal.returns-then-has_length
returns-then-has_length c =
    c.are_all.ensures
    ∙ sym (ap (λ t. t && list_all (λ x. x == c.args.byte) c.args.bytes.now) (sym c.has_length.ensures ∙ c.if-has_length.true))
    ∙ sym (eq_same c.args.bytes.now c.args.count c.args.byte)

pub returns-else-has_length : goal.returns-else-has_length
returns-else-has_length c =
    c.if-has_length.false
    ∙ sym (ap (λ t. t && list_all (λ x. x == c.args.byte) c.args.bytes.now) (sym c.has_length.ensures ∙ c.if-has_length.false))
    ∙ sym (eq_same c.args.bytes.now c.args.count c.args.byte)
