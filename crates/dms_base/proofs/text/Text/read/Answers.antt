use Rattle.std.proofs.Common.{◌≡◌, ◌≤◌, true, length, sym, ◌∙◌, arith}
use Rattle.std.specs.List.{list_all}
use Rattle.std.proofs.lemmas.Grind.{common_steps}
use Rattle.dms_base.specs.Text.{trim_spaces, is_printable}
use Rattle.dms_base.proofs.Kept.{texted}
use Rattle.dms_base.proofs.text.Text.read.Goals as goal

pub invariant_of-result : goal.invariant_of-result
invariant_of-result c =
    let same : c.in_ok-to_vec.field-0.items ≡ trim_spaces c.args.bytes.now = grind (arith, common_steps) in
    let printable : list_all is_printable c.args.bytes.now ≡ true = sym c.has_printable.ensures ∙ c.if-not-has_printable.false in
    let few : length (trim_spaces c.args.bytes.now) ≤ 200 = grind (arith, common_steps) in
    texted c.args.bytes.now _ same printable few
