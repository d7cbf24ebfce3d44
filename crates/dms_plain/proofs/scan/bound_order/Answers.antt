use Rattle.std.proofs.Common.{sym, ◌∙◌, ap, List, take, length}
use Rattle.dms_base.specs.declared.value.Value.{Value}
use Rattle.dms_desc.specs.declared.bound.Bound.{Bound}
use Rattle.dms_model.specs.Members.{bound_cmp, spot_of}
use Rattle.dms_plain.specs.Rows.{entry_of}
use Rattle.dms_plain.proofs.Turns.{front_cmp}
use Rattle.dms_plain.proofs.scan.bound_order.Goals as goal

pub returns-in-From : goal.returns-in-From
returns-in-From c =
    let ps = c.args.parts.now in
    let row = c.args.row.now in
    c.then-in-From.ensures
    ∙ front_cmp ps c.front_of-front.result.now row.rec.values c.as_slice-in-From-2.result.now c.in-From.key c.as_slice-in-From-3.result.now c.order_to_key-in-From.result
    (c.front_of-front.ensures ∙ ap (λ (ks : List Value). take (length ks) ps) c.as_slice-in-From.ensures) c.as_slice-in-From-2.ensures c.as_slice-in-From-3.ensures c.order_to_key-in-From.ensures
    ∙ sym (ap (λ (b : Bound). bound_cmp ps b (spot_of ps (entry_of row))) c.in-From.is)
