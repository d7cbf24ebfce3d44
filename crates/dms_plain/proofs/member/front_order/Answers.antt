use Rattle.std.proofs.Common.{◌≡◌, List, sym, ap, ◌∙◌}
use Rattle.std.specs.Ordering.{ordering_reverse, ordering_then}
use Rattle.dms_base.specs.declared.value.Value.{Value}
use Rattle.dms_desc.specs.Keys.{key_cmp, key_of}
use Rattle.dms_model.specs.MemberLaws.{key_total}
use Rattle.dms_plain.proofs.member.front_order.Goals as goal

pub returns : goal.returns
returns c =
    let ps = c.args.parts.now in
    let key = key_of ps c.args.values.now in
    let keys : c.reverse.result ≡ key_cmp ps c.args.member.now.key key =
    c.reverse.ensures ∙ ap ordering_reverse (c.order_to_key-keys.ensures ∙ ap (λ (ks : List Value). key_cmp ps key ks) c.as_slice.ensures)
    ∙ sym ((key_total 0 ps).antisymm c.args.member.now.key key) in
    c.then.ensures ∙ (λ i. ordering_then (c.cmp.ensures i) (keys i))
