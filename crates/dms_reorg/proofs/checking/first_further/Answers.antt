use Rattle.std.proofs.Common.{Option, option_map, drop, length, sym, ap, ◌∙◌}
use Rattle.dms_desc.specs.declared.structure.Item.{Item}
use Rattle.dms_desc.specs.Lookups.{items_of}
use Rattle.dms_desc.specs.Shape.{Shape}
use Rattle.dms_desc.specs.Sorted.{first}
use Rattle.dms_reorg.specs.Refusals.{lacks_value}
use Rattle.dms_reorg.proofs.Reasons.{structure_read}
use Rattle.dms_reorg.proofs.checking.first_further.Goals as goal

pub returns-in-Some : goal.returns-in-Some
returns-in-Some c =
    let h = c.in-Some.ensures.lookup in
    let there = structure_read c.as_slice.result.now c.args.new.now.structures c.args.place c.in-Some.t.now c.as_slice.ensures h.3.0 h.1 in
    c.first_without_value.ensures
    ∙ (λ i. option_map (λ (item : Item). item.name) (first lacks_value (drop (length (c.as_slice-in-Some-2.ensures i)) (c.as_slice-in-Some.ensures i))))
    ∙ ap (λ (o : Option Shape). option_map (λ (item : Item). item.name) (first lacks_value (drop (length c.args.s.now.items) (items_of o)))) (sym there)
