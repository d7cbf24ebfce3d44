use Rattle.std.proofs.Common.{Bor, ◌≡◌, ◌∙◌, Option, None, Some, sym, ap}
use Rattle.std.specs.Option.{option_copied, option_map}
use Rattle.dms_desc.specs.Lookups.{structure_of}
use Rattle.dms_desc.specs.Shape.{as_described, shape_of}
use Rattle.dms_desc.specs.declared.structure.Structure.{Structure}
use Rattle.dms_removal.specs.Linking.{link_none, link_off, link_on}
use Rattle.dms_spelling.specs.Ready.{holds_sets}
use Rattle.dms_removal.proofs.linking.link.Goals as goal

pub set_link-requires-clause-holds : goal.set_link-requires-clause-holds
set_link-requires-clause-holds g c = holds_sets (as_described c.args.desc.now) c.args.over.now c.requires.ready

pub returns-in-None : goal.returns-in-None
returns-in-None g c =
    let desc = as_described c.args.desc.now in
    let off : structure_of desc c.args.set ≡ None = sym c.structure.ensures ∙ ap (λ (o : Option (Bor Structure)). option_map shape_of (option_copied o)) c.in-None.is in
    link_none desc c.args.set c.args.number c.args.item c.args.to c.args.over.now g.met.B.Blocks.same_again c.requires.ready off

pub returns-then-not-is_slot : goal.returns-then-not-is_slot
returns-then-not-is_slot g c =
    let desc = as_described c.args.desc.now in
    let s = shape_of c.in-Some.s.now in
    let at : structure_of desc c.args.set ≡ Some s = sym c.structure.ensures ∙ ap (λ (o : Option (Bor Structure)). option_map shape_of (option_copied o)) c.in-Some.is in
    link_off desc c.args.set c.args.number c.args.item c.args.to c.args.over.now s g.met.B.Blocks.same_again c.requires.ready at (sym c.is_slot.ensures ∙ c.if-not-is_slot.true)

pub returns-else-not-is_slot : goal.returns-else-not-is_slot
returns-else-not-is_slot g c =
    let desc = as_described c.args.desc.now in
    let s = shape_of c.in-Some.s.now in
    let at : structure_of desc c.args.set ≡ Some s = sym c.structure.ensures ∙ ap (λ (o : Option (Bor Structure)). option_map shape_of (option_copied o)) c.in-Some.is in
    link_on desc c.args.set c.args.number c.args.item c.args.to c.set_link.result c.args.over.now c.set_link.new.over s c.requires.ready at (sym c.is_slot.ensures ∙ c.if-not-is_slot.false) c.requires.may c.set_link.ensures.writes
    c.set_link.ensures.linked c.set_link.ensures.causes
