use Rattle.std.proofs.Common.{Bor, ◌≡◌, ◌∙◌, ◌*◌, Option, None, Some, sym, ap, length, arith}
use Rattle.std.specs.Option.{option_copied, option_map}
use Rattle.dms_desc.specs.Lookups.{structure_of}
use Rattle.dms_desc.specs.Shape.{as_described, shape_of}
use Rattle.dms_desc.specs.declared.structure.Structure.{Structure}
use Rattle.dms_links.specs.AlteringIn.{slot_low, slot_most}
use Rattle.dms_links.specs.WalkedLaws.{shapes_long}
use Rattle.dms_manual.specs.Naming.{has_manual}
use Rattle.dms_slots.specs.SlotBlocks.{slot_opt}
use Rattle.dms_spelling.specs.Ready.{all_usable}
use Rattle.dms_spelling.specs.ServingLaws.{served_at}
use Rattle.dms_removal.specs.Using.{list_writes, look_counts, look_failed, look_free, look_lists, look_none, look_off, ready_b, widths}
use Rattle.dms_removal.proofs.using.look.Goals as goal

pub returns-in-None : goal.returns-in-None
returns-in-None g c =
    let desc = as_described c.args.desc.now in
    let off : structure_of desc c.args.set ≡ None = sym c.structure.ensures ∙ ap (λ (o : Option (Bor Structure)). option_map shape_of (option_copied o)) c.in-None.is in
    look_none desc c.args.set c.args.number c.args.over.now c.requires.ready g.met.B.Blocks.same_again off

pub returns-then-not-is_slot : goal.returns-then-not-is_slot
returns-then-not-is_slot g c =
    let desc = as_described c.args.desc.now in
    let s = shape_of c.in-Some.s.now in
    let at : structure_of desc c.args.set ≡ Some s = sym c.structure.ensures ∙ ap (λ (o : Option (Bor Structure)). option_map shape_of (option_copied o)) c.in-Some.is in
    look_off desc c.args.set c.args.number c.args.over.now c.requires.ready s at g.met.B.Blocks.same_again (sym c.is_slot.ensures ∙ c.if-not-is_slot.true)

pub read_slot-requires-clause-few : goal.read_slot-requires-clause-few
read_slot-requires-clause-few g c =
    let desc = as_described c.args.desc.now in
    let s = shape_of c.in-Some.s.now in
    let at : structure_of desc c.args.set ≡ Some s = sym c.structure.ensures ∙ ap (λ (o : Option (Bor Structure)). option_map shape_of (option_copied o)) c.in-Some.is in
    (served_at desc c.args.set s c.requires.ready.served at).few

pub read_slot-requires-clause-fits : goal.read_slot-requires-clause-fits
read_slot-requires-clause-fits g c =
    let desc = as_described c.args.desc.now in
    let s = shape_of c.in-Some.s.now in
    let at : structure_of desc c.args.set ≡ Some s = sym c.structure.ensures ∙ ap (λ (o : Option (Bor Structure)). option_map shape_of (option_copied o)) c.in-Some.is in
    (served_at desc c.args.set s c.requires.ready.served at).fits

pub read_slot-requires-clause-number : goal.read_slot-requires-clause-number
read_slot-requires-clause-number g c = slot_low (shape_of c.in-Some.s.now) c.args.number (sym c.is_slot.ensures ∙ c.if-not-is_slot.false)

pub returns-in-Err : goal.returns-in-Err
returns-in-Err g c =
    let desc = as_described c.args.desc.now in
    let s = shape_of c.in-Some.s.now in
    let at : structure_of desc c.args.set ≡ Some s = sym c.structure.ensures ∙ ap (λ (o : Option (Bor Structure)). option_map shape_of (option_copied o)) c.in-Some.is in
    look_failed desc c.args.set c.args.number c.args.over.now c.requires.ready s at (sym c.is_slot.ensures ∙ c.if-not-is_slot.false) c.in-Err.e c.read_slot.new.b c.in-Err.ensures.reads c.in-Err.ensures.causes

pub returns-in-Ok-None : goal.returns-in-Ok-None
returns-in-Ok-None g c =
    let desc = as_described c.args.desc.now in
    let s = shape_of c.in-Some.s.now in
    let at : structure_of desc c.args.set ≡ Some s = sym c.structure.ensures ∙ ap (λ (o : Option (Bor Structure)). option_map shape_of (option_copied o)) c.in-Some.is in
    look_free desc c.args.set c.args.number c.args.over.now c.requires.ready s at (sym c.is_slot.ensures ∙ c.if-not-is_slot.false) c.read_slot.new.b c.in-Ok-None.ensures.reads c.in-Ok-None.ensures.causes
    (λ told. c.in-Ok-None.ensures.slot told ∙ ap slot_opt c.in-Ok-None.field-0-is)

pub returns-then-counts_something : goal.returns-then-counts_something
returns-then-counts_something g c =
    let desc = as_described c.args.desc.now in
    let s = shape_of c.in-Some.s.now in
    let at : structure_of desc c.args.set ≡ Some s = sym c.structure.ensures ∙ ap (λ (o : Option (Bor Structure)). option_map shape_of (option_copied o)) c.in-Some.is in
    look_counts desc c.args.set c.args.number c.args.over.now c.requires.ready s at (sym c.is_slot.ensures ∙ c.if-not-is_slot.false) c.read_slot.new.b c.in-Ok-Some.ensures.reads c.in-Ok-Some.ensures.causes c.in-Ok-Some.slot
    (λ told. c.in-Ok-Some.ensures.slot told ∙ ap slot_opt c.in-Ok-Some.field-0-is) (sym c.counts_something.ensures ∙ c.if-counts_something.true)

pub is_entered-requires-clause-usable : goal.is_entered-requires-clause-usable
is_entered-requires-clause-usable g c k t there own =
    let desc = as_described c.args.desc.now in
    let s = shape_of c.in-Some.s.now in
    let at : structure_of desc c.args.set ≡ Some s = sym c.structure.ensures ∙ ap (λ (o : Option (Bor Structure)). option_map shape_of (option_copied o)) c.in-Some.is in
    all_usable desc c.read_slot.new.b
    (ready_b desc c.args.set c.args.number c.args.over.now c.requires.ready s at (sym c.is_slot.ensures ∙ c.if-not-is_slot.false) c.read_slot.new.b c.in-Ok-Some.ensures.reads c.in-Ok-Some.ensures.causes c.in-Ok-Some.slot
    (λ told. c.in-Ok-Some.ensures.slot told ∙ ap slot_opt c.in-Ok-Some.field-0-is)) k t there

pub is_entered-requires-clause-small : goal.is_entered-requires-clause-small
is_entered-requires-clause-small g c =
    let desc = as_described c.args.desc.now in
    let s = shape_of c.in-Some.s.now in
    let at : structure_of desc c.args.set ≡ Some s = sym c.structure.ensures ∙ ap (λ (o : Option (Bor Structure)). option_map shape_of (option_copied o)) c.in-Some.is in
    omega (arith, slot_most s c.args.number (sym c.is_slot.ensures ∙ c.if-not-is_slot.false), (served_at desc c.args.set s c.requires.ready.served at).population)

pub is_entered-requires-clause-width : goal.is_entered-requires-clause-width
is_entered-requires-clause-width g c k t there own = widths (as_described c.args.desc.now) c.args.over.now c.requires.ready c.args.set k t there own

pub returns-else-counts_something : goal.returns-else-counts_something
returns-else-counts_something g c =
    let desc = as_described c.args.desc.now in
    let s = shape_of c.in-Some.s.now in
    let n = length c.args.desc.now.structures in
    let long = shapes_long c.args.desc.now.structures in
    let at : structure_of desc c.args.set ≡ Some s = sym c.structure.ensures ∙ ap (λ (o : Option (Bor Structure)). option_map shape_of (option_copied o)) c.in-Some.is in
    let b = c.read_slot.new.b in
    let d = c.is_entered.new.lists in
    let reads = c.in-Ok-Some.ensures.reads in
    look_lists desc c.args.set c.args.number c.args.over.now c.requires.ready s at (sym c.is_slot.ensures ∙ c.if-not-is_slot.false) b reads c.in-Ok-Some.ensures.causes c.in-Ok-Some.slot
    (λ told. c.in-Ok-Some.ensures.slot told ∙ ap slot_opt c.in-Ok-Some.field-0-is) c.is_entered.result d g.met.B.Blocks.same_then (sym c.counts_something.ensures ∙ c.if-counts_something.false)
    (list_writes (has_manual desc.structures c.args.set) n (22 * length desc.structures) c.is_entered.result b d reads.looks.stays.sound (omega (arith, long)) c.is_entered.ensures.calm c.is_entered.ensures.fails)
    c.is_entered.ensures.answer c.is_entered.ensures.below
