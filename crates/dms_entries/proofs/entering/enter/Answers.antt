use Rattle.std.proofs.Common.{Bor, ◌≡◌, ◌∙◌, Option, Some, ap, subst, sym}
use Rattle.std.specs.Option.{option_copied, option_map}
use Rattle.std.specs.declared.result.Result.TheVariants.{Ok}
use Rattle.dms_desc.specs.Lookups.{structure_of}
use Rattle.dms_desc.specs.Shape.{as_described, shape_of}
use Rattle.dms_desc.specs.declared.record.Record.{Record}
use Rattle.dms_desc.specs.declared.structure.Structure.{Structure}
use Rattle.dms_model.specs.declared.put.Put.TheVariants.{Full}
use Rattle.dms_spelling.specs.Ready.{ready_since}
use Rattle.dms_entries.specs.Calls.{record_failed, record_none, record_then}
use Rattle.dms_entries.specs.EnterCalls.{enters_as, manual_five, no_member, over_set, own_at}
use Rattle.dms_entries.specs.Promises.{Enters, EntersMember, ReadsRecord}
use Rattle.dms_entries.proofs.entering.enter.Goals as goal

pub record_at-requires-clause-set : goal.record_at-requires-clause-set
record_at-requires-clause-set g c =
    let desc = as_described c.args.desc.now in
    let s = shape_of c.in-Some.s.now in
    let at : structure_of desc c.args.subset ≡ Some s = sym c.structure.ensures ∙ ap (λ (o : Option (Bor Structure)). option_map shape_of (option_copied o)) c.in-Some.is in
    let kind = manual_five desc c.args.subset s at c.requires.subset in
    over_set desc s c.requires.ready.served (own_at desc c.requires.ready.served c.args.subset s at) kind

pub returns-in-Err : goal.returns-in-Err
returns-in-Err g c =
    let desc = as_described c.args.desc.now in
    let s = shape_of c.in-Some.s.now in
    record_failed desc c.args.over.now c.record_at.new.over c.requires.ready 67 s.set c.args.number (Enters desc c.args.subset c.args.owner c.args.number) c.in-Err.e c.in-Err.ensures

pub returns-in-Ok-None : goal.returns-in-Ok-None
returns-in-Ok-None g c =
    let desc = as_described c.args.desc.now in
    let s = shape_of c.in-Some.s.now in
    let at : structure_of desc c.args.subset ≡ Some s = sym c.structure.ensures ∙ ap (λ (o : Option (Bor Structure)). option_map shape_of (option_copied o)) c.in-Some.is in
    let kind = manual_five desc c.args.subset s at c.requires.subset in
    let a = c.args.over.now in
    let b = c.record_at.new.over in
    let read = subst (λ (o : Option Record). ReadsRecord desc s.set c.args.number (Ok o) a b) c.in-Ok-None.field-0-is c.in-Ok-None.ensures in
    record_none desc a b c.requires.ready 67 s.set c.args.number (Enters desc c.args.subset c.args.owner c.args.number) Full read (λ db none may. absurd (no_member desc c.args.subset s at kind c.args.owner c.args.number db none may))

pub enter_member-requires-clause-ready : goal.enter_member-requires-clause-ready
enter_member-requires-clause-ready g c =
    let desc = as_described c.args.desc.now in
    ready_since desc c.args.over.now c.record_at.new.over c.in-Ok-Some.ensures.reads.looks c.requires.ready

pub enter_member-requires-clause-there : goal.enter_member-requires-clause-there
enter_member-requires-clause-there g c =
    let desc = as_described c.args.desc.now in
    let s = shape_of c.in-Some.s.now in
    let at : structure_of desc c.args.subset ≡ Some s = sym c.structure.ensures ∙ ap (λ (o : Option (Bor Structure)). option_map shape_of (option_copied o)) c.in-Some.is in
    own_at desc c.requires.ready.served c.args.subset s at

pub enter_member-requires-clause-kind : goal.enter_member-requires-clause-kind
enter_member-requires-clause-kind g c =
    let desc = as_described c.args.desc.now in
    let s = shape_of c.in-Some.s.now in
    let at : structure_of desc c.args.subset ≡ Some s = sym c.structure.ensures ∙ ap (λ (o : Option (Bor Structure)). option_map shape_of (option_copied o)) c.in-Some.is in
    manual_five desc c.args.subset s at c.requires.subset

pub enter_member-requires-clause-fits : goal.enter_member-requires-clause-fits
enter_member-requires-clause-fits g c =
    let fits = rw c.in-Ok-Some.field-0-is at c.in-Ok-Some.ensures.fits in
    record { owner = c.requires.owner; values = fits.values }

pub returns-in-Ok-Some : goal.returns-in-Ok-Some
returns-in-Ok-Some g c =
    let desc = as_described c.args.desc.now in
    let s = shape_of c.in-Some.s.now in
    let at : structure_of desc c.args.subset ≡ Some s = sym c.structure.ensures ∙ ap (λ (o : Option (Bor Structure)). option_map shape_of (option_copied o)) c.in-Some.is in
    let kind = manual_five desc c.args.subset s at c.requires.subset in
    let a = c.args.over.now in
    let b = c.record_at.new.over in
    let rec : Record = c.in-Ok-Some.rec in
    let read = subst (λ (o : Option Record). ReadsRecord desc s.set c.args.number (Ok o) a b) c.in-Ok-Some.field-0-is c.in-Ok-Some.ensures in
    record_then desc a b c.requires.ready 67 s.set c.args.number (Enters desc c.args.subset c.args.owner c.args.number) (EntersMember desc s c.args.number (record rec { owner = c.args.owner })) c.enter_member.result rec c.enter_member.new.over g.met.B.Blocks.same_then read
    (λ db d x there h. enters_as desc c.requires.ready.served c.args.subset s at kind c.args.owner c.args.number db rec d x there h) c.enter_member.ensures
