use Rattle.std.proofs.Common.{Bor, ◌≡◌, ◌∙◌, ◌+◌, Option, Some, ap, subst, sym}
use Rattle.std.specs.Option.{option_copied, option_map}
use Rattle.dms_block.specs.View.{seen_counts}
use Rattle.dms_desc.specs.Files.{file_of}
use Rattle.dms_desc.specs.Lookups.{structure_of}
use Rattle.dms_desc.specs.Shape.{as_described, shape_of}
use Rattle.dms_desc.specs.declared.structure.Structure.{Structure}
use Rattle.dms_links.specs.Linking.{number_at}
use Rattle.dms_model.specs.Fitting.{MayStart}
use Rattle.dms_model.specs.Members.{first_member}
use Rattle.dms_entries.specs.EnterCalls.{manual_five, own_at}
use Rattle.dms_entries.specs.Found.{FindsSpot}
use Rattle.dms_entries.proofs.finding.first_member.Goals as goal

pub first_in-requires-clause-there : goal.first_in-requires-clause-there
first_in-requires-clause-there g c =
    let desc = as_described c.args.desc.now in
    let s = shape_of c.in-Some.s.now in
    let at : structure_of desc c.args.subset ≡ Some s = sym c.structure.ensures ∙ ap (λ (o : Option (Bor Structure)). option_map shape_of (option_copied o)) c.in-Some.is in
    own_at desc c.requires.ready.served c.args.subset s at

pub first_in-requires-clause-kind : goal.first_in-requires-clause-kind
first_in-requires-clause-kind g c =
    let desc = as_described c.args.desc.now in
    let s = shape_of c.in-Some.s.now in
    let at : structure_of desc c.args.subset ≡ Some s = sym c.structure.ensures ∙ ap (λ (o : Option (Bor Structure)). option_map shape_of (option_copied o)) c.in-Some.is in
    manual_five desc c.args.subset s at c.requires.subset

pub returns-in-Some : goal.returns-in-Some
returns-in-Some g c =
    let desc = as_described c.args.desc.now in
    let s = shape_of c.in-Some.s.now in
    let at : structure_of desc c.args.subset ≡ Some s = sym c.structure.ensures ∙ ap (λ (o : Option (Bor Structure)). option_map shape_of (option_copied o)) c.in-Some.is in
    subst (λ n. FindsSpot desc n (MayStart desc n c.args.owner c.args.from.now) (λ db. first_member desc db n c.args.owner c.args.from.now) (2 + seen_counts c.args.over.now (file_of n)) c.first_in.result c.args.over.now c.first_in.new.over)
    (number_at desc c.requires.ready.served.numbered c.args.subset s at) c.first_in.ensures
