use Rattle.std.proofs.Common.{Bor, ◌≡◌, ◌∙◌, ◌+◌, Option, Some, ap, subst, sym}
use Rattle.std.specs.Option.{option_copied, option_map}
use Rattle.dms_block.specs.View.{seen_counts}
use Rattle.dms_desc.specs.Files.{file_of}
use Rattle.dms_desc.specs.Lookups.{structure_of}
use Rattle.dms_desc.specs.Shape.{as_described, shape_of}
use Rattle.dms_desc.specs.declared.structure.Structure.{Structure}
use Rattle.dms_links.specs.Linking.{number_at}
use Rattle.dms_model.specs.Fitting.{MayStart}
use Rattle.dms_model.specs.Members.{last_member}
use Rattle.dms_entries.specs.EnterCalls.{manual_five, own_at}
use Rattle.dms_entries.specs.Found.{FindsSpot}
use Rattle.dms_entries.proofs.finding.last_member.Goals as goal

pub last_in-requires-clause-there : goal.last_in-requires-clause-there
last_in-requires-clause-there g c =
    let desc = as_described c.args.desc.now in
    let s = shape_of c.in-Some.s.now in
    let at : structure_of desc c.args.subset ≡ Some s = sym c.structure.ensures ∙ ap (λ (o : Option (Bor Structure)). option_map shape_of (option_copied o)) c.in-Some.is in
    own_at desc c.requires.ready.served c.args.subset s at

pub last_in-requires-clause-kind : goal.last_in-requires-clause-kind
last_in-requires-clause-kind g c =
    let desc = as_described c.args.desc.now in
    let s = shape_of c.in-Some.s.now in
    let at : structure_of desc c.args.subset ≡ Some s = sym c.structure.ensures ∙ ap (λ (o : Option (Bor Structure)). option_map shape_of (option_copied o)) c.in-Some.is in
    manual_five desc c.args.subset s at c.requires.subset

pub returns-in-Some : goal.returns-in-Some
returns-in-Some g c =
    let desc = as_described c.args.desc.now in
    let s = shape_of c.in-Some.s.now in
    let at : structure_of desc c.args.subset ≡ Some s = sym c.structure.ensures ∙ ap (λ (o : Option (Bor Structure)). option_map shape_of (option_copied o)) c.in-Some.is in
    subst (λ n. FindsSpot desc n (MayStart desc n c.args.owner c.args.to.now) (λ db. last_member desc db n c.args.owner c.args.to.now) (2 + seen_counts c.args.over.now (file_of n)) c.last_in.result c.args.over.now c.last_in.new.over)
    (number_at desc c.requires.ready.served.numbered c.args.subset s at) c.last_in.ensures
