use Rattle.std.proofs.Common.{◌≡◌, ◌∙◌, ap, sym, subst, Bor, IfOk, Some, None}
use Rattle.std.specs.Option.{option_copied, option_map}
use Rattle.std.specs.declared.option.Option.{Option}
use Rattle.dms_model.specs.declared.spot.Spot.{Spot}
use Rattle.dms_desc.specs.declared.structure.Structure.{Structure}
use Rattle.dms_desc.specs.Shape.{shape_of, as_described}
use Rattle.dms_plain.proofs.Joining.{latest_last, last_at}
use Rattle.dms_plain.proofs.state.last_member.Goals as goal

pub returns-in-None : goal.returns-in-None
returns-in-None c = last_at (as_described c.args.desc.now) c.args.rows.now c.args.manual.now.entries c.args.path c.args.owner c.args.upto.now None (sym c.structure.ensures ∙ ap (λ (o : Option (Bor Structure)). option_map shape_of (option_copied o)) c.in-None.is)

pub returns-in-Some : goal.returns-in-Some
returns-in-Some c =
    subst (λ (o : Option Spot). IfOk c.latest.result (λ r. r ≡ o))
    (latest_last (shape_of c.in-Some.s.now) c.args.manual.now.entries c.args.owner c.args.upto.now c.args.rows.now c.requires
    ∙ last_at (as_described c.args.desc.now) c.args.rows.now c.args.manual.now.entries c.args.path c.args.owner c.args.upto.now (Some (shape_of c.in-Some.s.now)) (sym c.structure.ensures ∙ ap (λ (o : Option (Bor Structure)). option_map shape_of (option_copied o)) c.in-Some.is))
    c.latest.ensures
