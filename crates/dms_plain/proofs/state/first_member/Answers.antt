use Rattle.std.proofs.Common.{◌≡◌, ◌∙◌, ap, sym, subst, Bor, IfOk, Some, None}
use Rattle.std.specs.Option.{option_copied, option_map}
use Rattle.std.specs.declared.option.Option.{Option}
use Rattle.dms_model.specs.declared.spot.Spot.{Spot}
use Rattle.dms_desc.specs.declared.structure.Structure.{Structure}
use Rattle.dms_desc.specs.Shape.{shape_of, as_described}
use Rattle.dms_plain.proofs.Joining.{soonest_first, first_at}
use Rattle.dms_plain.proofs.state.first_member.Goals as goal

pub returns-in-None : goal.returns-in-None
returns-in-None c = first_at (as_described c.args.desc.now) c.args.rows.now c.args.manual.now.entries c.args.path c.args.owner c.args.from.now None (sym c.structure.ensures ∙ ap (λ (o : Option (Bor Structure)). option_map shape_of (option_copied o)) c.in-None.is)

pub returns-in-Some : goal.returns-in-Some
returns-in-Some c =
    subst (λ (o : Option Spot). IfOk c.soonest.result (λ r. r ≡ o))
    (soonest_first (shape_of c.in-Some.s.now) c.args.manual.now.entries c.args.owner c.args.from.now c.args.rows.now c.requires
    ∙ first_at (as_described c.args.desc.now) c.args.rows.now c.args.manual.now.entries c.args.path c.args.owner c.args.from.now (Some (shape_of c.in-Some.s.now)) (sym c.structure.ensures ∙ ap (λ (o : Option (Bor Structure)). option_map shape_of (option_copied o)) c.in-Some.is))
    c.soonest.ensures
