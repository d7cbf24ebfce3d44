use Rattle.std.proofs.Common.{◌∙◌, ap, subst, Bor}
use Rattle.std.specs.Prelude.{IfSome, List}
use Rattle.std.specs.FinMap.{get}
use Rattle.std.specs.Option.{option_copied}
use Rattle.std.specs.declared.option.Option.{Option}
use Rattle.dms_desc.specs.Shape.{shape_of}
use Rattle.dms_plain.specs.declared.member.Member.{Member}
use Rattle.dms_desc.specs.declared.structure.KeyPart.{KeyPart}
use Rattle.dms_plain.specs.Listed.{IsListOf, has_other, member_of}
use Rattle.dms_plain.specs.Rows.{records_in}
use Rattle.dms_plain.proofs.Equals.{other_is_equal}
use Rattle.dms_plain.proofs.clash.has_equal_listed.Goals as goal

pub returns-in-Some : goal.returns-in-Some
returns-in-Some c =
    let s = shape_of c.args.s.now in
    let list : IsListOf s c.in-Some.members.now (get (records_in c.args.rows.now)) =
    subst (λ (o : Option (Bor (List Member))). IfSome (option_copied o) (λ ms. IsListOf s ms (get (records_in c.args.rows.now)))) c.in-Some.is c.requires.listed in
    c.has_other.ensures
    ∙ ap (λ (ps : List KeyPart). has_other ps c.args.number (member_of ps c.args.owner c.args.values.now 0) c.in-Some.members.now) c.as_slice.ensures
    ∙ other_is_equal s c.args.manual.now.entries c.args.number c.args.owner c.args.values.now c.requires.kind c.in-Some.members.now c.args.rows.now c.requires.in_order list
