use Rattle.std.proofs.Common.{Bor, ◌≡◌, ◌∙◌, Option, Some, None, sym, ap}
use Rattle.std.specs.Option.{option_copied, option_map}
use Rattle.std.proofs.lemmas.Result.{IfOk-weaker}
use Rattle.dms_desc.specs.Lookups.{structure_of}
use Rattle.dms_desc.specs.Shape.{as_described, shape_of}
use Rattle.dms_desc.specs.declared.structure.Structure.{Structure}
use Rattle.dms_rowflaws.proofs.EntryWidths.{wide_at}
use Rattle.dms_rowflaws.specs.Shapes.{unshaped_at, unshaped_by}
use Rattle.dms_rowflaws.proofs.shapes.is_shaped_at.Goals as goal

pub is_shaped-requires : goal.is_shaped-requires
is_shaped-requires g c =
    let desc = as_described c.args.desc.now in
    let s = shape_of c.in-Some.s.now in
    let at : structure_of desc c.args.number ≡ Some s = sym c.structure.ensures ∙ ap (λ (o : Option (Bor Structure)). option_map shape_of (option_copied o)) c.in-Some.is in
    wide_at desc c.args.number s c.requires.served at

pub returns-in-Some-clause-is : goal.returns-in-Some-clause-is
returns-in-Some-clause-is g c =
    let desc = as_described c.args.desc.now in
    let s = shape_of c.in-Some.s.now in
    let content = g.V.View.content c.args.view.now in
    let n = c.args.number in
    let at : structure_of desc n ≡ Some s = sym c.structure.ensures ∙ ap (λ (o : Option (Bor Structure)). option_map shape_of (option_copied o)) c.in-Some.is in
    IfOk-weaker c.is_shaped.result _ _ (λ b h told. ap (λ t. unshaped_by t n) (h told) ∙ ap (unshaped_at desc content n) (sym at)) c.is_shaped.ensures.is

pub returns-in-None-clause-is : goal.returns-in-None-clause-is
returns-in-None-clause-is g c told =
    let desc = as_described c.args.desc.now in
    let none : structure_of desc c.args.number ≡ None = sym c.structure.ensures ∙ ap (λ (o : Option (Bor Structure)). option_map shape_of (option_copied o)) c.in-None.is in
    ap (unshaped_at desc (g.V.View.content c.args.view.now) c.args.number) (sym none)
