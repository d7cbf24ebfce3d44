use Rattle.std.proofs.Common.{Bor, ◌≡◌, ◌∙◌, Option, Some, None, sym, ap, subst}
use Rattle.std.specs.Option.{option_copied, option_map}
use Rattle.std.proofs.lemmas.Result.{IfOk-weaker}
use Rattle.dms_chain.specs.Seen.{IsListWidth}
use Rattle.dms_desc.specs.Files.{file_of}
use Rattle.dms_desc.specs.Lookups.{structure_of}
use Rattle.dms_desc.specs.Shape.{as_described, shape_of}
use Rattle.dms_desc.specs.declared.structure.Structure.{Structure}
use Rattle.dms_rowflaws.proofs.EntryWidths.{wide_at}
use Rattle.dms_rowflaws.specs.Blocks.{first_unformed, unformed_in}
use Rattle.dms_spelling.specs.ServingLaws.{served_at}
use Rattle.dms_rowflaws.proofs.blocks.unformed_in.Goals as goal

pub width_of-requires : goal.width_of-requires
width_of-requires g c =
    let desc = as_described c.args.desc.now in
    let s = shape_of c.in-Some.s.now in
    let at : structure_of desc c.args.number ≡ Some s = sym c.structure.ensures ∙ ap (λ (o : Option (Bor Structure)). option_map shape_of (option_copied o)) c.in-Some.is in
    (wide_at desc c.args.number s c.requires.served at).most

pub first_unformed-requires-clause-few : goal.first_unformed-requires-clause-few
first_unformed-requires-clause-few g c =
    let desc = as_described c.args.desc.now in
    let s = shape_of c.in-Some.s.now in
    let at : structure_of desc c.args.number ≡ Some s = sym c.structure.ensures ∙ ap (λ (o : Option (Bor Structure)). option_map shape_of (option_copied o)) c.in-Some.is in
    (served_at desc c.args.number s c.requires.served at).few

pub first_unformed-requires-clause-width : goal.first_unformed-requires-clause-width
first_unformed-requires-clause-width g c =
    let desc = as_described c.args.desc.now in
    let s = shape_of c.in-Some.s.now in
    let at : structure_of desc c.args.number ≡ Some s = sym c.structure.ensures ∙ ap (λ (o : Option (Bor Structure)). option_map shape_of (option_copied o)) c.in-Some.is in
    subst IsListWidth (sym c.in_ok-width-in-Some.ensures) (wide_at desc c.args.number s c.requires.served at)

pub returns-in_ok-width-in-Some-clause-first : goal.returns-in_ok-width-in-Some-clause-first
returns-in_ok-width-in-Some-clause-first g c =
    let desc = as_described c.args.desc.now in
    let s = shape_of c.in-Some.s.now in
    let content = g.V.View.content c.args.view.now in
    let at : structure_of desc c.args.number ≡ Some s = sym c.structure.ensures ∙ ap (λ (o : Option (Bor Structure)). option_map shape_of (option_copied o)) c.in-Some.is in
    IfOk-weaker c.first_unformed.result _ _
    (λ o h told.
    h told
    ∙ (λ i. first_unformed s (c.in_ok-width-in-Some.ensures i) 0 (content (c.file_of-file.ensures i)))
    ∙ ap (λ x. unformed_in desc x (content (file_of c.args.number))) (sym at))
    c.first_unformed.ensures.first

pub returns-in-None-clause-first : goal.returns-in-None-clause-first
returns-in-None-clause-first g c told =
    let desc = as_described c.args.desc.now in
    let content = g.V.View.content c.args.view.now in
    let none : structure_of desc c.args.number ≡ None = sym c.structure.ensures ∙ ap (λ (o : Option (Bor Structure)). option_map shape_of (option_copied o)) c.in-None.is in
    c.first_of_any.ensures (content (c.file_of-file.result)) (c.count.ensures.count told)
    ∙ ap (λ f. unformed_in desc None (content f)) c.file_of-file.ensures ∙ ap (λ x. unformed_in desc x (content (file_of c.args.number))) (sym none)
