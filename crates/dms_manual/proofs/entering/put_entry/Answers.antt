use Rattle.std.proofs.Common.{sym, ap, ◌∙◌, length, subst}
use Rattle.std.specs.Prelude.{IfErr}
use Rattle.dms_desc.specs.Shape.{shape_of}
use Rattle.dms_lists.specs.declared.form.ListForm.{ListForm}
use Rattle.dms_lists.specs.FormLaws.{manual_form}
use Rattle.dms_lists.specs.Forms.{form_of}
use Rattle.dms_sets.specs.Changes.{IsEntryWidth, IfListed}
use Rattle.dms_sets.specs.ChangeLaws.{entry_whole, entry_long}
use Rattle.dms_manual.specs.EnteringLaws.{both_ok, put_given}
use Rattle.dms_manual.proofs.entering.put_entry.Goals as goal

pub insert-requires-clause-width : goal.insert-requires-clause-width
insert-requires-clause-width g c =
    subst (λ q. IsEntryWidth (length q)) (sym c.as_slice.ensures)
    (entry_whole c.args.kinds.now (shape_of c.args.s.now) c.args.number c.args.rec.now _ c.requires.fits (sym c.in_ok-entry.ensures ∙ c.in-Some.is))

pub returns-in-Some-clause-put : goal.returns-in-Some-clause-put
returns-in-Some-clause-put g c =
    let is = sym c.in_ok-entry.ensures ∙ c.in-Some.is in
    both_ok c.insert.result c.insert.ensures.answer c.insert.ensures.list (λ new p q. put_given c.args.kinds.now (shape_of c.args.s.now) c.args.number c.args.rec.now _ c.requires.kind c.requires.fits is c.as_slice.result.now c.as_slice.ensures _ _ new p q)

pub returns-in-Some-clause-below : goal.returns-in-Some-clause-below
returns-in-Some-clause-below g c =
    let is = sym c.in_ok-entry.ensures ∙ c.in-Some.is in
    let long = entry_long c.args.kinds.now (shape_of c.args.s.now) c.args.number c.args.rec.now _ c.requires.fits is in
    let s = shape_of c.args.s.now in
    subst (λ v. IfErr c.insert.result (λ e. IfListed (g.L.Lists.listed c.args.lists.now s.number (form_of s) v) (λ xs. g.L.Lists.below e c.args.lists.now c.insert.new.self))) (ap length c.as_slice.ensures ∙ long)
    (subst (λ (f : ListForm). IfErr c.insert.result (λ e. IfListed (g.L.Lists.listed c.args.lists.now s.number f (length c.as_slice.result.now)) (λ xs. g.L.Lists.below e c.args.lists.now c.insert.new.self))) (sym (manual_form s c.requires.kind)) c.insert.ensures.below)
