use Rattle.std.proofs.Common.{sym, ap, ◌∙◌, length, subst}
use Rattle.dms_desc.specs.Shape.{shape_of}
use Rattle.dms_lists.specs.Forms.{form_of}
use Rattle.dms_sets.specs.Changes.{IsEntryWidth}
use Rattle.dms_sets.specs.ChangeLaws.{entry_whole, entry_long, listed_as, put_only}
use Rattle.dms_sets.proofs.Faults.{if_that}
use Rattle.dms_sets.proofs.one.put_in.Goals as goal

pub insert-requires-clause-width : goal.insert-requires-clause-width
insert-requires-clause-width g c =
    subst (λ q. IsEntryWidth (length q)) (sym c.as_slice.ensures)
    (entry_whole c.args.kinds.now (shape_of c.args.s.now) c.args.number c.args.rec.now _ c.requires.fits (sym c.in_ok-entry.ensures ∙ c.in-Some.is))

pub returns-in_ok-insert-clause-list : goal.returns-in_ok-insert-clause-list
returns-in_ok-insert-clause-list g c =
    let is = sym c.in_ok-entry.ensures ∙ c.in-Some.is in
    put_only _ _ _ _ _ _ _ _ is c.form_of.ensures (entry_long c.args.kinds.now (shape_of c.args.s.now) c.args.number c.args.rec.now _ c.requires.fits is) (rw (sym c.as_slice.ensures) c.in_ok-insert.ensures.list)

pub returns-in_err-insert-clause-below : goal.returns-in_err-insert-clause-below
returns-in_err-insert-clause-below g c =
    let is = sym c.in_ok-entry.ensures ∙ c.in-Some.is in
    let long = entry_long c.args.kinds.now (shape_of c.args.s.now) c.args.number c.args.rec.now _ c.requires.fits is in
    if_that _ _ _ c.from_residual-in_err-insert.ensures.1
    (listed_as (g.L.Lists.listed c.args.lists.now) c.args.s.now.number c.form_of.result (form_of (shape_of c.args.s.now)) _ _ (λ xs. g.L.Lists.below c.in_err-insert.field-0.0 c.args.lists.now c.insert.new.self) c.form_of.ensures (ap length c.as_slice.ensures ∙ long) c.in_err-insert.ensures.below)
