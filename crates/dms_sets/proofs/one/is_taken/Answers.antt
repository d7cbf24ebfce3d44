use Rattle.std.proofs.Common.{sym, ap, ◌∙◌, ◌++◌, ◌∷◌, [], Some, length, subst}
use Rattle.dms_desc.specs.Shape.{shape_of}
use Rattle.dms_chain.specs.Lists.{first_from}
use Rattle.dms_sets.specs.Prefixes.{starts}
use Rattle.dms_lists.specs.Forms.{form_of}
use Rattle.dms_sets.specs.Changes.{IsEntryWidth}
use Rattle.dms_sets.specs.ChangeLaws.{front_whole, bound_long, listed_as, seen_none, seen_some}
use Rattle.dms_sets.proofs.Faults.{if_that}
use Rattle.dms_sets.proofs.one.is_taken.Goals as goal

pub first_from-requires-clause-width : goal.first_from-requires-clause-width
first_from-requires-clause-width g c =
    let is = c.as_slice.ensures ∙ c.in_ok-bound.ensures ∙ ap (λ b. b ++ 0 ∷ 0 ∷ 0 ∷ 0 ∷ []) c.in_ok-front.ensures in
    subst (λ q. IsEntryWidth (length q)) (sym is) (front_whole c.args.kinds.now (shape_of c.args.s.now) c.args.rec.now c.requires.fits)

pub returns-in_err-first_from-clause-below : goal.returns-in_err-first_from-clause-below
returns-in_err-first_from-clause-below g c =
    let is = c.as_slice.ensures ∙ c.in_ok-bound.ensures ∙ ap (λ b. b ++ 0 ∷ 0 ∷ 0 ∷ 0 ∷ []) c.in_ok-front.ensures in
    let long = bound_long c.args.kinds.now (shape_of c.args.s.now) c.args.rec.now c.requires.fits in
    if_that _ _ _ c.from_residual-in_err-first_from.ensures.1
    (listed_as (g.L.Lists.listed c.args.lists.now) c.args.s.now.number c.form_of.result (form_of (shape_of c.args.s.now)) _ _ (λ xs. g.L.Lists.below c.in_err-first_from.field-0.0 c.args.lists.now c.first_from.new.self) c.form_of.ensures (ap length is ∙ long) c.in_err-first_from.ensures.below)

pub returns-in-None-clause-seen : goal.returns-in-None-clause-seen
returns-in-None-clause-seen g c xs h =
    let is = c.as_slice.ensures ∙ c.in_ok-bound.ensures ∙ ap (λ b. b ++ 0 ∷ 0 ∷ 0 ∷ 0 ∷ []) c.in_ok-front.ensures in
    let long = bound_long c.args.kinds.now (shape_of c.args.s.now) c.args.rec.now c.requires.fits in
    seen_none c.args.kinds.now (shape_of c.args.s.now) c.args.rec.now xs c.requires.fits
    (ap (λ b. first_from (Some b) xs) (sym is) ∙ sym (c.in_ok-first_from.ensures.found xs ((λ i. g.L.Lists.listed c.args.lists.now c.args.s.now.number (c.form_of.ensures i) ((ap length is ∙ long) i)) ∙ h)) ∙ c.in-None.is)

pub returns-clause-seen : goal.returns-clause-seen
returns-clause-seen g c xs h =
    let is = c.as_slice.ensures ∙ c.in_ok-bound.ensures ∙ ap (λ b. b ++ 0 ∷ 0 ∷ 0 ∷ 0 ∷ []) c.in_ok-front.ensures in
    let long = bound_long c.args.kinds.now (shape_of c.args.s.now) c.args.rec.now c.requires.fits in
    c.starts.ensures
    ∙ (λ i. starts ((c.as_slice-in-Some.ensures ∙ c.in_ok-front.ensures) i) (c.as_slice-in-Some-2.ensures i))
    ∙ seen_some c.args.kinds.now (shape_of c.args.s.now) c.args.rec.now xs _ c.requires.fits
    (ap (λ b. first_from (Some b) xs) (sym is) ∙ sym (c.in_ok-first_from.ensures.found xs ((λ i. g.L.Lists.listed c.args.lists.now c.args.s.now.number (c.form_of.ensures i) ((ap length is ∙ long) i)) ∙ h)) ∙ c.in-Some.is)
