use Rattle.std.proofs.Common.{◌≡◌, ◌∙◌, ℕ, List, ap, subst, filter}
use Rattle.std.specs.Prelude.{IfErr}
use Rattle.std.proofs.lemmas.Result.{IfOk-weaker}
use Rattle.dms_desc.specs.Shape.{shape_of}
use Rattle.dms_lists.specs.declared.form.ListForm.TheVariants.{List as OneChain}
use Rattle.dms_ordlist.specs.Walks.{ends_with}
use Rattle.dms_sets.specs.Changes.{IfListed}
use Rattle.dms_sets.specs.Padded.{entry_width}
use Rattle.dms_manual.proofs.naming.entries_naming.Goals as goal

pub returns-clause-found : goal.returns-clause-found
returns-clause-found g c =
    let s = shape_of c.args.s.now in
    let kinds = c.args.kinds.now in
    let width : c.entry_width-width.result ≡ entry_width kinds s.parts = c.entry_width-width.ensures ∙ ap (entry_width kinds) c.as_slice.ensures in
    IfOk-weaker c.ending.result _ _ (λ v h xs is. h xs (ap (g.L.Lists.listed c.args.lists.now s.number OneChain) width ∙ is) ∙ ap (λ (t : List ℕ). filter (ends_with t) xs) c.to_be_bytes-tail.ensures) c.ending.ensures.found

pub returns-clause-below : goal.returns-clause-below
returns-clause-below g c =
    let s = shape_of c.args.s.now in
    let kinds = c.args.kinds.now in
    let width : c.entry_width-width.result ≡ entry_width kinds s.parts = c.entry_width-width.ensures ∙ ap (entry_width kinds) c.as_slice.ensures in
    subst (λ w. IfErr c.ending.result (λ e. IfListed (g.L.Lists.listed c.args.lists.now s.number OneChain w) (λ xs. g.L.Lists.below e c.args.lists.now c.ending.new.self))) width c.ending.ensures.below
