use Rattle.std.proofs.Common.{◌≡◌, ◌<◌, ◌≤◌, ◌∙◌, sym, ap, length, arith}
use Rattle.std.specs.Prelude.{◌==◌}
use Rattle.dms_desc.specs.Shape.{shape_of}
use Rattle.dms_lists.specs.declared.form.ListForm.TheVariants.{List as OneChain}
use Rattle.dms_lists.specs.FormLaws.{manual_form}
use Rattle.dms_lists.specs.Forms.{form_of}
use Rattle.dms_sets.specs.ChangeLaws.{listed_as}
use Rattle.dms_sets.specs.Changes.{list_of_set}
use Rattle.dms_sets.specs.Padded.{entry_width}
use Rattle.dms_sets.proofs.Faults.{if_that}
use Rattle.dms_manual.specs.EnteringLaws.{enters_full, enters_refused, enters_stored}
use Rattle.dms_manual.proofs.entering.enter_in.Goals as goal

pub returns-in_err-refused-clause-fails : goal.returns-in_err-refused-clause-fails
returns-in_err-refused-clause-fails g c =
    if_that _ _ _ c.from_residual.ensures.1 (g.met.L.Lists.fails_then _ (λ m. m == c.args.s.now.number) 1 2 _ _ _ (g.met.L.Lists.calm_none (λ m. m == c.args.s.now.number) 1 c.args.lists.now) c.in_err-refused.ensures.fails)

pub returns-then-refused-clause-entered : goal.returns-then-refused-clause-entered
returns-then-refused-clause-entered g c xs is room =
    let s = shape_of c.args.s.now in
    let left = list_of_set (g.L.Lists.listed c.enter.new.lists) c.args.kinds.now s in
    enters_refused c.args.kinds.now s c.args.number c.args.rec.now xs left c.in_ok-refused.refused (c.in_ok-refused.ensures.made xs is) left c.if-refused.true

pub returns-then-refused-clause-calm : goal.returns-then-refused-clause-calm
returns-then-refused-clause-calm g c = g.met.L.Lists.calm_then (λ m. m == c.args.s.now.number) 2 1 _ _ _ c.in_ok-refused.ensures.calm (g.met.L.Lists.calm_none (λ m. m == c.args.s.now.number) 1 c.enter.new.lists)

pub returns-in_err-count-clause-fails : goal.returns-in_err-count-clause-fails
returns-in_err-count-clause-fails g c =
    if_that _ _ _ c.from_residual-in_err-count.ensures.1 (g.met.L.Lists.fails_then _ (λ m. m == c.args.s.now.number) 3 0 _ _ _ (g.met.L.Lists.calm_then (λ m. m == c.args.s.now.number) 2 1 _ _ _ c.in_ok-refused.ensures.calm (g.met.L.Lists.calm_none (λ m. m == c.args.s.now.number) 1 c.enter.new.lists)) c.in_err-count.ensures.fails)

pub returns-then-count-from-clause-entered : goal.returns-then-count-from-clause-entered
returns-then-count-from-clause-entered g c xs is room =
    let s = shape_of c.args.s.now in
    let kinds = c.args.kinds.now in
    let ls = g.L.Lists.listed c.enter.new.lists in
    let width : c.entry_width-width.result ≡ entry_width kinds s.parts = c.entry_width-width.ensures ∙ ap (entry_width kinds) c.as_slice.ensures in
    let counted = listed_as ls s.number OneChain (form_of s) _ _ (λ ys. c.in_ok-count.count ≡ length ys) (sym (manual_form s c.requires.kind)) width c.in_ok-count.ensures.answer in
    let more : s.population < c.in_ok-count.count = omega (arith, c.if-count-from.true, c.from.ensures) in
    enters_full kinds s c.args.number c.args.rec.now xs (list_of_set ls kinds s) c.in_ok-refused.refused (c.in_ok-refused.ensures.made xs is) c.if-refused.false room c.in_ok-count.count counted (list_of_set (g.L.Lists.listed c.entry_count.new.self) kinds s) more

pub returns-then-count-from-clause-calm : goal.returns-then-count-from-clause-calm
returns-then-count-from-clause-calm g c = g.met.L.Lists.calm_then (λ m. m == c.args.s.now.number) 2 1 _ _ _ c.in_ok-refused.ensures.calm (g.met.L.Lists.calm_then (λ m. m == c.args.s.now.number) 0 1 _ _ _ c.in_ok-count.ensures.calm (g.met.L.Lists.calm_none (λ m. m == c.args.s.now.number) 1 c.entry_count.new.self))

pub returns-clause-entered : goal.returns-clause-entered
returns-clause-entered g c xs is room =
    let s = shape_of c.args.s.now in
    let kinds = c.args.kinds.now in
    let ls = g.L.Lists.listed c.enter.new.lists in
    let width : c.entry_width-width.result ≡ entry_width kinds s.parts = c.entry_width-width.ensures ∙ ap (entry_width kinds) c.as_slice.ensures in
    let counted = listed_as ls s.number OneChain (form_of s) _ _ (λ ys. c.in_ok-count.count ≡ length ys) (sym (manual_form s c.requires.kind)) width c.in_ok-count.ensures.answer in
    let few : c.in_ok-count.count ≤ s.population = omega (arith, c.if-count-from.false, c.from.ensures) in
    enters_stored kinds s c.args.number c.args.rec.now xs (list_of_set ls kinds s) c.in_ok-refused.refused (c.in_ok-refused.ensures.made xs is) c.if-refused.false room c.in_ok-count.count counted (list_of_set (g.L.Lists.listed c.entry_count.new.self) kinds s)
    (ap (λ f. list_of_set f kinds s) c.in_ok-count.ensures.list) few

pub returns-clause-calm : goal.returns-clause-calm
returns-clause-calm g c = g.met.L.Lists.calm_then (λ m. m == c.args.s.now.number) 2 1 _ _ _ c.in_ok-refused.ensures.calm (g.met.L.Lists.calm_then (λ m. m == c.args.s.now.number) 0 1 _ _ _ c.in_ok-count.ensures.calm (g.met.L.Lists.calm_none (λ m. m == c.args.s.now.number) 1 c.entry_count.new.self))
