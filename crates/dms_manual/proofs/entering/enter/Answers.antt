use Rattle.std.proofs.Common.{ap, ◌∙◌}
use Rattle.std.specs.Prelude.{◌==◌}
use Rattle.dms_desc.specs.Shape.{shape_of}
use Rattle.dms_sets.specs.Changes.{list_of_set}
use Rattle.dms_manual.specs.EnteringLaws.{makes_one}
use Rattle.dms_sets.proofs.Faults.{if_that}
use Rattle.dms_manual.proofs.entering.enter.Goals as goal

pub returns-in_err-refuses-clause-fails : goal.returns-in_err-refuses-clause-fails
returns-in_err-refuses-clause-fails g c =
    if_that _ _ _ c.from_residual.ensures.1 (g.met.L.Lists.fails_then _ (λ m. m == c.args.s.now.number) 2 0 _ _ _ (g.met.L.Lists.calm_none (λ m. m == c.args.s.now.number) 2 c.args.lists.now) c.in_err-refuses.ensures.fails)

pub returns-then-branch-clause-calm : goal.returns-then-branch-clause-calm
returns-then-branch-clause-calm g c = g.met.L.Lists.calm_then (λ m. m == c.args.s.now.number) 0 2 _ _ _ c.in_ok-refuses.ensures.calm (g.met.L.Lists.calm_none (λ m. m == c.args.s.now.number) 2 c.refuses.new.lists)

pub returns-in_err-new-clause-fails : goal.returns-in_err-new-clause-fails
returns-in_err-new-clause-fails g c =
    if_that _ _ _ c.from_residual-in_err-new.ensures.1 (g.met.L.Lists.fails_then _ (λ m. m == c.args.s.now.number) 1 1 _ _ _ (g.met.L.Lists.calm_then (λ m. m == c.args.s.now.number) 0 1 _ _ _ c.in_ok-refuses.ensures.calm (g.met.L.Lists.calm_none (λ m. m == c.args.s.now.number) 1 c.refuses.new.lists)) c.in_err-new.ensures.fails)

pub returns-clause-calm : goal.returns-clause-calm
returns-clause-calm g c = g.met.L.Lists.calm_then (λ m. m == c.args.s.now.number) 1 1 _ _ _ (g.met.L.Lists.calm_then (λ m. m == c.args.s.now.number) 0 1 _ _ _ c.in_ok-refuses.ensures.calm (g.met.L.Lists.calm_none (λ m. m == c.args.s.now.number) 1 c.refuses.new.lists)) c.in_ok-new.ensures.calm

pub returns-clause-made : goal.returns-clause-made
returns-clause-made g c xs h =
    makes_one c.args.kinds.now (shape_of c.args.s.now) c.args.number c.args.rec.now xs _ _ c.in_ok-new.new c.if-branch.false (c.in_ok-refuses.ensures.answer xs h)
    (c.in_ok-new.ensures.put xs (ap (λ f. list_of_set f c.args.kinds.now (shape_of c.args.s.now)) c.in_ok-refuses.ensures.list ∙ h))
