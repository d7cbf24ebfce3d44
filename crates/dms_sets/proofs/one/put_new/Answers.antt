use Rattle.std.specs.Prelude.{◌==◌}
use Rattle.dms_sets.proofs.Faults.{if_that}
use Rattle.dms_sets.proofs.one.put_new.Goals as goal

pub returns-in_err-refuses-clause-fails : goal.returns-in_err-refuses-clause-fails
returns-in_err-refuses-clause-fails g c =
    if_that _ _ _ c.from_residual.ensures.1 (g.met.L.Lists.fails_then _ (λ m. m == c.args.s.now.number) 1 0 _ _ _ (g.met.L.Lists.calm_none (λ m. m == c.args.s.now.number) 1 c.args.lists.now) c.in_err-refuses.ensures.fails)

pub returns-then-branch-clause-calm : goal.returns-then-branch-clause-calm
returns-then-branch-clause-calm g c = g.met.L.Lists.calm_then _ 0 1 _ _ _ c.in_ok-refuses.ensures.calm (g.met.L.Lists.calm_none _ 1 _)

pub returns-in_err-put_in-clause-fails : goal.returns-in_err-put_in-clause-fails
returns-in_err-put_in-clause-fails g c =
    if_that _ _ _ c.from_residual-in_err-put_in.ensures.1 (g.met.L.Lists.fails_then _ _ 0 1 _ _ _ c.in_ok-refuses.ensures.calm c.in_err-put_in.ensures.fails)

pub returns-clause-calm : goal.returns-clause-calm
returns-clause-calm g c = g.met.L.Lists.calm_then _ 0 1 _ _ _ c.in_ok-refuses.ensures.calm c.in_ok-put_in.ensures.calm
