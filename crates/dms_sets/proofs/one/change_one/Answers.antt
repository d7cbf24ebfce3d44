use Rattle.std.specs.Prelude.{◌==◌}
use Rattle.std.proofs.lemmas.Result.{IfOk-weaker, IfErr-weaker}
use Rattle.std.specs.Option.{option_copied}
use Rattle.dms_desc.specs.Shape.{shape_of}
use Rattle.dms_chain.specs.Lists.{without_in}
use Rattle.dms_sets.specs.Changes.{IfListed, list_of_set, entry_opt}
use Rattle.dms_sets.proofs.Faults.{if_that}
use Rattle.dms_sets.proofs.one.change_one.Goals as goal

pub returns-in_err-leave-clause-fails : goal.returns-in_err-leave-clause-fails
returns-in_err-leave-clause-fails g c =
    if_that _ _ _ c.from_residual.ensures.1 (g.met.L.Lists.fails_then _ (λ m. m == c.args.s.now.number) 1 1 _ _ _ (g.met.L.Lists.calm_none (λ m. m == c.args.s.now.number) 1 c.args.lists.now) c.in_err-leave.ensures.fails)

pub returns-clause-calm : goal.returns-clause-calm
returns-clause-calm g c = IfOk-weaker _ _ _ (λ x h. g.met.L.Lists.calm_then _ 1 1 _ _ _ c.in_ok-leave.ensures.calm h) c.enter.ensures.calm

pub returns-clause-fails : goal.returns-clause-fails
returns-clause-fails g c = IfErr-weaker _ _ _ (λ e h. g.met.L.Lists.fails_then e _ 1 1 _ _ _ c.in_ok-leave.ensures.calm h) c.enter.ensures.fails

pub returns-clause-below : goal.returns-clause-below
returns-clause-below g c =
    let kinds = c.args.kinds.now in
    let s = shape_of c.args.s.now in
    let middle = c.leave.new.lists in
    IfErr-weaker c.enter.result (λ e. IfListed (list_of_set (g.L.Lists.listed middle) kinds s) (λ xs. g.L.Lists.below e middle c.enter.new.lists))
    (λ e. IfListed (list_of_set (g.L.Lists.listed c.args.lists.now) kinds s) (λ xs. g.L.Lists.below e c.args.lists.now c.enter.new.lists))
    (λ e h. λ xs is. g.met.L.Lists.below_then e _ 1 c.args.lists.now middle c.enter.new.lists c.in_ok-leave.ensures.calm (h (without_in (entry_opt kinds s c.args.number (option_copied c.args.old)) xs) (c.in_ok-leave.ensures.list.here xs is)))
    c.enter.ensures.below
