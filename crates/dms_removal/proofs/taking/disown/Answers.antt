use Rattle.std.proofs.Common.{◌≡◌, List, [], ◌∷◌, true, false, cond, ap, subst, sym, arith}
use Rattle.std.specs.Prelude.{◌==◌}
use Rattle.std.specs.declared.result.Result.TheVariants.{Ok}
use Rattle.std.proofs.lemmas.Bool.Decides.{nat_tests}
use Rattle.dms_desc.specs.Shape.{as_described}
use Rattle.dms_links.specs.Stepping.{SlotStep}
use Rattle.dms_links.specs.Taking.{TakesSteps, takes_none, takes_one}
use Rattle.dms_links.specs.declared.altering.SlotChange.TheVariants.{Disowned}
use Rattle.dms_removal.specs.Releasing.{owner_steps}
use Rattle.dms_removal.proofs.taking.disown.Goals as goal

pub alter_in-requires-clause-holds : goal.alter_in-requires-clause-holds
alter_in-requires-clause-holds g c = c.requires.holds c.args.set

pub alter_in-requires-clause-may : goal.alter_in-requires-clause-may
alter_in-requires-clause-may g c s at = tt

pub returns-then-set-eq0 : goal.returns-then-set-eq0
returns-then-set-eq0 g c =
    let desc = as_described c.args.desc.now in
    let a = c.args.over.now in
    let x : SlotStep = record { set = c.args.set; number = c.args.owner; change = Disowned } in
    let on : (c.args.set == 0) ≡ true = grind (arith, nat_tests, c.if-set-eq0.true) in
    let are : owner_steps c.args.set c.args.owner ≡ [] = ap (λ b. cond b [] (x ∷ [])) on in
    subst (λ (xs : List SlotStep). TakesSteps desc xs 1 (Ok true) a a) (sym are) (takes_none desc 1 a g.met.B.Blocks.same_again c.requires.sound)

pub returns : goal.returns
returns g c =
    let desc = as_described c.args.desc.now in
    let a = c.args.over.now in
    let d = c.alter_in.new.over in
    let x : SlotStep = record { set = c.args.set; number = c.args.owner; change = Disowned } in
    let off : (c.args.set == 0) ≡ false = grind (arith, nat_tests, c.if-set-eq0.false) in
    let are : owner_steps c.args.set c.args.owner ≡ x ∷ [] = ap (λ b. cond b [] (x ∷ [])) off in
    subst (λ (xs : List SlotStep). TakesSteps desc xs 1 c.alter_in.result a d) (sym are) (takes_one desc x c.alter_in.result a d c.alter_in.ensures.writes c.alter_in.ensures.altered c.alter_in.ensures.causes)
