use Rattle.std.proofs.Common.{◌≡◌, ◌+◌, ◌≤◌, Bool, subst, arith}
use Rattle.std.specs.declared.result.Result.TheVariants.{Ok, Err}
use Rattle.dms_desc.specs.Shape.{as_described}
use Rattle.dms_links.specs.Setting.{count_steps}
use Rattle.dms_links.specs.Taking.{TakesSteps, holds_after, takes_err, takes_off, takes_then}
use Rattle.dms_links.specs.declared.altering.SlotChange.TheVariants.{Counted, Uncounted}
use Rattle.dms_links.proofs.setting.move_count.Goals as goal

pub recount-requires-clause-may : goal.recount-requires-clause-may
recount-requires-clause-may g c s at = tt

pub recount-requires-in-Ok-true-clause-holds : goal.recount-requires-in-Ok-true-clause-holds
recount-requires-in-Ok-true-clause-holds g c = holds_after (as_described c.args.desc.now) 1 c.args.over.now c.recount.new.over c.in-Ok-true.ensures.writes c.requires.holds

pub returns-in-Err : goal.returns-in-Err
returns-in-Err g c =
    takes_err (as_described c.args.desc.now) (count_steps c.args.set c.args.old Uncounted) _ 1 2 c.in-Err.e c.args.over.now c.recount.new.over (omega arith) c.in-Err.ensures

pub returns-in-Ok-false : goal.returns-in-Ok-false
returns-in-Ok-false g c =
    let desc = as_described c.args.desc.now in
    let xs = count_steps c.args.set c.args.old Uncounted in
    let a = c.args.over.now in
    let b = c.recount.new.over in
    takes_off desc xs (count_steps c.args.set c.args.to Counted) 1 2 a b (omega arith) (subst (λ (z : Bool). TakesSteps desc xs 1 (Ok z) a b) c.in-Ok-false.field-0-test c.in-Ok-false.ensures)

pub returns-in-Ok-true : goal.returns-in-Ok-true
returns-in-Ok-true g c =
    let desc = as_described c.args.desc.now in
    let xs = count_steps c.args.set c.args.old Uncounted in
    let a = c.args.over.now in
    let b = c.recount.new.over in
    takes_then desc xs (count_steps c.args.set c.args.to Counted) 1 1 2 c.recount-in-Ok-true.result a b c.recount-in-Ok-true.new.over g.met.B.Blocks.same_then (omega arith)
    (subst (λ (z : Bool). TakesSteps desc xs 1 (Ok z) a b) c.in-Ok-true.field-0-test c.in-Ok-true.ensures) c.recount-in-Ok-true.ensures
