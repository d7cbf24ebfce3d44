use Rattle.std.proofs.Common.{Bool, subst, Ok}
use Rattle.dms_desc.specs.Shape.{as_described}
use Rattle.dms_removal.specs.Promises.{TellsUse}
use Rattle.dms_removal.specs.Removing.{goes_unused, stays_used, use_failed}
use Rattle.dms_spelling.specs.Ready.{ready_since}
use Rattle.dms_removal.proofs.removing.remove.Goals as goal

pub remove_unused-requires-clause-ready : goal.remove_unused-requires-clause-ready
remove_unused-requires-clause-ready g c = ready_since (as_described c.args.desc.now) c.args.over.now c.in_use.new.over c.in-Ok-false.ensures.writes.writes.looks c.requires.ready

pub returns-in-Err : goal.returns-in-Err
returns-in-Err g c = use_failed (as_described c.args.desc.now) c.args.set c.args.number c.in-Err.e c.args.over.now c.in_use.new.over c.in-Err.ensures

pub returns-in-Ok-true : goal.returns-in-Ok-true
returns-in-Ok-true g c =
    let desc = as_described c.args.desc.now in
    stays_used desc c.args.set c.args.number c.args.over.now c.in_use.new.over c.requires.none (subst (λ (z : Bool). TellsUse desc c.args.set c.args.number (Ok z) c.args.over.now c.in_use.new.over) c.in-Ok-true.field-0-test c.in-Ok-true.ensures)

pub returns-in-Ok-false : goal.returns-in-Ok-false
returns-in-Ok-false g c =
    let desc = as_described c.args.desc.now in
    goes_unused desc c.args.set c.args.number c.remove_unused.result c.args.over.now c.in_use.new.over c.remove_unused.new.over g.met.B.Blocks.same_then c.requires.none
    (subst (λ (z : Bool). TellsUse desc c.args.set c.args.number (Ok z) c.args.over.now c.in_use.new.over) c.in-Ok-false.field-0-test c.in-Ok-false.ensures) c.remove_unused.ensures
