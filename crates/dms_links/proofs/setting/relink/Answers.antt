use Rattle.std.proofs.Common.{◌≡◌, ◌+◌, ◌≤◌, [], ◌∷◌, Bool, subst, arith}
use Rattle.std.specs.declared.result.Result.TheVariants.{Ok, Err}
use Rattle.dms_desc.specs.Shape.{as_described}
use Rattle.dms_links.specs.Setting.{link_step, moved_steps}
use Rattle.dms_links.specs.Stepping.{SlotStep}
use Rattle.dms_links.specs.Taking.{TakesSteps, holds_after, sound_after, takes_err, takes_off, takes_one, takes_then}
use Rattle.dms_links.proofs.setting.relink.Goals as goal

pub alter_in-requires-clause-sound : goal.alter_in-requires-clause-sound
alter_in-requires-clause-sound g c = sound_after (as_described c.args.desc.now) 2 c.args.over.now c.move_count.new.over c.in-Ok-true.ensures.writes

pub alter_in-requires-clause-holds : goal.alter_in-requires-clause-holds
alter_in-requires-clause-holds g c = holds_after (as_described c.args.desc.now) 2 c.args.over.now c.move_count.new.over c.in-Ok-true.ensures.writes c.requires.holds c.args.set

pub returns-in-Err : goal.returns-in-Err
returns-in-Err g c =
    takes_err (as_described c.args.desc.now) (moved_steps c.args.counts c.args.old c.args.to) _ 2 3 c.in-Err.e c.args.over.now c.move_count.new.over (omega arith) c.in-Err.ensures

pub returns-in-Ok-false : goal.returns-in-Ok-false
returns-in-Ok-false g c =
    let desc = as_described c.args.desc.now in
    let xs = moved_steps c.args.counts c.args.old c.args.to in
    let a = c.args.over.now in
    let b = c.move_count.new.over in
    takes_off desc xs (link_step c.args.set c.args.number c.args.item c.args.to ∷ []) 2 3 a b (omega arith) (subst (λ (z : Bool). TakesSteps desc xs 2 (Ok z) a b) c.in-Ok-false.field-0-test c.in-Ok-false.ensures)

pub returns-in-Ok-true : goal.returns-in-Ok-true
returns-in-Ok-true g c =
    let desc = as_described c.args.desc.now in
    let xs = moved_steps c.args.counts c.args.old c.args.to in
    let x : SlotStep = link_step c.args.set c.args.number c.args.item c.args.to in
    let a = c.args.over.now in
    let b = c.move_count.new.over in
    let d = c.alter_in.new.over in
    takes_then desc xs (x ∷ []) 2 1 3 c.alter_in.result a b d g.met.B.Blocks.same_then (omega arith)
    (subst (λ (z : Bool). TakesSteps desc xs 2 (Ok z) a b) c.in-Ok-true.field-0-test c.in-Ok-true.ensures)
    (takes_one desc x c.alter_in.result b d c.alter_in.ensures.writes c.alter_in.ensures.altered c.alter_in.ensures.causes)
