use Rattle.std.proofs.Common.{ℕ, ◌+◌, sym, subst, arith, Vec, Global}
use Rattle.std.specs.BTreeSet.{BTreeSet}
use Rattle.dms_restore.specs.declared.told.Told.{Told}
use Rattle.dms_restore.proofs.Replayed.{ReplaysSoFar, replays_more, replays_idle, entry_fault, replay_tells, replay_some, replay_whole}
use Rattle.dms_restore.proofs.replaying.replayed_from.Goals as goal
use Rattle.dms_restore.proofs.replaying.replayed_from.Goals.{then-from-i+in-Ok-true, else-from-i}

pub returns-in-Err-clause-only : goal.returns-in-Err-clause-only
returns-in-Err-clause-only c = entry_fault c.args.front.now c.loop-i.i c.in-Err.fault c.loop-i-test.true c.in-Err.ensures.only

pub loop-i-preserved : goal.loop-i-preserved
loop-i-preserved c =
    let front = c.args.front.now in
    let from = c.args.from in
    let i = c.loop-i.i in
    elim c.if-from-i.branch [
      | then-from-i+in-Ok-true w ↦
          subst (λ (m : BTreeSet (ℕ × ℕ)). ReplaysSoFar front from (i + 1) m c.if-from-i.table.items) (sym w.imaged-is)
          (subst (λ (t : Vec Told Global). ReplaysSoFar front from (i + 1) w.replay_one.new.imaged t.items) (sym w.table-is)
          (replays_more front from i c.loop-i.imaged w.replay_one.new.imaged c.loop-i.table.items w.replay_one.new.table.items c.loop-i-test.true w.if-from-i.true c.loop-i.invariant (w.in-Ok-true.ensures.replays w.in-Ok-true.field-0-test)))
      | else-from-i w ↦
          subst (λ (m : BTreeSet (ℕ × ℕ)). ReplaysSoFar front from (i + 1) m c.if-from-i.table.items) (sym w.imaged-is)
          (subst (λ (t : Vec Told Global). ReplaysSoFar front from (i + 1) c.loop-i.imaged t.items) (sym w.table-is) (replays_idle front from i c.loop-i.imaged c.loop-i.table.items c.loop-i-test.true w.if-from-i.false c.loop-i.invariant))
    ]

pub returns-clause-whole : goal.returns-clause-whole
returns-clause-whole c files all = replay_whole files c.args.front.now c.loop-i.table.items all c.loop-i.invariant.among

pub returns-clause-tells : goal.returns-clause-tells
returns-clause-tells c = replay_tells c.args.front.now c.args.from c.loop-i.i c.loop-i.imaged c.loop-i.table.items (omega (arith, c.loop-i-test.false)) c.loop-i.invariant

pub returns-clause-among : goal.returns-clause-among
returns-clause-among c = replay_some c.args.front.now c.args.from c.loop-i.i c.loop-i.imaged c.loop-i.table.items (omega (arith, c.loop-i-test.false)) c.loop-i.invariant
