use Rattle.std.proofs.Common.{◌≡◌, suc, ◌+◌, ◌-◌, ◌≤◌, ◌<◌, length, arith}
use Rattle.dms_tree.specs.Neighbours.{mate_before, mate_behind}
use Rattle.dms_tree.proofs.neighbours.mate_number.Goals as goal

pub returns-then-step-eq0 : goal.returns-then-step-eq0
returns-then-step-eq0 c =
    let p = c.args.step.now in
    mate_behind p.inner.kids.items p.taken c.index.result.now (omega (arith, c.if-step-eq0.true)) (omega (arith, c.requires.more, c.requires.some)) c.index.ensures

pub returns : goal.returns
returns c =
    let p = c.args.step.now in
    mate_before p.inner.kids.items p.taken (p.taken - 1) c.index-2.result.now (omega (arith, c.if-step-eq0.false)) (omega (arith, c.if-step-eq0.false, c.requires.more, c.requires.fit)) c.index-2.ensures
