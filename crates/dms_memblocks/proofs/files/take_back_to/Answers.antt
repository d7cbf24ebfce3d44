use Rattle.std.proofs.Common.{◌-◌, ◌+◌, ◌≡◌, ◌∙◌, ap, length, arith}
use Rattle.dms_memblocks.specs.Undoing.{rows, undo, undo_all}
use Rattle.dms_memblocks.proofs.Rows.{back_end, back_step}
use Rattle.dms_memblocks.proofs.files.take_back_to.Goals as goal

pub loop-log-preserved : goal.loop-log-preserved
loop-log-preserved c =
    let was = c.loop-log.invariant in
    let is : (c.len-last.result - 1) + 1 ≡ length c.loop-log.log.items = omega (arith, c.len-last.ensures, c.len.ensures, c.loop-log-test.true) in
    let step = back_step c.args.log.now.items c.loop-log.log.items c.truncate.new.self.items (rows c.args.files.now.items) (rows c.loop-log.files.items) (rows c.take_back.new.files.items) c.index.result.now (c.len-last.result - 1)
    is was.log was.files c.truncate.ensures.items (c.take_back.ensures ∙ ap (λ u. undo u (rows c.loop-log.files.items)) c.index.ensures) in
    record { log = step.0; files = step.1; enough = omega (arith, step.2, is, c.loop-log-test.true, c.len.ensures) }

pub returns : goal.returns
returns c =
    let was = c.loop-log.invariant in
    let end = back_end c.args.log.now.items c.loop-log.log.items c.args.n was.log was.enough (omega (arith, c.loop-log-test.false, c.len.ensures)) in
    record { files = was.files ∙ ap (λ l. undo_all l (rows c.args.files.now.items)) end.1; log = was.log ∙ end.0 }
