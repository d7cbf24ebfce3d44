use Rattle.std.proofs.Common.{◌<◌, length, arith}
use Rattle.dms_memblocks.specs.Undoing.{taken_back}
use Rattle.dms_memblocks.proofs.Rows.{set_with}
use Rattle.dms_memblocks.proofs.files.take_back.Goals as goal

pub returns-then-at-len : goal.returns-then-at-len
returns-then-at-len c =
    let low : c.place_of-at.result < length c.args.files.now.items = omega (arith, c.if-at-len.true, c.len.ensures) in
    set_with c.args.files.now.items c.place_of-at.result _ c.index_mut.result.now c.restore.new.blocks (λ l. taken_back c.args.entry.now.id.block c.args.entry.now.old l) c.place_of-at.ensures low c.index_mut.ensures.value c.restore.ensures
