use Rattle.std.proofs.Common.{◌+◌, refl, get_or, [], arith}
use Rattle.dms_block.specs.declared.change.Change.{Change}
use Rattle.dms_block.specs.Changing.{no_change_of}
use Rattle.dms_memblocks.specs.declared.undo.BlockUndo.{BlockUndo}
use Rattle.dms_memblocks.specs.Undoing.{old_in, place, rows}
use Rattle.dms_memblocks.specs.UndoLaws.{place_low, put_step}
use Rattle.dms_memblocks.proofs.Rows.{length_rows}
use Rattle.dms_memblocks.proofs.files.put_all.Goals as goal

pub put-requires : goal.put-requires
put-requires c =
    let low = place_low c.args.changes.now c.args.changes.now c.loop-change.change-index no_change_of (rows c.args.files.now.items) refl c.loop-change-test.true c.requires.fits in
    record { file = omega (arith, low, c.loop-change.invariant.many, length_rows c.loop-change.files.items) }

pub loop-change-preserved : goal.loop-change-preserved
loop-change-preserved c =
    let x : Change = get_or c.args.changes.now c.loop-change.change-index no_change_of in
    let entry : BlockUndo = record { point = c.args.made + 1; id = x.id; old = old_in x.id.block (get_or (rows c.loop-change.files.items) (place x.id.file) []) } in
    put_step c.args.made c.args.changes.now c.args.changes.now c.loop-change.change-index no_change_of (rows c.args.files.now.items) (rows c.loop-change.files.items) (rows c.put.new.files.items) c.args.log.now.items c.loop-change.log.items c.put.new.log.items entry
    refl c.loop-change-test.true c.requires.fits c.loop-change.invariant refl refl refl c.in_default.ensures.files c.in_default.ensures.log
