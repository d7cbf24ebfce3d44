use Rattle.std.proofs.Common.{sym, arith}
use Rattle.dms_memblocks.proofs.Rows.{old_high}
use Rattle.dms_memblocks.proofs.undo.old_of.Goals as goal

pub returns : goal.returns
returns c = sym (old_high c.args.at c.args.blocks.now (omega (arith, c.if-at-blocks.false)))
