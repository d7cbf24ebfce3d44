use Rattle.std.proofs.Common.{refl, sym}
use Rattle.dms_memblocks.specs.Undoing.{rows}
use Rattle.dms_memblocks.specs.UndoLaws.{points-length}
use Rattle.dms_memblocks.proofs.blocks.MemBlocksBlocks.sync.Goals as goal

pub returns-clause-made : goal.returns-clause-made
returns-clause-made c = record {
  sound = tt;
  same = record { counts = refl; content = λ t. refl };
  mark = λ t. refl;
  points = λ t room. refl;
  durable = λ t room. sym (points-length c.args.self.now.schema (rows c.args.self.now.files.items) c.args.self.now.log.items c.args.self.now.made);
}
