use Rattle.std.proofs.Common.{refl}
use Rattle.dms_block.specs.HeldLaws.{looks_none}
use Rattle.dms_pool.specs.Held.{frame_of}
use Rattle.dms_wal.specs.Database.{running_held}
use Rattle.dms_wal.specs.PaceLaws.{trail_none}
use Rattle.dms_wal.proofs.Fetched.{asked_block, no_frame}
use Rattle.dms_wal.proofs.running.Running.copy_block.Goals as goal

pub fetch-requires-clause-absent : goal.fetch-requires-clause-absent
fetch-requires-clause-absent g c = no_frame (frame_of c.args.id c.args.self.now.pool) c.in-None.ensures

pub returns-in-Some-clause-block : goal.returns-in-Some-clause-block
returns-in-Some-clause-block g c told = asked_block g.S.Site c.args.self.now c.requires.sound c.args.id c.in-Some.block c.in-Some.ensures told

pub returns-in-Some-clause-looks : goal.returns-in-Some-clause-looks
returns-in-Some-clause-looks g c = looks_none 0 _ (running_held g.S.Site c.args.self.now) tt c.requires.sound

pub returns-in-Some-clause-grown : goal.returns-in-Some-clause-grown
returns-in-Some-clause-grown g c = trail_none g.S.Site c.args.self.now
