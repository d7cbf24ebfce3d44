use Rattle.dms_block.specs.HeldLaws.{looks_none}
use Rattle.dms_pool.specs.Held.{frame_of}
use Rattle.dms_restore.specs.Views.{view_of}
use Rattle.dms_wal.specs.Database.{running_held}
use Rattle.dms_wal.specs.PaceLaws.{trail_none}
use Rattle.dms_wal.proofs.Fetched.{asked_block, no_frame}
use Rattle.dms_wal.proofs.Keeping.{tells_none}
use Rattle.dms_online.specs.contracts.dump_site.DumpSiteSite as contracts
use Rattle.dms_online.proofs.Looked.{same_none}
use Rattle.dms_online.proofs.look.look_at.Goals as goal

pub look_in_file-requires-clause-absent : goal.look_in_file-requires-clause-absent
look_in_file-requires-clause-absent g c = no_frame (frame_of c.args.id c.args.running.now.pool) c.in-None.ensures

pub returns-in-Some-clause-block : goal.returns-in-Some-clause-block
returns-in-Some-clause-block g c told = asked_block (contracts.TheImpl.ghosts g.row.S g.S.Site g.S.Site-dict) c.args.running.now c.requires.sound c.args.id c.in-Some.block c.in-Some.ensures told

pub returns-in-Some-clause-looks : goal.returns-in-Some-clause-looks
returns-in-Some-clause-looks g c = looks_none 0 _ (running_held (contracts.TheImpl.ghosts g.row.S g.S.Site g.S.Site-dict) c.args.running.now) tt c.requires.sound

pub returns-in-Some-clause-tells : goal.returns-in-Some-clause-tells
returns-in-Some-clause-tells g c tells = tells_none (view_of (contracts.TheImpl.ghosts g.row.S g.S.Site g.S.Site-dict) c.args.running.now.log)

pub returns-in-Some-clause-grown : goal.returns-in-Some-clause-grown
returns-in-Some-clause-grown g c = trail_none (contracts.TheImpl.ghosts g.row.S g.S.Site g.S.Site-dict) c.args.running.now

pub returns-in-Some-clause-moments : goal.returns-in-Some-clause-moments
returns-in-Some-clause-moments g c = same_none (g.S.Site.clock c.args.running.now.log.site.site)
