use Rattle.std.proofs.Common.{refl}
use Rattle.dms_wal.specs.Database.{running_held}
use Rattle.dms_online.specs.OnlineLaws.{dump_kept}
use Rattle.dms_online.specs.Onlines.{IsOnlineUsable}
use Rattle.dms_online.proofs.Keeps.{online_stays}
use Rattle.dms_online.proofs.Sounds.{both_unbroken, causes_with, looks_with}
use Rattle.dms_online.specs.contracts.dump_site.DumpSiteSite as contracts
use Rattle.dms_online.proofs.blocks.OnlineBlocks.read.Goals as goal

pub returns-clause-looks : goal.returns-clause-looks
returns-clause-looks g c =
    let d = contracts.TheImpl.ghosts g.row.S g.S.Site g.S.Site-dict in
    let o = c.args.self.now in
    let b = c.read.new.self in
    let l = c.read.ensures.looks in
    looks_with (IsOnlineUsable d g.S.Site o) (IsOnlineUsable d g.S.Site (record o { running = b })) (running_held d o.running) (running_held d b) 1 c.read.result
    (both_unbroken c.read.result l.stays l.same (λ stays same. online_stays d g.S.Site (λ tells. tells) o b c.requires.sound c.read.ensures.same l.passes.next stays same)) l

pub returns-clause-causes : goal.returns-clause-causes
returns-clause-causes g c =
    let d = contracts.TheImpl.ghosts g.row.S g.S.Site g.S.Site-dict in
    let o = c.args.self.now in
    let b = c.read.new.self in
    causes_with (IsOnlineUsable d g.S.Site o) (IsOnlineUsable d g.S.Site (record o { running = b })) (running_held d o.running) (running_held d b) c.read.result c.read.ensures.causes

pub returns-clause-same : goal.returns-clause-same
returns-clause-same g c =
    let e = c.read.ensures in
    record { dump = dump_kept g.S.Site c.args.self.now.running.log.site c.read.new.self.log.site e.same; pace = e.pace; grows = e.grows; plan = refl }
