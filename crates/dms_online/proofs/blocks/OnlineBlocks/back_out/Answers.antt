use Rattle.std.proofs.Common.{refl}
use Rattle.dms_wal.specs.Database.{running_held}
use Rattle.dms_online.specs.OnlineLaws.{dump_kept}
use Rattle.dms_online.specs.Onlines.{IsOnlineUsable}
use Rattle.dms_restore.proofs.Results.{both_ok}
use Rattle.dms_wal.proofs.Fulls.{back_full}
use Rattle.dms_online.proofs.Keeps.{online_back}
use Rattle.dms_online.proofs.Sounds.{causes_with, passes_with, stays_with}
use Rattle.dms_online.specs.contracts.dump_site.DumpSiteSite as contracts
use Rattle.dms_online.proofs.blocks.OnlineBlocks.back_out.Goals as goal

pub returns-clause-stays : goal.returns-clause-stays
returns-clause-stays g c =
    let d = contracts.TheImpl.ghosts g.row.S g.S.Site g.S.Site-dict in
    let o = c.args.self.now in
    let b = c.back_out.new.self in
    both_ok c.back_out.result c.back_out.ensures.content c.back_out.ensures.stays
    (λ content stays. stays_with (IsOnlineUsable d g.S.Site o) (IsOnlineUsable d g.S.Site (record o { running = b })) (running_held d o.running) (running_held d b) (online_back d g.S.Site (λ tells. tells) o b c.requires c.back_out.ensures.same c.back_out.ensures.passes.next content stays) stays)

pub returns-clause-passes : goal.returns-clause-passes
returns-clause-passes g c =
    let d = contracts.TheImpl.ghosts g.row.S g.S.Site g.S.Site-dict in
    let o = c.args.self.now in
    let b = c.back_out.new.self in
    passes_with (IsOnlineUsable d g.S.Site o) (IsOnlineUsable d g.S.Site (record o { running = b })) (running_held d o.running) (running_held d b) c.back_out.ensures.passes

pub returns-clause-causes : goal.returns-clause-causes
returns-clause-causes g c =
    let d = contracts.TheImpl.ghosts g.row.S g.S.Site g.S.Site-dict in
    let o = c.args.self.now in
    let b = c.back_out.new.self in
    causes_with (IsOnlineUsable d g.S.Site o) (IsOnlineUsable d g.S.Site (record o { running = b })) (running_held d o.running) (running_held d b) c.back_out.result c.back_out.ensures.causes

pub returns-clause-full : goal.returns-clause-full
returns-clause-full g c = back_full c.back_out.result c.back_out.ensures.only

pub returns-clause-same : goal.returns-clause-same
returns-clause-same g c =
    let e = c.back_out.ensures in
    record { dump = dump_kept g.S.Site c.args.self.now.running.log.site c.back_out.new.self.log.site e.same; pace = e.pace; grows = e.grows; plan = refl }
