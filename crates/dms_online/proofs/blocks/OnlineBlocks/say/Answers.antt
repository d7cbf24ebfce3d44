use Rattle.std.proofs.Common.{refl}
use Rattle.dms_wal.specs.Database.{running_held}
use Rattle.dms_online.specs.OnlineLaws.{dump_kept}
use Rattle.dms_online.specs.Onlines.{IsOnlineUsable}
use Rattle.std.proofs.lemmas.Result.{on_ok_weaker}
use Rattle.dms_block.specs.Held.{SameBlocks}
use Rattle.dms_restore.proofs.Results.{both_ok}
use Rattle.dms_online.proofs.Keeps.{online_stays}
use Rattle.dms_online.proofs.Sounds.{causes_with, lasts_with, same_with, stays_with}
use Rattle.dms_online.specs.contracts.dump_site.DumpSiteSite as contracts
use Rattle.dms_online.proofs.blocks.OnlineBlocks.say.Goals as goal

pub returns-clause-stays : goal.returns-clause-stays
returns-clause-stays g c =
    let d = contracts.TheImpl.ghosts g.row.S g.S.Site g.S.Site-dict in
    let o = c.args.self.now in
    let b = c.say.new.self in
    both_ok c.say.result c.say.ensures.stays c.say.ensures.unchanged
    (λ stays same. stays_with (IsOnlineUsable d g.S.Site o) (IsOnlineUsable d g.S.Site (record o { running = b })) (running_held d o.running) (running_held d b) (online_stays d g.S.Site (λ tells. tells) o b c.requires c.say.ensures.same c.say.ensures.next stays same) stays)

pub returns-clause-unchanged : goal.returns-clause-unchanged
returns-clause-unchanged g c =
    let d = contracts.TheImpl.ghosts g.row.S g.S.Site g.S.Site-dict in
    let o = c.args.self.now in
    let b = c.say.new.self in
    on_ok_weaker c.say.result (λ (same : SameBlocks (running_held d o.running) (running_held d b)). same_with (IsOnlineUsable d g.S.Site o) (IsOnlineUsable d g.S.Site (record o { running = b })) (running_held d o.running) (running_held d b) same) c.say.ensures.unchanged

pub returns-clause-lasts : goal.returns-clause-lasts
returns-clause-lasts g c =
    let d = contracts.TheImpl.ghosts g.row.S g.S.Site g.S.Site-dict in
    let o = c.args.self.now in
    let b = c.say.new.self in
    lasts_with (IsOnlineUsable d g.S.Site o) (IsOnlineUsable d g.S.Site (record o { running = b })) (running_held d o.running) (running_held d b) c.say.ensures.lasts

pub returns-clause-causes : goal.returns-clause-causes
returns-clause-causes g c =
    let d = contracts.TheImpl.ghosts g.row.S g.S.Site g.S.Site-dict in
    let o = c.args.self.now in
    let b = c.say.new.self in
    causes_with (IsOnlineUsable d g.S.Site o) (IsOnlineUsable d g.S.Site (record o { running = b })) (running_held d o.running) (running_held d b) c.say.result c.say.ensures.causes

pub returns-clause-same : goal.returns-clause-same
returns-clause-same g c =
    let e = c.say.ensures in
    record { dump = dump_kept g.S.Site c.args.self.now.running.log.site c.say.new.self.log.site e.same; pace = e.pace; grows = e.grows; plan = refl }
