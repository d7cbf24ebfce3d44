use Rattle.std.proofs.Common.{refl, ◌∙◌}
use Rattle.dms_wal.specs.Database.{running_held}
use Rattle.dms_online.specs.OnlineLaws.{dump_kept}
use Rattle.dms_online.specs.Onlines.{IsOnlineUsable}
use Rattle.std.proofs.lemmas.Result.{on_ok_weaker}
use Rattle.dms_block.specs.Held.{MadeDurable}
use Rattle.dms_wal.proofs.Fulls.{due_full, full_by}
use Rattle.dms_online.proofs.Keeps.{online_durable}
use Rattle.dms_online.proofs.Sounds.{causes_with, durable_with, passes_with}
use Rattle.dms_online.specs.contracts.dump_site.DumpSiteSite as contracts
use Rattle.dms_online.proofs.blocks.OnlineBlocks.sync.Goals as goal

pub returns-clause-made : goal.returns-clause-made
returns-clause-made g c =
    let d = contracts.TheImpl.ghosts g.row.S g.S.Site g.S.Site-dict in
    let o = c.args.self.now in
    let b = c.sync.new.self in
    on_ok_weaker c.sync.result (λ (made : MadeDurable (running_held d o.running) (running_held d b)). durable_with (IsOnlineUsable d g.S.Site o) (IsOnlineUsable d g.S.Site (record o { running = b })) (running_held d o.running) (running_held d b) (online_durable d g.S.Site (λ tells. tells) o b c.requires c.sync.ensures.same c.sync.ensures.passes.next made) made) c.sync.ensures.made

pub returns-clause-passes : goal.returns-clause-passes
returns-clause-passes g c =
    let d = contracts.TheImpl.ghosts g.row.S g.S.Site g.S.Site-dict in
    let o = c.args.self.now in
    let b = c.sync.new.self in
    passes_with (IsOnlineUsable d g.S.Site o) (IsOnlineUsable d g.S.Site (record o { running = b })) (running_held d o.running) (running_held d b) c.sync.ensures.passes

pub returns-clause-causes : goal.returns-clause-causes
returns-clause-causes g c =
    let d = contracts.TheImpl.ghosts g.row.S g.S.Site g.S.Site-dict in
    let o = c.args.self.now in
    let b = c.sync.new.self in
    causes_with (IsOnlineUsable d g.S.Site o) (IsOnlineUsable d g.S.Site (record o { running = b })) (running_held d o.running) (running_held d b) c.sync.result c.sync.ensures.causes

pub returns-clause-full : goal.returns-clause-full
returns-clause-full g c = full_by c.sync.result _ (λ f is. (c.sync.ensures.full f is).0 ∙ c.sync.ensures.pace.limit)

pub returns-clause-due : goal.returns-clause-due
returns-clause-due g c = due_full c.sync.result _ _ c.sync.ensures.only

pub returns-clause-same : goal.returns-clause-same
returns-clause-same g c =
    let e = c.sync.ensures in
    record { dump = dump_kept g.S.Site c.args.self.now.running.log.site c.sync.new.self.log.site e.same; pace = e.pace; grows = e.grows; plan = refl }
