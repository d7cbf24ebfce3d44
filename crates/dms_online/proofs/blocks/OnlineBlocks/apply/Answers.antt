use Rattle.std.proofs.Common.{refl, ◌∙◌}
use Rattle.dms_wal.specs.AgreeLaws.{agrees}
use Rattle.dms_wal.specs.Database.{running_held}
use Rattle.dms_online.specs.OnlineLaws.{dump_kept}
use Rattle.dms_online.specs.Onlines.{IsOnlineUsable}
use Rattle.dms_wal.proofs.Fulls.{full_by}
use Rattle.dms_online.proofs.Keeps.{online_changed, online_stays}
use Rattle.dms_online.proofs.Sounds.{altered_sound, alters_with, causes_with}
use Rattle.std.proofs.Common.{length}
use Rattle.dms_online.specs.contracts.dump_site.DumpSiteSite as contracts
use Rattle.dms_online.proofs.blocks.OnlineBlocks.apply.Goals as goal

pub returns-clause-alters : goal.returns-clause-alters
returns-clause-alters g c =
    let d = contracts.TheImpl.ghosts g.row.S g.S.Site g.S.Site-dict in
    let o = c.args.self.now in
    let b = c.apply.new.self in
    let m = g.met.S.Site in
    let l = c.apply.ensures.alters in
    let agree = agrees {g = d} (λ s tells. m.may_stay s.site tells) (λ s x tells now. m.now_said s.site x tells now) o.running c.requires.sound.usable in
    let changes = c.args.changes.now.items.items in
    alters_with (IsOnlineUsable d g.S.Site o) (IsOnlineUsable d g.S.Site (record o { running = b })) (running_held d o.running) (running_held d b) 0 (length changes) c.apply.result
    (altered_sound c.apply.result c.apply.ensures.content l.memory l.stays
    (λ content stays. online_changed d g.S.Site (λ tells. tells) o b c.requires.sound c.apply.ensures.same changes agree c.requires.fits l.passes.next content stays)
    (λ same stays. online_stays d g.S.Site (λ tells. tells) o b c.requires.sound c.apply.ensures.same l.passes.next stays same)) l

pub returns-clause-causes : goal.returns-clause-causes
returns-clause-causes g c =
    let d = contracts.TheImpl.ghosts g.row.S g.S.Site g.S.Site-dict in
    let o = c.args.self.now in
    let b = c.apply.new.self in
    causes_with (IsOnlineUsable d g.S.Site o) (IsOnlineUsable d g.S.Site (record o { running = b })) (running_held d o.running) (running_held d b) c.apply.result c.apply.ensures.causes

pub returns-clause-full : goal.returns-clause-full
returns-clause-full g c = full_by c.apply.result _ (λ f is. (c.apply.ensures.full f is).0 ∙ c.apply.ensures.pace.limit)

pub returns-clause-same : goal.returns-clause-same
returns-clause-same g c =
    let e = c.apply.ensures in
    record { dump = dump_kept g.S.Site c.args.self.now.running.log.site c.apply.new.self.log.site e.same; pace = e.pace; grows = e.grows; plan = refl }
