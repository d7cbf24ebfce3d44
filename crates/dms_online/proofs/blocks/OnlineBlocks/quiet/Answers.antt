use Rattle.std.proofs.Common.{ℕ, refl, arith}
use Rattle.std.specs.declared.result.Result.TheVariants.{Err}
use Rattle.dms_block.specs.Held.{HasNextNumber}
use Rattle.dms_block.specs.HeldLaws.{causes_on}
use Rattle.dms_wal.specs.AgreeLaws.{agrees}
use Rattle.dms_wal.specs.Database.{running_held}
use Rattle.dms_wal.specs.PaceLaws.{grows_on, pace_on}
use Rattle.dms_wal.proofs.Fulls.{full_by}
use Rattle.dms_online.specs.OnlineLaws.{dump_kept, dump_then}
use Rattle.dms_online.specs.Onlines.{IsOnlineUsable}
use Rattle.dms_online.specs.contracts.dump_site.DumpSiteSite as contracts
use Rattle.dms_online.proofs.Keeps.{quiet_copied, quiet_leaves, quiet_now, quiet_then, up_last, up_quiet}
use Rattle.dms_online.proofs.Sounds.{causes_with, same_with}
use Rattle.dms_online.proofs.blocks.OnlineBlocks.quiet.Goals as goal

pub returns-in-Err-clause-no_point : goal.returns-in-Err-clause-no_point
returns-in-Err-clause-no_point g c = full_by {T = ℕ} (Err c.in-Err.fault) _ c.in-Err.ensures.no_point

pub returns-in-Err-clause-same : goal.returns-in-Err-clause-same
returns-in-Err-clause-same g c =
    let e = c.quiet.ensures in
    record { dump = dump_kept g.S.Site c.args.self.now.running.log.site c.quiet.new.self.log.site e.same; pace = e.pace; grows = e.grows; plan = refl }

pub returns-then-self-clause-same : goal.returns-then-self-clause-same
returns-then-self-clause-same g c =
    let e = c.quiet.ensures in
    record { dump = dump_kept g.S.Site c.args.self.now.running.log.site c.quiet.new.self.log.site e.same; pace = e.pace; grows = e.grows; plan = refl }

pub returns-then-self-clause-made : goal.returns-then-self-clause-made
returns-then-self-clause-made g c =
    let d = contracts.TheImpl.ghosts g.row.S g.S.Site g.S.Site-dict in
    let m = g.met.S.Site in
    let o = c.args.self.now in
    let b = c.quiet.new.self in
    let e = c.quiet.ensures in
    let made = c.in-Ok.ensures.made in
    let agree = agrees {g = d} (λ s tells. m.may_stay s.site tells) (λ s x tells now. m.now_said s.site x tells now) o.running c.requires.usable in
    record {
      sound = record {
        usable = made.sound;
        copied = quiet_copied d g.S.Site (λ tells. tells) o b c.requires e.same agree made e.not_fallen;
        up = up_last o.running b o.copy e.not_fallen (λ room. absurd (omega (arith, room, c.if-self.true))) c.requires.up;
      };
      next = made.next;
      same = λ room. same_with (IsOnlineUsable d g.S.Site o) (IsOnlineUsable d g.S.Site (record o { running = b })) (running_held d o.running) (running_held d b) (made.same room);
      mark = made.mark;
      points = made.points;
    }

pub copy_on-requires-clause-copied : goal.copy_on-requires-clause-copied
copy_on-requires-clause-copied g c =
    let d = contracts.TheImpl.ghosts g.row.S g.S.Site g.S.Site-dict in
    let m = g.met.S.Site in
    let o = c.args.self.now in
    let agree = agrees {g = d} (λ s tells. m.may_stay s.site tells) (λ s x tells now. m.now_said s.site x tells now) o.running c.requires.usable in
    quiet_copied d g.S.Site (λ tells. tells) o c.quiet.new.self c.requires c.quiet.ensures.same agree c.in-Ok.ensures.made c.quiet.ensures.not_fallen

pub returns-in-Ok-copy_on-clause-made : goal.returns-in-Ok-copy_on-clause-made
returns-in-Ok-copy_on-clause-made g c =
    let d = contracts.TheImpl.ghosts g.row.S g.S.Site g.S.Site-dict in
    let m = g.met.S.Site in
    let o = c.args.self.now in
    let b = c.quiet.new.self in
    let p = c.copy_on.new.self in
    let e = c.quiet.ensures in
    let made = c.in-Ok.ensures.made in
    let room = c.in-Ok.ensures.numbered in
    let later : HasNextNumber (running_held d b) = omega (arith, e.one_number, room, c.if-self.false) in
    let k = c.in-Ok-copy_on.ensures in
    let agree = agrees {g = d} (λ s tells. m.may_stay s.site tells) (λ s x tells now. m.now_said s.site x tells now) o.running c.requires.usable in
    let q = quiet_then (running_held d o.running) (running_held d b) (running_held d p.running) made e.lasts room later k.beside.passes k.beside.stays k.beside.unchanged in
    record {
      sound = record {
        usable = q.sound;
        copied = k.copied (quiet_now d g.S.Site (λ tells. tells) o b c.requires e.same agree made room);
        up = up_quiet o.running p.running o.copy p.copy room (q.next room) c.requires.up k.up;
      };
      next = q.next;
      same = λ r. same_with (IsOnlineUsable d g.S.Site o) (IsOnlineUsable d g.S.Site p) (running_held d o.running) (running_held d p.running) (q.same r);
      mark = q.mark;
      points = q.points;
    }

pub returns-in-Ok-copy_on-clause-leaves : goal.returns-in-Ok-copy_on-clause-leaves
returns-in-Ok-copy_on-clause-leaves g c =
    let d = contracts.TheImpl.ghosts g.row.S g.S.Site g.S.Site-dict in
    let e = c.quiet.ensures in
    let room = c.in-Ok.ensures.numbered in
    let later : HasNextNumber (running_held d c.quiet.new.self) = omega (arith, e.one_number, room, c.if-self.false) in
    quiet_leaves (running_held d c.args.self.now.running) (running_held d c.quiet.new.self) (running_held d c.copy_on.new.self.running) c.in-Ok.ensures.made e.lasts room later c.copy_on.ensures.beside.passes e.said e.leaves

pub returns-in-Err-copy_on-clause-leaves : goal.returns-in-Err-copy_on-clause-leaves
returns-in-Err-copy_on-clause-leaves g c =
    let d = contracts.TheImpl.ghosts g.row.S g.S.Site g.S.Site-dict in
    let e = c.quiet.ensures in
    let room = c.in-Ok.ensures.numbered in
    let later : HasNextNumber (running_held d c.quiet.new.self) = omega (arith, e.one_number, room, c.if-self.false) in
    quiet_leaves (running_held d c.args.self.now.running) (running_held d c.quiet.new.self) (running_held d c.copy_on.new.self.running) c.in-Ok.ensures.made e.lasts room later c.copy_on.ensures.beside.passes e.said e.leaves

pub returns-in-Err-copy_on-clause-causes : goal.returns-in-Err-copy_on-clause-causes
returns-in-Err-copy_on-clause-causes g c =
    let d = contracts.TheImpl.ghosts g.row.S g.S.Site g.S.Site-dict in
    let o = c.args.self.now in
    let b = c.quiet.new.self in
    let p = c.copy_on.new.self in
    let i = c.in-Ok.ensures in
    causes_with (IsOnlineUsable d g.S.Site o) (IsOnlineUsable d g.S.Site p) (running_held d o.running) (running_held d p.running) {T = ℕ} (Err c.in-Err-copy_on.fault)
    (causes_on {T = ℕ} (Err c.in-Err-copy_on.fault) (running_held d o.running) (running_held d b) (running_held d p.running) i.causes c.quiet.ensures.lasts (i.made.same i.numbered) c.in-Err-copy_on.ensures.beside.causes)

pub returns-in-Ok-copy_on-clause-same : goal.returns-in-Ok-copy_on-clause-same
returns-in-Ok-copy_on-clause-same g c =
    let e = c.quiet.ensures in
    let k = c.copy_on.ensures in
    let site = c.args.self.now.running.log.site in
    record {
      dump = dump_then g.S.Site g.met.S.Site.same_then site c.quiet.new.self.log.site c.copy_on.new.self.running.log.site (dump_kept g.S.Site site c.quiet.new.self.log.site e.same) k.dump;
      pace = pace_on e.pace k.beside.kept.pace;
      grows = grows_on e.pace e.grows k.beside.grows;
      plan = k.plan;
    }

pub returns-in-Err-copy_on-clause-same : goal.returns-in-Err-copy_on-clause-same
returns-in-Err-copy_on-clause-same g c =
    let e = c.quiet.ensures in
    let k = c.copy_on.ensures in
    let site = c.args.self.now.running.log.site in
    record {
      dump = dump_then g.S.Site g.met.S.Site.same_then site c.quiet.new.self.log.site c.copy_on.new.self.running.log.site (dump_kept g.S.Site site c.quiet.new.self.log.site e.same) k.dump;
      pace = pace_on e.pace k.beside.kept.pace;
      grows = grows_on e.pace e.grows k.beside.grows;
      plan = k.plan;
    }
