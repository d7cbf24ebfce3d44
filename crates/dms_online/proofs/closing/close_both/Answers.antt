use Rattle.std.proofs.Common.{ℕ, ◌∙◌, sym, subst, arith}
use Rattle.std.specs.declared.result.Result.TheVariants.{Err}
use Rattle.dms_block.specs.Held.{HasNextNumber}
use Rattle.dms_restore.proofs.Results.{one_if_err, one_if_ok}
use Rattle.dms_restore.specs.Views.{view_of}
use Rattle.dms_wal.specs.Database.{running_held}
use Rattle.dms_wal.specs.PaceLaws.{pace_kind}
use Rattle.dms_moments.specs.Moments.{Runs}
use Rattle.dms_wal.proofs.Grown.{ok_never}
use Rattle.dms_online.specs.Ending.{LeavesCopied}
use Rattle.dms_online.specs.OnlineLaws.{dump_kept}
use Rattle.dms_online.specs.contracts.dump_site.DumpSiteSite as contracts
use Rattle.dms_online.proofs.Closed.{back_fails, closes_back, closes_same, fails_back, fails_same}
use Rattle.dms_online.proofs.Copied.{copied_by}
use Rattle.dms_online.proofs.Dumped.{copied_shut, has_back, leaves_back, points_back, still_shut}
use Rattle.dms_online.proofs.Progress.{copying_back, ends_stays}
use Rattle.dms_online.proofs.closing.close_both.Goals as goal

pub close_copied-requires-clause-at_mark : goal.close_copied-requires-clause-at_mark
close_copied-requires-clause-at_mark g c tells = (c.requires.sound.unchanged c.if-not-running.true tells).content_is

pub close_copied-requires-in-Ok-clause-at_mark : goal.close_copied-requires-in-Ok-clause-at_mark
close_copied-requires-in-Ok-clause-at_mark g c tells = c.in-Ok.ensures.content tells ∙ sym (c.in-Ok.ensures.stays.mark tells)

pub close_copied-requires-in-Ok-clause-copied : goal.close_copied-requires-in-Ok-clause-copied
close_copied-requires-in-Ok-clause-copied g c =
    let d = contracts.TheImpl.ghosts g.row.S g.S.Site g.S.Site-dict in
    let r = c.args.running in
    let m = c.back_out.new.self in
    let a = running_held d r in
    let b = running_held d m in
    let copy = c.args.copy in
    let stays = c.in-Ok.ensures.stays in
    let next = c.back_out.ensures.passes.next in
    copied_by d g.S.Site (λ tells. tells) r m copy c.requires.copied c.back_out.ensures.same (omega (arith, next))
    (λ tells room. ends_stays copy.point a b tells tells room stays)
    (λ tells room body k. copying_back copy.point copy.counts.items copy.done body a b k tells tells room (c.in-Ok.ensures.content tells) stays (omega (arith, next)))

pub returns-then-not-running-clause-closes : goal.returns-then-not-running-clause-closes
returns-then-not-running-clause-closes g c =
    let d = contracts.TheImpl.ghosts g.row.S g.S.Site g.S.Site-dict in
    one_if_ok c.close_copied.result c.close_copied.ensures.closes (λ s k. closes_same d c.args.running s c.if-not-running.true c.requires.sound k)

pub returns-then-not-running-clause-fails : goal.returns-then-not-running-clause-fails
returns-then-not-running-clause-fails g c =
    let d = contracts.TheImpl.ghosts g.row.S g.S.Site g.S.Site-dict in
    one_if_err c.close_copied.result c.close_copied.ensures.fails (λ e k. fails_same d c.args.running e c.if-not-running.true k)

pub returns-in-Ok-clause-closes : goal.returns-in-Ok-clause-closes
returns-in-Ok-clause-closes g c =
    let d = contracts.TheImpl.ghosts g.row.S g.S.Site g.S.Site-dict in
    let e = c.back_out.ensures in
    let k = c.in-Ok.ensures in
    one_if_ok c.close_copied-in-Ok.result c.close_copied-in-Ok.ensures.closes (λ s x.
    closes_back d c.args.running c.back_out.new.self c.if-not-running.false e.pace (λ tells. k.few ok_never tells) e.grown e.passes k.stays k.causes s k.content k.counts (e.kept.0, e.kept.1, e.kept.2) k.back x)

pub returns-in-Ok-clause-fails : goal.returns-in-Ok-clause-fails
returns-in-Ok-clause-fails g c =
    let d = contracts.TheImpl.ghosts g.row.S g.S.Site g.S.Site-dict in
    let e = c.back_out.ensures in
    let k = c.in-Ok.ensures in
    one_if_err c.close_copied-in-Ok.result c.close_copied-in-Ok.ensures.fails (λ s x.
    fails_back d c.args.running c.back_out.new.self c.if-not-running.false e.pace (λ tells. k.few ok_never tells) e.grown e.passes k.stays k.causes s x)

pub returns-in-Ok-clause-dump : goal.returns-in-Ok-clause-dump
returns-in-Ok-clause-dump g c =
    let d = contracts.TheImpl.ghosts g.row.S g.S.Site g.S.Site-dict in
    let r = c.args.running in
    let m = c.back_out.new.self in
    let e = c.back_out.ensures in
    one_if_ok c.close_copied-in-Ok.result c.close_copied-in-Ok.ensures.dump (λ s x tells room.
    let later : HasNextNumber (running_held d m) = omega (arith, e.passes.next, room) in
    has_back (running_held d r) (running_held d m) c.args.copy r.point m.point r.log.site.file m.log.site.file (c.in-Ok.ensures.stays.points tells room).0 e.kept.2 e.same.file_same (g.S.Site.files s.site) (x tells later))

pub returns-in-Ok-clause-moments : goal.returns-in-Ok-clause-moments
returns-in-Ok-clause-moments g c =
    let d = contracts.TheImpl.ghosts g.row.S g.S.Site g.S.Site-dict in
    let r = c.args.running in
    let m = c.back_out.new.self in
    let e = c.back_out.ensures in
    one_if_ok c.close_copied-in-Ok.result c.close_copied-in-Ok.ensures.moments (λ s x tells room.
    let later : HasNextNumber (running_held d m) = omega (arith, e.passes.next, room) in
    let same = (c.in-Ok.ensures.stays.points tells room).0 in
    leaves_back (running_held d r) (running_held d m) c.args.copy r.point m.point r.log.site.file m.log.site.file same e.kept.2 e.same.file_same (view_of d r.log) (view_of d m.log) (pace_kind e.pace) (points_back _ _ same)
    (still_shut r.log.site.file ((dump_kept g.S.Site r.log.site m.log.site e.same).gate tells) (c.requires.copied.shut tells)) (x tells later))

pub returns-in-Ok-clause-stopped : goal.returns-in-Ok-clause-stopped
returns-in-Ok-clause-stopped g c =
    let d = contracts.TheImpl.ghosts g.row.S g.S.Site g.S.Site-dict in
    let r = c.args.running in
    let m = c.back_out.new.self in
    let e = c.back_out.ensures in
    one_if_err c.close_copied-in-Ok.result c.close_copied-in-Ok.ensures.stopped (λ s x tells room.
    let later : HasNextNumber (running_held d m) = omega (arith, e.passes.next, room) in
    let same = (c.in-Ok.ensures.stays.points tells room).0 in
    leaves_back (running_held d r) (running_held d m) c.args.copy r.point m.point r.log.site.file m.log.site.file same e.kept.2 e.same.file_same (view_of d r.log) (view_of d m.log) (pace_kind e.pace) (points_back _ _ same)
    (still_shut r.log.site.file ((dump_kept g.S.Site r.log.site m.log.site e.same).gate tells) (c.requires.copied.shut tells)) (x tells later))

pub returns-in-Ok-clause-same : goal.returns-in-Ok-clause-same
returns-in-Ok-clause-same g c = one_if_ok c.close_copied-in-Ok.result c.close_copied-in-Ok.ensures.same (λ s x. g.met.S.Site.same_then _ _ _ c.back_out.ensures.same.same x)

pub returns-in-Ok-clause-same_then : goal.returns-in-Ok-clause-same_then
returns-in-Ok-clause-same_then g c = one_if_err c.close_copied-in-Ok.result c.close_copied-in-Ok.ensures.same_then (λ s x. g.met.S.Site.same_then _ _ _ c.back_out.ensures.same.same x)

pub returns-in-Err-clause-fails : goal.returns-in-Err-clause-fails
returns-in-Err-clause-fails g c =
    let d = contracts.TheImpl.ghosts g.row.S g.S.Site g.S.Site-dict in
    let e = c.back_out.ensures in
    let k = c.in-Err.ensures in
    back_fails d c.args.running c.back_out.new.self c.in-Err.fault c.into_site.result c.into_site.ensures c.if-not-running.false k.only e.pace e.passes
    (λ is. (k.full (λ i. Err (is i))).1) (λ is. k.ends (λ i. Err (is i))) e.grown k.causes

pub returns-in-Err-clause-stopped : goal.returns-in-Err-clause-stopped
returns-in-Err-clause-stopped g c tells room =
    let d = contracts.TheImpl.ghosts g.row.S g.S.Site g.S.Site-dict in
    let r = c.args.running in
    let m = c.back_out.new.self in
    subst (λ (x : _). Runs (g.S.Site.clock r.log.site.site) (g.S.Site.clock x.site) (LeavesCopied (running_held d r) (view_of d r.log) c.args.copy r.point r.log.site.file)) (sym c.into_site.ensures)
    (copied_shut (running_held d r) (view_of d r.log) c.args.copy r.point r.log.site.file (still_shut r.log.site.file ((dump_kept g.S.Site r.log.site m.log.site c.back_out.ensures.same).gate tells) (c.requires.copied.shut tells)))
