use Rattle.std.proofs.Common.{ℕ, ◌∙◌, ap, refl, sym, subst, arith}
use Rattle.std.specs.declared.result.Result.TheVariants.{Err}
use Rattle.dms_block.specs.Held.{HasNextNumber}
use Rattle.dms_moments.specs.Moments.{Runs}
use Rattle.dms_restore.specs.Views.{view_of}
use Rattle.dms_wal.proofs.Lifts.{told_same}
use Rattle.dms_wal.proofs.Reaching.{usable_alike}
use Rattle.dms_wal.specs.Database.{running_held}
use Rattle.dms_wal.specs.PaceLaws.{pace_kind}
use Rattle.dms_online.specs.Ending.{IsDumpOf, LeavesCopied}
use Rattle.dms_online.specs.contracts.dump_site.DumpSiteSite as contracts
use Rattle.dms_online.proofs.Closed.{beside_closes, beside_fails, control_closes, control_fails, copy_fails}
use Rattle.dms_online.proofs.Dumped.{behind, copied_shut, dump_opened, dump_opens, here, seals_alike, still_shut}
use Rattle.dms_online.proofs.Gates.{shut_then}
use Rattle.dms_online.proofs.closing.close_copied.Goals as goal

pub seal_open-requires-clause-sound : goal.seal_open-requires-clause-sound
seal_open-requires-clause-sound g c =
    usable_alike (contracts.TheImpl.ghosts g.row.S g.S.Site g.S.Site-dict) c.finish.new.running _ (record { file = refl; total = refl; tag = refl; count = refl; used = refl; full = refl; block = refl; group = refl }) c.in-Ok.ensures.beside.stays.sound

pub seal_open-requires-clause-above : goal.seal_open-requires-clause-above
seal_open-requires-clause-above g c = omega (arith, c.requires.copied.above, c.finish.ensures.dump.file)

pub seal_open-requires-clause-below : goal.seal_open-requires-clause-below
seal_open-requires-clause-below g c = omega (arith, c.requires.copied.below, c.finish.ensures.dump.file)

pub seal_open-requires-clause-shut : goal.seal_open-requires-clause-shut
seal_open-requires-clause-shut g c tells =
    let a = c.args.running.log.site in
    let b = c.finish.new.running.log.site in
    let e = c.finish.ensures.dump in
    shut_then a.file b.file (g.S.Site.clock a.site) (g.S.Site.clock b.site) e.file (e.gate tells) (c.requires.copied.shut tells)

pub returns-in-Err-clause-fails : goal.returns-in-Err-clause-fails
returns-in-Err-clause-fails g c =
    let d = contracts.TheImpl.ghosts g.row.S g.S.Site g.S.Site-dict in
    copy_fails d (λ s tells. g.met.S.Site.may_stay s.site tells) c.args.running c.finish.new.running c.in-Err.fault c.into_site.result c.into_site.ensures c.requires.sound c.in-Err.ensures.beside

pub returns-in-Ok-seal_open-clause-closes : goal.returns-in-Ok-seal_open-clause-closes
returns-in-Ok-seal_open-clause-closes g c =
    let d = contracts.TheImpl.ghosts g.row.S g.S.Site g.S.Site-dict in
    let r = c.args.running in
    let m = c.finish.new.running in
    let e = c.seal_open.ensures in
    let k = c.in-Ok-seal_open.ensures in
    beside_closes d (λ s tells. g.met.S.Site.may_stay s.site tells) r m c.in-Ok.ensures.beside c.into_site-in-Ok-seal_open.result
    (control_closes d (λ s tells. g.met.S.Site.may_stay s.site tells) m _ (record { file = refl; total = refl; tag = refl; count = refl; used = refl; full = refl; block = refl; group = refl }) c.seal_open.new.running c.into_site-in-Ok-seal_open.result c.into_site-in-Ok-seal_open.ensures
    (told_same e.kind) e.kept.pace e.passes e.grown k.sound k.control k.causes)

pub returns-clause-fails : goal.returns-clause-fails
returns-clause-fails g c =
    let d = contracts.TheImpl.ghosts g.row.S g.S.Site g.S.Site-dict in
    let r = c.args.running in
    let m = c.finish.new.running in
    let e = c.seal_open.ensures in
    let k = c.in-Err-seal_open.ensures in
    beside_fails d (λ s tells. g.met.S.Site.may_stay s.site tells) r m c.in-Ok.ensures.beside (c.in-Err-seal_open.fault, c.into_site-in-Err-seal_open.result)
    (control_fails d (λ s tells. g.met.S.Site.may_stay s.site tells) m _ (record { file = refl; total = refl; tag = refl; count = refl; used = refl; full = refl; block = refl; group = refl }) c.seal_open.new.running c.into_site-in-Err-seal_open.result c.into_site-in-Err-seal_open.ensures
    (told_same e.kind) e.kept.pace e.passes e.grown c.in-Err-seal_open.fault k.only (λ is. (k.full 9999 (λ i. Err (is i))).2) (λ is. k.ends 9999 (λ i. Err (is i))) k.causes)

pub returns-in-Ok-seal_open-clause-dump : goal.returns-in-Ok-seal_open-clause-dump
returns-in-Ok-seal_open-clause-dump g c tells room =
    let d = contracts.TheImpl.ghosts g.row.S g.S.Site g.S.Site-dict in
    let r = c.args.running in
    let m = c.finish.new.running in
    let h = running_held d r in
    let file = c.finish.ensures.dump.file in
    let all = c.in-Ok.ensures.all tells room in
    let mid = g.S.Site.files m.log.site.site in
    let plan = c.requires.copied.plan in
    subst (λ (x : _). IsDumpOf h c.args.copy r.point (g.S.Site.files x.site r.log.site.file)) (sym c.into_site-in-Ok-seal_open.ensures)
    (dump_opened h c.args.copy r.point r.log.site.file m.log.site.file (omega arith) plan mid file all (g.S.Site.files c.seal_open.new.running.log.site.site)
    (c.in-Ok-seal_open.ensures.opened (behind h c.args.copy r.point r.log.site.file m.log.site.file (omega arith) plan mid file all) tells (here h c.args.copy r.point r.log.site.file m.log.site.file (omega arith) plan mid file all)))

pub returns-in-Err-clause-stopped : goal.returns-in-Err-clause-stopped
returns-in-Err-clause-stopped g c tells room =
    let d = contracts.TheImpl.ghosts g.row.S g.S.Site g.S.Site-dict in
    let r = c.args.running in
    let e = c.finish.ensures.dump in
    subst (λ (x : _). Runs (g.S.Site.clock r.log.site.site) (g.S.Site.clock x.site) (LeavesCopied (running_held d r) (view_of d r.log) c.args.copy r.point r.log.site.file)) (sym c.into_site.ensures)
    (copied_shut (running_held d r) (view_of d r.log) c.args.copy r.point r.log.site.file (still_shut r.log.site.file (e.gate tells) (c.requires.copied.shut tells)))

pub returns-in-Ok-seal_open-clause-moments : goal.returns-in-Ok-seal_open-clause-moments
returns-in-Ok-seal_open-clause-moments g c tells room =
    let d = contracts.TheImpl.ghosts g.row.S g.S.Site g.S.Site-dict in
    let r = c.args.running in
    let m = c.finish.new.running in
    let h = running_held d r in
    let b = c.in-Ok.ensures.beside in
    let file = c.finish.ensures.dump.file in
    let all = c.in-Ok.ensures.all tells room in
    let mid = g.S.Site.files m.log.site.site in
    let plan = c.requires.copied.plan in
    let later : HasNextNumber (running_held d m) = omega (arith, b.passes.next, room) in
    subst (λ (x : _). Runs (g.S.Site.clock r.log.site.site) (g.S.Site.clock x.site) (LeavesCopied h (view_of d r.log) c.args.copy r.point r.log.site.file)) (sym c.into_site-in-Ok-seal_open.ensures)
    (dump_opens h c.args.copy r.point r.log.site.file m.log.site.file (omega arith) plan mid file all (view_of d r.log) (view_of d m.log) (pace_kind b.kept.pace) (b.tells tells).points_same
    (still_shut r.log.site.file (c.finish.ensures.dump.gate tells) (c.requires.copied.shut tells))
    (seals_alike d m _ (record { file = refl; total = refl; tag = refl; count = refl; used = refl; full = refl; block = refl; group = refl }) m.log.site.file _ (c.seal_open.ensures.moments tells later (behind h c.args.copy r.point r.log.site.file m.log.site.file (omega arith) plan mid file all) (here h c.args.copy r.point r.log.site.file m.log.site.file (omega arith) plan mid file all))))

pub returns-clause-stopped : goal.returns-clause-stopped
returns-clause-stopped g c tells room =
    let d = contracts.TheImpl.ghosts g.row.S g.S.Site g.S.Site-dict in
    let r = c.args.running in
    let m = c.finish.new.running in
    let h = running_held d r in
    let b = c.in-Ok.ensures.beside in
    let file = c.finish.ensures.dump.file in
    let all = c.in-Ok.ensures.all tells room in
    let mid = g.S.Site.files m.log.site.site in
    let plan = c.requires.copied.plan in
    let later : HasNextNumber (running_held d m) = omega (arith, b.passes.next, room) in
    subst (λ (x : _). Runs (g.S.Site.clock r.log.site.site) (g.S.Site.clock x.site) (LeavesCopied h (view_of d r.log) c.args.copy r.point r.log.site.file)) (sym c.into_site-in-Err-seal_open.ensures)
    (dump_opens h c.args.copy r.point r.log.site.file m.log.site.file (omega arith) plan mid file all (view_of d r.log) (view_of d m.log) (pace_kind b.kept.pace) (b.tells tells).points_same
    (still_shut r.log.site.file (c.finish.ensures.dump.gate tells) (c.requires.copied.shut tells))
    (seals_alike d m _ (record { file = refl; total = refl; tag = refl; count = refl; used = refl; full = refl; block = refl; group = refl }) m.log.site.file _ (c.seal_open.ensures.moments tells later (behind h c.args.copy r.point r.log.site.file m.log.site.file (omega arith) plan mid file all) (here h c.args.copy r.point r.log.site.file m.log.site.file (omega arith) plan mid file all))))

pub returns-in-Ok-seal_open-clause-same : goal.returns-in-Ok-seal_open-clause-same
returns-in-Ok-seal_open-clause-same g c =
    subst (λ (x : _). g.S.Site.same_site c.args.running.log.site.site x.site) (sym c.into_site-in-Ok-seal_open.ensures)
    (g.met.S.Site.same_then _ _ _ c.finish.ensures.dump.same c.seal_open.ensures.same)

pub returns-clause-same_then : goal.returns-clause-same_then
returns-clause-same_then g c =
    subst (λ (x : _). g.S.Site.same_site c.args.running.log.site.site x.site) (sym c.into_site-in-Err-seal_open.ensures)
    (g.met.S.Site.same_then _ _ _ c.finish.ensures.dump.same c.seal_open.ensures.same)
