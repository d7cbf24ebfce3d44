use Rattle.std.proofs.Common.{ℕ, ◌+◌, ◌∙◌, ◌∷◌, ap, sym, subst, arith}
use Rattle.std.proofs.lemmas.Result.{on_ok_weaker}
use Rattle.dms_block.specs.Held.{HasNextNumber, Prefix, Stays, TextIs}
use Rattle.dms_moments.specs.Moments.{Runs}
use Rattle.dms_restore.specs.Logging.{telling}
use Rattle.dms_running.specs.Telling.{Telling}
use Rattle.dms_wal.specs.Lifting.{lift_clock}
use Rattle.dms_wal.proofs.Lifts.{both_run, lower_runs, told_same}
use Rattle.dms_block.specs.HeldLaws.{passes_on}
use Rattle.dms_restore.specs.GrowLaws.{log_grows_more, log_grows_on}
use Rattle.dms_restore.specs.Views.{view_of}
use Rattle.dms_wal.specs.AgreeLaws.{agrees}
use Rattle.dms_wal.specs.Database.{running_held}
use Rattle.dms_wal.proofs.Grown.{logged_more, ok_never}
use Rattle.dms_online.specs.OnlineLaws.{dump_kept}
use Rattle.dms_online.specs.contracts.dump_site.DumpSiteSite as contracts
use Rattle.dms_online.proofs.Gates.{shut_then}
use Rattle.dms_online.proofs.Dumped.{seals_open, seals_shut, still_shut}
use Rattle.dms_online.proofs.Finished.{control_on, gate_now, stays_durable}
use Rattle.dms_online.proofs.ending.seal_open.Goals as goal

pub open_dump-requires-clause-gate : goal.open_dump-requires-clause-gate
open_dump-requires-clause-gate g c tells =
    let site = c.args.running.now.log.site in
    let mid = c.control.new.self.log.site in
    let same = c.control.ensures.same in
    gate_now mid.file (g.S.Site.files mid.site) (g.S.Site.clock mid.site) (g.met.S.Site.may_stay mid.site tells)
    (shut_then site.file mid.file (g.S.Site.clock site.site) (g.S.Site.clock mid.site) same.file_same ((dump_kept g.S.Site site mid same).gate tells) (c.requires.shut tells))

pub open_dump-requires-clause-settled : goal.open_dump-requires-clause-settled
open_dump-requires-clause-settled g c tells = (c.in-Ok.ensures.control tells).settled.only

pub open_dump-requires-clause-above : goal.open_dump-requires-clause-above
open_dump-requires-clause-above g c = omega (arith, c.requires.above, c.control.ensures.same.file_same)

pub open_dump-requires-clause-below : goal.open_dump-requires-clause-below
open_dump-requires-clause-below g c = omega (arith, c.requires.below, c.control.ensures.same.file_same)

pub returns-clause-sound : goal.returns-clause-sound
returns-clause-sound g c =
    let d = contracts.TheImpl.ghosts g.row.S g.S.Site g.S.Site-dict in
    on_ok_weaker c.open_dump.result (λ (s : Stays (running_held d c.control.new.self) (running_held d c.open_dump.new.running)). s.sound) c.open_dump.ensures.stays

pub returns-clause-control : goal.returns-clause-control
returns-clause-control g c =
    let d = contracts.TheImpl.ghosts g.row.S g.S.Site g.S.Site-dict in
    let r = c.args.running.now in
    on_ok_weaker c.open_dump.result (λ settles tells. control_on (view_of d r.log) (view_of d c.control.new.self.log) (view_of d c.open_dump.new.running.log) r.schema.items r.point r.next r.counts.items (c.open_dump.ensures.tells tells) (settles tells) (c.in-Ok.ensures.control tells)) c.open_dump.ensures.settles

pub returns-in-Err-clause-moments : goal.returns-in-Err-clause-moments
returns-in-Err-clause-moments g c tells room rest is =
    let d = contracts.TheImpl.ghosts g.row.S g.S.Site g.S.Site-dict in
    let r = c.args.running.now in
    let site = r.log.site in
    let mid = c.control.new.self.log.site in
    seals_shut (view_of d r.log) site.file (1 ∷ rest) (still_shut site.file ((dump_kept g.S.Site site mid c.control.ensures.same).gate tells) (c.requires.shut tells))

pub returns-clause-moments : goal.returns-clause-moments
returns-clause-moments g c tells room rest is =
    let d = contracts.TheImpl.ghosts g.row.S g.S.Site g.S.Site-dict in
    let r = c.args.running.now in
    let site = r.log.site in
    let half = c.control.new.self in
    let mid = half.log.site in
    let same = c.control.ensures.same in
    let made = c.in-Ok.ensures.made in
    let a = running_held d r in
    let b = running_held d half in
    let later : HasNextNumber b = omega (arith, c.control.ensures.passes.next, room) in
    let t = telling (view_of d half.log) in
    let leaves = c.open_dump.ensures.passes.leaves tells later in
    seals_open (view_of d r.log) (view_of d half.log) site.file mid.file (1 ∷ rest) b.durable b.next b.said same.file_same (told_same c.control.ensures.kind) (made.points tells room) (made.durable tells room)
    (still_shut site.file ((dump_kept g.S.Site site mid same).gate tells) (c.requires.shut tells))
    (both_run (c.open_dump.ensures.moments rest tells (ap (λ (f : ℕ). g.S.Site.files mid.site f) same.file_same ∙ same.read tells ∙ is))
    (lower_runs t (g.S.Site.clock mid.site) (g.S.Site.clock c.open_dump.new.running.log.site.site)
    (subst (λ (k : Telling). Runs (lift_clock t (g.S.Site.clock mid.site)) (lift_clock k (g.S.Site.clock c.open_dump.new.running.log.site.site)) (λ stop. Prefix b.whole b.durable b.points b.next stop × TextIs b.said stop)) (told_same c.open_dump.ensures.kind) leaves)))

pub returns-clause-opened : goal.returns-clause-opened
returns-clause-opened g c =
    let mid = c.control.new.self.log.site in
    let same = c.control.ensures.same in
    on_ok_weaker c.open_dump.result (λ opens rest tells is.
    ap (λ (f : ℕ). g.S.Site.files c.open_dump.new.running.log.site.site f) (sym same.file_same) ∙ opens rest tells (ap (λ (f : ℕ). g.S.Site.files mid.site f) same.file_same ∙ same.read tells ∙ is)) c.open_dump.ensures.opened

pub returns-clause-passes : goal.returns-clause-passes
returns-clause-passes g c =
    let d = contracts.TheImpl.ghosts g.row.S g.S.Site g.S.Site-dict in
    let m = g.met.S.Site in
    let r = c.args.running.now in
    let agree = agrees {g = d} (λ s tells. m.may_stay s.site tells) (λ s x tells now. m.now_said s.site x tells now) r c.requires.sound in
    passes_on c.control.ensures.passes (stays_durable (running_held d r) (running_held d c.control.new.self) agree c.in-Ok.ensures.made) c.open_dump.ensures.passes

pub returns-clause-grown : goal.returns-clause-grown
returns-clause-grown g c tells =
    let d = contracts.TheImpl.ghosts g.row.S g.S.Site g.S.Site-dict in
    let a = view_of d c.args.running.now.log in
    let b = view_of d c.control.new.self.log in
    let e = view_of d c.open_dump.new.running.log in
    let p = c.control.ensures.kept.pace in
    log_grows_more (18 + 0) 18 a e (omega arith) (log_grows_on a b e p.total p.first 18 0 (logged_more 18 a b (c.in-Ok.ensures.few ok_never tells)) (c.control.ensures.grown tells) (c.open_dump.ensures.grown tells))
