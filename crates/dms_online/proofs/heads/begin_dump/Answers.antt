use Rattle.std.proofs.Common.{ℕ, refl, subst, ◌∙◌, ap, sym}
use Rattle.std.proofs.lemmas.Result.{on_ok_weaker}
use Rattle.std.specs.declared.result.Result.TheVariants.{Ok, Err}
use Rattle.dms_moments.specs.Moments.{Steps}
use Rattle.dms_online.specs.Calls.{LeavesGate}
use Rattle.dms_online.specs.contracts.dump_site.DumpSiteSite as contracts
use Rattle.dms_online.proofs.Besides.{beside_on, beside_written}
use Rattle.dms_online.proofs.Gates.{overlay_first, shut_on, shut_then}
use Rattle.dms_online.proofs.heads.begin_dump.Goals as goal

pub returns-in-Err-clause-beside : goal.returns-in-Err-clause-beside
returns-in-Err-clause-beside g c =
    let w = c.shut_dump.ensures in
    let e = c.in-Err.ensures in
    beside_written (contracts.TheImpl.ghosts g.row.S g.S.Site g.S.Site-dict) {T = Unit {0}} (Err c.in-Err.fault) c.args.running.now c.shut_dump.new.running w.passes tt w.unchanged w.tells w.uses e.only e.causes e.broken w.kept w.grown w.grows

pub returns-clause-beside : goal.returns-clause-beside
returns-clause-beside g c =
    let w = c.shut_dump.ensures in
    beside_on (contracts.TheImpl.ghosts g.row.S g.S.Site g.S.Site-dict) c.write_head.result c.args.running.now c.shut_dump.new.running c.write_head.new.running
    (beside_written (contracts.TheImpl.ghosts g.row.S g.S.Site g.S.Site-dict) {T = Unit {0}} (Ok tt) c.args.running.now c.shut_dump.new.running w.passes c.in-Ok.ensures.stays w.unchanged w.tells w.uses tt c.in-Ok.ensures.causes tt w.kept w.grown w.grows)
    c.write_head.ensures.beside

pub returns-clause-moments : goal.returns-clause-moments
returns-clause-moments g c tells =
    let file = c.args.running.now.log.site.file in
    shut_on file (c.shut_dump.ensures.moments tells) (c.in-Ok.ensures.shut tells)
    (subst (λ (f : ℕ). Steps (LeavesGate f) (g.S.Site.clock c.shut_dump.new.running.log.site.site) (g.S.Site.clock c.write_head.new.running.log.site.site)) c.shut_dump.ensures.file (c.write_head.ensures.dump.gate tells))

pub returns-clause-shut : goal.returns-clause-shut
returns-clause-shut g c =
    let file = c.args.running.now.log.site.file in
    on_ok_weaker c.write_head.result (λ (wrote : _) tells x now. shut_then file file (g.S.Site.clock c.shut_dump.new.running.log.site.site) (g.S.Site.clock c.write_head.new.running.log.site.site) refl
    (subst (λ (f : ℕ). Steps (LeavesGate f) (g.S.Site.clock c.shut_dump.new.running.log.site.site) (g.S.Site.clock c.write_head.new.running.log.site.site)) c.shut_dump.ensures.file (c.write_head.ensures.dump.gate tells)) (c.in-Ok.ensures.shut tells) x now) c.write_head.ensures.written

pub returns-clause-written : goal.returns-clause-written
returns-clause-written g c =
    let file = c.args.running.now.log.site.file in
    on_ok_weaker c.write_head.result (λ wrote tells.
    ap (λ (f : ℕ). g.S.Site.files c.write_head.new.running.log.site.site f) (sym c.shut_dump.ensures.file) ∙ wrote tells
    ∙ overlay_first _ _ (ap (λ (f : ℕ). g.S.Site.files c.shut_dump.new.running.log.site.site f) c.shut_dump.ensures.file ∙ c.in-Ok.ensures.empty tells)) c.write_head.ensures.written
