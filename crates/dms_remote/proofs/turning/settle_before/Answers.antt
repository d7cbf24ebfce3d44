use Rattle.std.proofs.Common.{◌∙◌, subst, sym}
use Rattle.std.specs.Prelude.{is_some}
use Rattle.dms_audfile.specs.declared.audit_end.AuditEnd.{AuditEnd}
use Rattle.dms_remote.specs.Copy.{MaySeal}
use Rattle.dms_remote.specs.Settling.{IsSettled}
use Rattle.dms_remote.proofs.Turned.{holds, ready_settled, ready_before, stays_copy, must_open}
use Rattle.dms_remote.proofs.turning.settle_before.Goals as goal

pub returns-in-Ok-clause-moments : goal.returns-in-Ok-clause-moments
returns-in-Ok-clause-moments g c head blocks block tells next only =
    let h = c.args.history.now in
    let on = must_open c.args.opened c.args.kinds.control c.args.kinds.begin (is_some h.pending) (sym c.must_settle.ensures ∙ c.if-must_settle.true) in
    c.in-Ok.ensures.moments head blocks tells (holds c.args.log.end h c.args.opened head blocks block (g.S.Site.files c.args.log.site) next on) only

pub returns-in-Err-clause-stopped : goal.returns-in-Err-clause-stopped
returns-in-Err-clause-stopped g c head blocks block tells next only =
    let h = c.args.history.now in
    let on = must_open c.args.opened c.args.kinds.control c.args.kinds.begin (is_some h.pending) (sym c.must_settle.ensures ∙ c.if-must_settle.true) in
    c.in-Err.ensures.stopped head blocks tells (holds c.args.log.end h c.args.opened head blocks block (g.S.Site.files c.args.log.site) next on) only

pub returns-in-Ok-clause-ready : goal.returns-in-Ok-clause-ready
returns-in-Ok-clause-ready g c head blocks block tells next are =
    let h = c.args.history.now in
    let on = must_open c.args.opened c.args.kinds.control c.args.kinds.begin (is_some h.pending) (sym c.must_settle.ensures ∙ c.if-must_settle.true) in
    let settled = c.in-Ok.ensures.settled head blocks tells (holds c.args.log.end h c.args.opened head blocks block (g.S.Site.files c.args.log.site) next on) in
    let same = c.in-Ok.ensures.kind.0 in
    subst (λ (end : AuditEnd). MaySeal end head blocks block (g.S.Site.files c.in-Ok.log.site)) (sym same)
    (ready_settled c.args.log.end h c.args.opened head blocks block (g.S.Site.files c.args.log.site) next (g.S.Site.files c.in-Ok.log.site)
    (subst (λ (end : AuditEnd). IsSettled end head blocks (g.S.Site.files c.in-Ok.log.site)) same settled))

pub returns-else-must_settle-clause-moments : goal.returns-else-must_settle-clause-moments
returns-else-must_settle-clause-moments g c head blocks block tells next only = stays_copy c.args.log.end c.args.history.now c.args.opened head blocks block (g.S.Site.files c.args.log.site) next _ only

pub returns-else-must_settle-clause-ready : goal.returns-else-must_settle-clause-ready
returns-else-must_settle-clause-ready g c head blocks block tells next are =
    ready_before c.args.log.end c.args.history.now c.args.opened head blocks block (g.S.Site.files c.args.log.site) next c.args.kinds are (sym c.must_settle.ensures ∙ c.if-must_settle.false)
