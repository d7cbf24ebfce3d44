use Rattle.std.proofs.Common.{Option, sym, subst}
use Rattle.dms_restore.proofs.Results.{one_if_err, one_if_ok}
use Rattle.dms_online.specs.declared.plan.Copying.{Copying}
use Rattle.dms_online.specs.Ending.{EndsDump, LeavesDump}
use Rattle.dms_online.specs.contracts.dump_site.DumpSiteSite as contracts
use Rattle.dms_online.proofs.Closed.{closes_alone, fails_alone}
use Rattle.dms_online.proofs.online.Online.close.Goals as goal

pub returns-in-None-clause-closes : goal.returns-in-None-clause-closes
returns-in-None-clause-closes g c =
    let d = contracts.TheImpl.ghosts g.row.S g.S.Site g.S.Site-dict in
    let e = c.close.ensures in
    closes_alone d c.args.self.running c.close.result e.closed e.leaves e.grown e.clean e.said

pub returns-in-None-clause-fails : goal.returns-in-None-clause-fails
returns-in-None-clause-fails g c =
    let d = contracts.TheImpl.ghosts g.row.S g.S.Site g.S.Site-dict in
    let e = c.close.ensures in
    fails_alone d c.args.self.running c.close.result e.only e.stopped e.full e.grown e.disk e.say_faults e.said_then

pub returns-in-Some-clause-dump : goal.returns-in-Some-clause-dump
returns-in-Some-clause-dump g c =
    let d = contracts.TheImpl.ghosts g.row.S g.S.Site g.S.Site-dict in
    one_if_ok c.close_both.result c.close_both.ensures.dump (λ s x. subst (λ (o : Option Copying). EndsDump d g.S.Site c.args.self.running s o) (sym c.in-Some.is) x)

pub returns-in-Some-clause-moments : goal.returns-in-Some-clause-moments
returns-in-Some-clause-moments g c =
    let d = contracts.TheImpl.ghosts g.row.S g.S.Site g.S.Site-dict in
    one_if_ok c.close_both.result c.close_both.ensures.moments (λ s x. subst (λ (o : Option Copying). LeavesDump d g.S.Site c.args.self.running s o) (sym c.in-Some.is) x)

pub returns-in-Some-clause-stopped : goal.returns-in-Some-clause-stopped
returns-in-Some-clause-stopped g c =
    let d = contracts.TheImpl.ghosts g.row.S g.S.Site g.S.Site-dict in
    one_if_err c.close_both.result c.close_both.ensures.stopped (λ e x. subst (λ (o : Option Copying). LeavesDump d g.S.Site c.args.self.running e.1 o) (sym c.in-Some.is) x)
