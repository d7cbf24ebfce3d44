use Rattle.std.proofs.Common.{sym, subst}
use Rattle.dms_restore.proofs.Results.{one_if_ok, one_if_err}
use Rattle.dms_opening.specs.declared.dump_looks.DumpFound.{DumpFound}
use Rattle.dms_opening.specs.DumpLooks.{IsFitFound, IsFoundFor}
use Rattle.dms_opening.proofs.preparing.pending_table.Goals as goal

pub returns-in-Sealed-clause-memory : goal.returns-in-Sealed-clause-memory
returns-in-Sealed-clause-memory c = one_if_err c.plan_of.result c.plan_of.ensures.memory (λ e memory files p t. memory files t.entries t.traced)

pub returns-in-Sealed-clause-plan : goal.returns-in-Sealed-clause-plan
returns-in-Sealed-clause-plan c = one_if_ok c.plan_of.result c.plan_of.ensures.plan (λ v plan files p t counts found.
    plan files p t counts (subst (λ (f : DumpFound). IsFoundFor files p.how f) c.in-Sealed.is found))
