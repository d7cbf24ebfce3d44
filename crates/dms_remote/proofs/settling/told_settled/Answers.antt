use Rattle.std.proofs.Common.{IfOk}
use Rattle.std.specs.declared.result.Result.{Result}
use Rattle.std.specs.declared.result.Result.TheVariants.{Ok, Err}
use Rattle.dms_remote.proofs.Planned.{plan_now, plan_lent}
use Rattle.dms_remote.proofs.settling.told_settled.Goals as goal

if_ok : {T E : Type 0} {P Q : T → Type 0} (r : Result T E) → IfOk r P → ((x : T) → P x → Q x) → IfOk r Q
if_ok (Ok x) p more = more x p
if_ok (Err e) p more = tt

pub returns-in-None-clause-plan : goal.returns-in-None-clause-plan
returns-in-None-clause-plan c =
    if_ok c.told_now.result c.told_now.ensures.table (λ v table files es traced may. plan_now files es c.args.history.now v.items c.in-None.is table traced may)

pub returns-in-Some-clause-plan : goal.returns-in-Some-clause-plan
returns-in-Some-clause-plan c =
    if_ok c.told_pending.result c.told_pending.ensures.table (λ v table files es traced may. plan_lent files es c.args.history.now c.in-Some.at c.deref.result.now c.deref-in-Some.result.now v.items c.in-Some.is c.deref.ensures.value c.deref-in-Some.ensures.value table traced may)
