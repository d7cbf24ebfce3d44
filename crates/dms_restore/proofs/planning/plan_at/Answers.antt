use Rattle.std.proofs.Common.{cond, [], sym, ap, arith}
use Rattle.std.specs.Option.{option_copied}
use Rattle.dms_restore.specs.LiveEntries.{logged_live}
use Rattle.dms_restore.proofs.Results.{one_if_ok}
use Rattle.dms_restore.proofs.PendingPlans.{pending_plan}
use Rattle.dms_restore.proofs.SpotParts.{parts_fault}
use Rattle.dms_restore.proofs.planning.plan_at.Goals as goal

pub returns-then-at-clause-plan : goal.returns-then-at-clause-plan
returns-then-at-clause-plan c = one_if_ok c.plan_cut.result c.plan_cut.ensures.plan (λ t plan files p.
    pending_plan files c.args.live.now c.args.removed.now c.args.rows.now c.args.at p c.min.result c.args.removed.now c.args.counts.now (option_copied c.args.head) t (λ le. omega (arith, c.min.ensures, le))
    (sym (ap (λ t. cond t (logged_live files c.args.removed.now) []) c.if-at.true)) (λ w. w) plan)

pub returns-else-at-clause-plan : goal.returns-else-at-clause-plan
returns-else-at-clause-plan c = one_if_ok c.plan_cut-else-at.result c.plan_cut-else-at.ensures.plan (λ t plan files p.
    pending_plan files c.args.live.now c.args.removed.now c.args.rows.now c.args.at p c.min.result [] c.args.counts.now (option_copied c.args.head) t (λ le. omega (arith, c.min.ensures, le))
    (sym (ap (λ t. cond t (logged_live files c.args.removed.now) []) c.if-at.false)) (λ w. tt) plan)

pub returns-then-at-clause-only : goal.returns-then-at-clause-only
returns-then-at-clause-only c = parts_fault c.plan_cut.result c.min.result c.args.live.now c.args.removed.now c.args.removed.now (λ t among. among) c.plan_cut.ensures.only

pub returns-else-at-clause-only : goal.returns-else-at-clause-only
returns-else-at-clause-only c = parts_fault c.plan_cut-else-at.result c.min.result c.args.live.now [] c.args.removed.now (λ t among. absurd among) c.plan_cut-else-at.ensures.only
