use Rattle.std.proofs.Common.{inl, inr, sym, ap, subst}
use Rattle.std.specs.Option.{option_copied}
use Rattle.dms_history.specs.Events.{halt_load, back_out, roll_back}
use Rattle.dms_restore.specs.declared.live.HowAt.{HowAt}
use Rattle.dms_restore.specs.Tracing.{MatchesHow}
use Rattle.dms_restore.specs.Planned.{PlansCut}
use Rattle.dms_restore.proofs.Results.{one_if_ok, two_if_ok}
use Rattle.dms_restore.proofs.DumpPlans.{cut_by_audit, cut_rebuild, cut_reconstruct, no_head}
use Rattle.dms_restore.proofs.planning.plan_cut.Goals as goal

pub returns-in-HaltLoad-clause-plan : goal.returns-in-HaltLoad-clause-plan
returns-in-HaltLoad-clause-plan c = two_if_ok c.plan_by_audit.result c.plan_by_audit.ensures.runs c.plan_by_audit.ensures.table (λ t none table files logged m how matches cut has counted.
    cut_by_audit how halt_load c.args.front.now c.args.behind.now t (subst (λ (k : HowAt). MatchesHow k c.args.rows.now how) c.in-HaltLoad.is matches) tt none table files logged m cut)

pub returns-in-BackOut-clause-plan : goal.returns-in-BackOut-clause-plan
returns-in-BackOut-clause-plan c = two_if_ok c.plan_by_audit-in-BackOut.result c.plan_by_audit-in-BackOut.ensures.runs c.plan_by_audit-in-BackOut.ensures.table (λ t none table files logged m how matches cut has counted.
    cut_by_audit how back_out c.args.front.now c.args.behind.now t (subst (λ (k : HowAt). MatchesHow k c.args.rows.now how) c.in-BackOut.is matches) tt none table files logged m cut)

pub returns-in-Rollback-clause-plan : goal.returns-in-Rollback-clause-plan
returns-in-Rollback-clause-plan c = two_if_ok c.plan_by_audit-in-Rollback.result c.plan_by_audit-in-Rollback.ensures.runs c.plan_by_audit-in-Rollback.ensures.table (λ t none table files logged m how matches cut has counted.
    cut_by_audit how roll_back c.args.front.now c.args.behind.now t (subst (λ (k : HowAt). MatchesHow k c.args.rows.now how) c.in-Rollback.is matches) tt none table files logged m cut)

pub returns-in-Some-clause-plan : goal.returns-in-Some-clause-plan
returns-in-Some-clause-plan c = one_if_ok c.plan_rebuild.result c.plan_rebuild.ensures.plan (λ t plans.
    subst (λ (k : HowAt). PlansCut k c.args.rows.now (option_copied c.args.head) c.args.counts.now c.args.front.now c.args.behind.now t) (sym c.in-Rebuild.is)
    (cut_rebuild c.in-Rebuild.dump c.args.rows.now (option_copied c.args.head) c.in-Some.head.now c.args.counts.now c.args.front.now c.args.behind.now t (ap option_copied c.in-Some.ensures.some.1) plans))

pub returns-in-None-clause-plan : goal.returns-in-None-clause-plan
returns-in-None-clause-plan c files logged m how matches cut has counted = absurd (no_head c.args.how c.in-Rebuild.dump c.args.rows.now (option_copied c.args.head) (inl c.in-Rebuild.is) c.in-None.ensures.none files how matches has)

pub returns-in-Some-head_for-clause-plan : goal.returns-in-Some-head_for-clause-plan
returns-in-Some-head_for-clause-plan c = one_if_ok c.plan_reconstruct.result c.plan_reconstruct.ensures.plan (λ t plans.
    subst (λ (k : HowAt). PlansCut k c.args.rows.now (option_copied c.args.head) c.args.counts.now c.args.front.now c.args.behind.now t) (sym c.in-Reconstruct.is)
    (cut_reconstruct c.in-Reconstruct.dump c.args.rows.now (option_copied c.args.head) c.in-Some-head_for.head.now c.args.counts.now c.args.front.now c.args.behind.now t (ap option_copied c.in-Some-head_for.ensures.some.1) plans))

pub returns-in-None-head_for-clause-plan : goal.returns-in-None-head_for-clause-plan
returns-in-None-head_for-clause-plan c files logged m how matches cut has counted =
    absurd (no_head c.args.how c.in-Reconstruct.dump c.args.rows.now (option_copied c.args.head) (inr c.in-Reconstruct.is) c.in-None-head_for.ensures.none files how matches has)
