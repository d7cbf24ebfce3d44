use Rattle.std.proofs.Common.{List, inl, inr, sym, ◌∙◌, subst, arith}
use Rattle.dms_dump.specs.HeadSeen.{head_seen}
use Rattle.dms_restore.specs.declared.run.Run.{Run}
use Rattle.dms_restore.specs.Planned.{AreRunsOf, IsInRuns}
use Rattle.dms_restore.proofs.RunLoops.{runs_push, in_runs_old, in_runs_new, in_runs_either}
use Rattle.dms_restore.proofs.dump_runs.add_run.Goals as goal

pub returns-in_ok-push-in-Some-clause-are : goal.returns-in_ok-push-in-Some-clause-are
returns-in_ok-push-in-Some-clause-are c are =
    subst (AreRunsOf (head_seen c.args.head.now) c.args.dump c.args.counts.now) (sym c.in_ok-push-in-Some.ensures.items)
    (runs_push (head_seen c.args.head.now) c.args.dump c.args.counts.now c.args.runs.now.items c.in-Some.run' are c.in-Some.ensures.is)

pub returns-in_ok-push-in-Some-clause-kept : goal.returns-in_ok-push-in-Some-clause-kept
returns-in_ok-push-in-Some-clause-kept c f b old = subst (λ (l : List Run). IsInRuns f b l) (sym c.in_ok-push-in-Some.ensures.items) (in_runs_old f b c.args.runs.now.items c.in-Some.run' old)

pub returns-in_ok-push-in-Some-clause-all : goal.returns-in_ok-push-in-Some-clause-all
returns-in_ok-push-in-Some-clause-all c b from to dumped counted =
    subst (λ (l : List Run). IsInRuns c.args.file b l) (sym c.in_ok-push-in-Some.ensures.items) (in_runs_new c.args.file b c.args.runs.now.items c.in-Some.run' (c.in-Some.ensures.all b from to dumped counted))

pub returns-in_ok-push-in-Some-clause-only : goal.returns-in_ok-push-in-Some-clause-only
returns-in_ok-push-in-Some-clause-only c f b is =
    let within = c.in-Some.ensures.within in
    elim (in_runs_either f b c.args.runs.now.items c.in-Some.run' (subst (λ (l : List Run). IsInRuns f b l) c.in_ok-push-in-Some.ensures.items is)) [
      | inl old ↦ inl old
      | inr new ↦ inr (sym new.0 ∙ within.0, omega (arith, new.1, within.1), omega (arith, new.2, within.2))
    ]
