use Rattle.std.proofs.Common.{◌<◌, inl, inr, sym, subst, arith}
use Rattle.dms_history.specs.Entries.{counts_in}
use Rattle.dms_history.specs.declared.event.FileCount.{FileCount}
use Rattle.dms_restore.specs.Counts.{count_of}
use Rattle.dms_restore.specs.Planned.{IsInRuns}
use Rattle.dms_restore.proofs.RunLoops.{count_step, count_all}
use Rattle.dms_restore.proofs.dump_runs.runs_of_files.Goals as goal

pub loop-count-preserved : goal.loop-count-preserved
loop-count-preserved c =
    let d : FileCount = record { file = 0; blocks = 0 } in
    let inv = c.loop-count.invariant in
    let added = c.in_ok-add_run.ensures in
    record {
      are = added.are inv.are;
      all = λ f b within dumped counted. elim (count_step c.args.files.now c.loop-count.count-index d f b c.loop-count-test.true within) [
        | inl old ↦ added.kept f b (inv.all f b old dumped counted)
        | inr new ↦
            subst (λ g. IsInRuns g b c.add_run.new.runs.items) new.0
            (added.all b (omega arith) new.1 (subst (λ g. b < counts_in c.args.head.now.counts.items g) (sym new.0) dumped) (subst (λ g. b < count_of c.args.counts.now g) (sym new.0) counted))
      ];
    }

pub returns-clause-all : goal.returns-clause-all
returns-clause-all c f b within dumped counted =
    c.loop-count.invariant.all f b (count_all c.args.files.now c.loop-count.count-index f b (omega (arith, c.loop-count-test.false)) within) dumped counted
