use Rattle.std.proofs.Common.{◌<◌, inl, inr, sym, subst}
use Rattle.dms_history.specs.Entries.{counts_in}
use Rattle.dms_history.specs.declared.event.Row.{Row}
use Rattle.dms_restore.specs.Counts.{count_of}
use Rattle.dms_restore.specs.Planned.{IsInRuns}
use Rattle.dms_restore.proofs.RunLoops.{named_step, named_old, named_new}
use Rattle.dms_restore.proofs.dump_runs.row_runs.Goals as goal

pub loop-row-preserved : goal.loop-row-preserved
loop-row-preserved c =
    let d : Row = record { file = 0; row = 0 } in
    let rows = c.args.rows.now in
    let i = c.loop-row.row-index in
    let inv = c.loop-row.invariant in
    let added = c.in_ok-add_run.ensures in
    record {
      are = added.are inv.are;
      all = λ f b named dumped counted. elim (named_step rows i d f b c.loop-row-test.true named) [
        | inl old ↦ added.kept f b (inv.all f b old dumped counted)
        | inr new ↦
            subst (λ g. IsInRuns g b c.add_run.new.runs.items) new.0
            (added.all b new.1 new.2 (subst (λ g. b < counts_in c.args.head.now.counts.items g) (sym new.0) dumped) (subst (λ g. b < count_of c.args.counts.now g) (sym new.0) counted))
      ];
      only = λ f b is. elim (added.only f b is) [
        | inl old ↦ named_old rows i d f b c.loop-row-test.true (inv.only f b old)
        | inr new ↦ named_new rows i d f b c.loop-row-test.true new.0 new.1 new.2
      ];
    }
