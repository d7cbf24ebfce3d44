use Rattle.std.proofs.Common.{◌<◌, List, sym, subst}
use Rattle.dms_history.specs.Entries.{counts_in}
use Rattle.dms_history.specs.declared.event.FileCount.{FileCount}
use Rattle.dms_restore.proofs.Results.{one_if_ok}
use Rattle.dms_restore.proofs.dump_runs.all_runs.Goals as goal

pub returns-clause-all : goal.returns-clause-all
returns-clause-all c = one_if_ok c.runs_of_files.result c.runs_of_files.ensures.all (λ v all f b dumped counted.
    all f b (subst (λ (l : List FileCount). b < counts_in l f) (sym c.deref.ensures.value) dumped) dumped counted)
