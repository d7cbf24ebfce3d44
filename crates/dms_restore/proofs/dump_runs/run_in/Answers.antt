use Rattle.dms_restore.proofs.HeadCounts.{before_most}
use Rattle.std.proofs.Common.{List, ap, arith}
use Rattle.dms_history.specs.declared.event.FileCount.{FileCount}
use Rattle.dms_dump.specs.Body.{blocks_before}
use Rattle.dms_restore.proofs.dump_runs.run_in.Goals as goal

pub run_of-requires-clause-low : goal.run_of-requires-clause-low
run_of-requires-clause-low c = omega (arith, c.stretch_of-stretch.ensures.before, before_most c.args.head.now c.args.file c.requires.fit, ap (λ (l : List FileCount). blocks_before c.args.file l) c.deref.ensures.value)
