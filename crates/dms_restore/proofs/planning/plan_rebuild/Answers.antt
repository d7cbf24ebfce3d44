use Rattle.dms_restore.proofs.SpotParts.{front_bad}
use Rattle.dms_restore.proofs.HeadCounts.{runs_fit}
use Rattle.dms_restore.proofs.DumpPlans.{rebuilt}
use Rattle.dms_restore.proofs.planning.plan_rebuild.Goals as goal

pub returns-in-Ok-table_between-clause-plan : goal.returns-in-Ok-table_between-clause-plan
returns-in-Ok-table_between-clause-plan c files logged m cut has counted =
    let one = c.in-Ok.ensures in
    let two = c.in-Ok-table_between.ensures in
    rebuilt files logged m c.args.front.now c.args._behind.now cut c.args.dump c.args.head.now has c.args.counts.now counted c.in-Ok.runs.items one.are c.in-Ok-table_between.told.items c.behind_place-from.result
    (c.behind_place-from.ensures.behind files) one.all (two.whole files cut.front_whole) two.tells (two.among files)

pub returns-in-Ok-table_between-clause-runs : goal.returns-in-Ok-table_between-clause-runs
returns-in-Ok-table_between-clause-runs c = runs_fit c.args.head.now c.args.dump c.args.counts.now c.in-Ok.runs.items c.requires.fit c.requires.small c.requires.number c.in-Ok.ensures.are

pub returns-in-Err-table_between-clause-only : goal.returns-in-Err-table_between-clause-only
returns-in-Err-table_between-clause-only c = front_bad c.in-Err-table_between.fault c.args.front.now c.args._behind.now c.in-Err-table_between.ensures.only
