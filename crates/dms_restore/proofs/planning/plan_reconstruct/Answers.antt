use Rattle.dms_restore.proofs.HeadCounts.{runs_fit}
use Rattle.dms_restore.proofs.DumpPlans.{reconstructed}
use Rattle.dms_restore.proofs.planning.plan_reconstruct.Goals as goal

pub returns-in-Ok-table_by_rows-clause-plan : goal.returns-in-Ok-table_by_rows-clause-plan
returns-in-Ok-table_by_rows-clause-plan c files logged m cut has counted =
    let one = c.in-Ok.ensures in
    let two = c.in-Ok-table_by_rows.ensures in
    reconstructed files logged m c.args.front.now c.args.behind.now cut c.args.dump c.args.head.now has c.args.counts.now counted c.in-Ok.runs.items one.are c.args.rows.now c.in-Ok-table_by_rows.told.items c.behind_place-from.result
    (c.behind_place-from.ensures.behind files) one.all one.only (two.whole files cut.front_whole cut.behind_whole) two.tells (two.among files)

pub returns-in-Ok-table_by_rows-clause-runs : goal.returns-in-Ok-table_by_rows-clause-runs
returns-in-Ok-table_by_rows-clause-runs c = runs_fit c.args.head.now c.args.dump c.args.counts.now c.in-Ok.runs.items c.requires.fit c.requires.small c.requires.number c.in-Ok.ensures.are
