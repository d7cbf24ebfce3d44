use Rattle.std.proofs.Common.{inl, subst}
use Rattle.dms_site.specs.Files.{Files}
use Rattle.dms_audfile.specs.Ends.{Grown}
use Rattle.dms_audfile.specs.TrailEntries.{trail_entries}
use Rattle.dms_restore.specs.TailTables.{Serves}
use Rattle.dms_restore.proofs.Results.{one_if_ok}
use Rattle.dms_restore.proofs.tail_table.point_told_near.Goals as goal

pub returns-in-Ok-None-clause-table : goal.returns-in-Ok-None-clause-table
returns-in-Ok-None-clause-table g c = one_if_ok c.point_told.result c.point_told.ensures.table (λ v told tells order.
    let end = c.args.end.now in
    subst (λ (f : Files). (new : _) → Grown end.total c.args.first f new → Serves c.args.at_control (trail_entries end.total c.args.first f) c.args.point new v.items) (c.told_near.ensures.reads.files_stay tells)
    (λ new grown. inl (told tells new grown)))
