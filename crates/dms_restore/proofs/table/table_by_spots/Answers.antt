use Rattle.std.proofs.Common.{◌∙◌}
use Rattle.dms_restore.proofs.Results.{one_if_ok}
use Rattle.dms_restore.proofs.SpotParts.{spots_fault}
use Rattle.dms_restore.proofs.WholeSpots.{held_whole}
use Rattle.dms_restore.proofs.table.table_by_spots.Goals as goal

pub returns-in-Ok-clause-whole : goal.returns-in-Ok-clause-whole
returns-in-Ok-clause-whole c = one_if_ok c.list_told.result c.list_told.ensures.held (λ v held files front behind.
    held_whole files c.in-Ok.spots c.args.front.now c.args.behind.now c.in-Ok.ensures.from front behind v.items held)

pub returns-in-Ok-clause-tells : goal.returns-in-Ok-clause-tells
returns-in-Ok-clause-tells c = one_if_ok c.list_told.result c.list_told.ensures.tells (λ v tells files whole f b. tells files whole f b ∙ c.in-Ok.ensures.notes files f b)

pub returns-in-Ok-clause-only : goal.returns-in-Ok-clause-only
returns-in-Ok-clause-only c = spots_fault c.list_told.result c.in-Ok.spots c.args.front.now c.args.behind.now c.in-Ok.ensures.from c.list_told.ensures.only
