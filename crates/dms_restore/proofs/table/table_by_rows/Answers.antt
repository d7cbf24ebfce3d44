use Rattle.dms_restore.proofs.Results.{two_if_ok}
use Rattle.dms_restore.proofs.Between.{rows_tell}
use Rattle.dms_restore.proofs.table.table_by_rows.Goals as goal

pub returns-clause-tells : goal.returns-clause-tells
returns-clause-tells c = two_if_ok c.table_noted.result c.table_noted.ensures.whole c.table_noted.ensures.tells (λ v whole tells.
    rows_tell c.args.front.now c.args.from c.args.behind.now c.args.rows.now v.items c.after_control.result c.requires c.after_control.ensures.within c.after_control.ensures.behind whole tells)
