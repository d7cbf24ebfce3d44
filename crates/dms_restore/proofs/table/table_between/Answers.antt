use Rattle.dms_restore.proofs.Results.{one_if_ok, two_if_ok}
use Rattle.dms_restore.proofs.Between.{between_tells}
use Rattle.dms_restore.proofs.table.table_between.Goals as goal

pub returns-clause-whole : goal.returns-clause-whole
returns-clause-whole c = one_if_ok c.table_noted.result c.table_noted.ensures.whole (λ v whole files front. whole files front tt)

pub returns-clause-tells : goal.returns-clause-tells
returns-clause-tells c = two_if_ok c.table_noted.result c.table_noted.ensures.whole c.table_noted.ensures.tells (λ v whole tells. between_tells c.args.front.now c.args.from v.items c.requires whole tells)
