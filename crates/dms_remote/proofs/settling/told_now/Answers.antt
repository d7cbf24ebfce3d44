use Rattle.std.proofs.Common.{◌∙◌, subst, List, []}
use Rattle.dms_restore.specs.declared.live.LiveEntry.{LiveEntry}
use Rattle.dms_restore.specs.Named.{IsTableOf}
use Rattle.dms_remote.proofs.settling.told_now.Goals as goal

pub returns-in-Ok-told-clause-table : goal.returns-in-Ok-told-clause-table
returns-in-Ok-told-clause-table c =
    subst (λ (l : List LiveEntry). IsTableOf l [] c.in-Ok-told.told.items) (c.as_slice.ensures.value ∙ c.in-Ok.ensures.items) c.in-Ok-told.ensures.table
