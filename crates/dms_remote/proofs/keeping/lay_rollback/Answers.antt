use Rattle.std.proofs.Common.{◌∙◌, ◌++◌, ap, arith}
use Rattle.dms_fields.specs.Fields.{lay_bytes}
use Rattle.dms_history.specs.Entries.{begin_restore, by_roll_back}
use Rattle.dms_audrec.specs.Spelling.{spelling}
use Rattle.dms_audfile.proofs.Laying.{laid_behind}
use Rattle.dms_remote.proofs.keeping.lay_rollback.Goals as goal

pub returns-clause-laid : goal.returns-clause-laid
returns-clause-laid c =
    let bytes = spelling (begin_restore c.args.point by_roll_back) in
    let parts = c.split_at_mut-front.ensures in
    (λ i. parts.front i ++ (c.encode.ensures.written ∙ ap (lay_bytes 0 bytes) parts.back) i) ∙ laid_behind 2 bytes c.args.block.now (omega (arith, c.requires))
