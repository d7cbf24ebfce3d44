use Rattle.std.proofs.Common.{Some, sym, ap, ◌∙◌}
use Rattle.dms_desc.specs.declared.record.Record.{Record}
use Rattle.dms_model.specs.Db.{Place}
use Rattle.dms_plain.specs.Rows.{entry_of}
use Rattle.dms_plain.proofs.Placing.{get_row}
use Rattle.dms_plain.proofs.rows.look.Goals as goal

pub returns-in-Ok : goal.returns-in-Ok
returns-in-Ok c =
    let x = c.index-rows-i.result in
    ap (λ (e : Place × Record). Some e.1) (sym (get_row c.args.rows.now c.in-Ok.i x)) ∙ sym (c.in-Ok.ensures.2 (entry_of x))
