use Rattle.std.proofs.Common.{◌∙◌, sym}
use Rattle.dms_fields.specs.Fields.{lay_bytes}
use Rattle.dms_audrec.specs.Spelling.{begin_bytes}
use Rattle.dms_audrec.proofs.writing.put_begin.Goals as goal

pub returns : goal.returns
returns c =
    let parts = c.parts_of-number.ensures in
    c.put_rows.ensures ∙ (λ i. lay_bytes 0 (begin_bytes c.args.n (parts.number i) (parts.dump i) (sym parts.rows i)) c.args.to.now)
