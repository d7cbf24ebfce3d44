use Rattle.std.proofs.Common.{sym, arith, ap, ◌∙◌, length}
use Rattle.dms_audrec.specs.Seen.{entry_seen, how_seen}
use Rattle.dms_audrec.specs.Spelling.{spelling}
use Rattle.dms_audrec.proofs.Laid.{control_length, begin_length}
use Rattle.dms_audrec.proofs.writing.length.Goals as goal

pub returns-in-Control : goal.returns-in-Control
returns-in-Control c = sym (control_length c.in-Control.field-0 c.in-Control.field-1 c.in-Control.list.now) ∙ ap (λ e. length (spelling (entry_seen e))) (sym c.in-Control.is)

pub returns-in-Begin : goal.returns-in-Begin
returns-in-Begin c =
    omega (arith, begin_length c.in-Begin.field-0 (how_seen c.in-Begin.how), ap (λ e. length (spelling (entry_seen e))) c.in-Begin.is, c.parts_of-number.ensures.count)
