use Rattle.std.proofs.Common.{arith, ap, subst, ◌/◌, length}
use Rattle.dms_audrec.specs.Seen.{entry_seen, how_seen}
use Rattle.dms_audrec.specs.Spelling.{spelling, IsEntry, IsControl}
use Rattle.dms_audrec.specs.Reading.{counts_at}
use Rattle.dms_audrec.proofs.Laid.{control_length, begin_length}
use Rattle.dms_audrec.specs.PairLaws.{counts_many}
use Rattle.dms_audrec.proofs.writing.encode.Goals as goal

pub put_control-requires-clause-few : goal.put_control-requires-clause-few
put_control-requires-clause-few c =
    let list = c.in-Control.list.now in
    let is : IsControl c.in-Control.n c.in-Control.next (counts_at (length list / 8) list) = subst (λ e. IsEntry (entry_seen e)) c.in-Control.is c.requires.entry in
    omega (arith, is.few, counts_many (length list / 8) list)

pub put_control-requires-clause-room : goal.put_control-requires-clause-room
put_control-requires-clause-room c =
    omega (arith, control_length c.in-Control.n c.in-Control.next c.in-Control.list.now, ap (λ e. length (spelling (entry_seen e))) c.in-Control.is, c.requires.room)

pub put_begin-requires-clause-room : goal.put_begin-requires-clause-room
put_begin-requires-clause-room c =
    omega (arith, begin_length c.in-Begin.n (how_seen c.in-Begin.how), ap (λ e. length (spelling (entry_seen e))) c.in-Begin.is, c.requires.room)
