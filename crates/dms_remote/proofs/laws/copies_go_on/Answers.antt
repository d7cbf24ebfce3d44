use Rattle.dms_remote.proofs.Next.{plain_is_next, control_is_next, first_is_next, begin_is_next, idle_is_next}
use Rattle.dms_remote.proofs.laws.copies_go_on.Goals as goal

pub returns : goal.returns
returns c = record { plain = plain_is_next; control = control_is_next; first = first_is_next; begin = begin_is_next; idle = idle_is_next }
