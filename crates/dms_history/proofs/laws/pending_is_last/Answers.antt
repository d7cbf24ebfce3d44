use Rattle.dms_history.proofs.LastPending.{pending_cuts, no_dump_counts, here_fixed}
use Rattle.dms_history.proofs.laws.pending_is_last.Goals as goal

pub returns : goal.returns
returns c = record { last = pending_cuts; dumps = no_dump_counts; here = here_fixed }
