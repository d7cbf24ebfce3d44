use Rattle.dms_remote.proofs.Traced.{traces_trail, ends_behind, traces_more, traces_same}
use Rattle.dms_remote.proofs.laws.traces_are_kept.Goals as goal

pub returns : goal.returns
returns c = record { trail = traces_trail; behind = ends_behind; more = traces_more; same = traces_same }
