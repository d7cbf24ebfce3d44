use Rattle.dms_layout.specs.Judging.{bad_parts, raw_read}
use Rattle.dms_layout.proofs.laws.range_law.Goals as goal

pub returns : goal.returns
returns c = record { bad = bad_parts; same = raw_read }
