use Rattle.dms_opening.proofs.NoneShort.{whole_has_no_short}
use Rattle.dms_opening.proofs.laws.whole_files_have_no_short_block.Goals as goal

pub returns : goal.returns
returns c = whole_has_no_short
