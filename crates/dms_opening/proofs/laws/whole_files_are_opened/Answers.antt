use Rattle.dms_opening.proofs.Completed.{whole_is_opened}
use Rattle.dms_opening.proofs.laws.whole_files_are_opened.Goals as goal

pub returns : goal.returns
returns c = whole_is_opened
