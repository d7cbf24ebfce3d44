use Rattle.dms_run.proofs.Words.{blocks, lives}
use Rattle.dms_run.proofs.Lowering.{files}
use Rattle.dms_run.proofs.Standing.{stands}
use Rattle.dms_run.proofs.laws.files_law.Goals as goal

pub returns : goal.returns
returns c = record { blocks = blocks; lives = lives; stops = files; stands = stands }
