use Rattle.dms_model.specs.Db.{empty_db}
use Rattle.dasdl_laws.proofs.Sound.{well_formed}
use Rattle.dms_scriptlaws.proofs.Formed.{runnable}
use Rattle.dms_laws.proofs.Sound.{empty_valid}
use Rattle.dms_scriptlaws.proofs.Scripts.{stay_valid, tells_true}
use Rattle.dms_scriptlaws.proofs.valid.scripts_stay_valid.Goals as goal

pub returns-clause-valid : goal.returns-clause-valid
returns-clause-valid c = λ text s d read made first lines. stay_valid d (runnable d (well_formed text s d read made)) empty_db (empty_valid d) first lines

pub returns-clause-told : goal.returns-clause-told
returns-clause-told c = λ text s d read made first lines. tells_true d (runnable d (well_formed text s d read made)) empty_db (empty_valid d) first lines
