use Rattle.dms_folder.specs.Shown.{unchanged_steps}
use Rattle.dms_folder.proofs.folder_site.FolderSiteSite.last_present.Goals as goal

pub returns-in-Ok-clause-moments : goal.returns-in-Ok-clause-moments
returns-in-Ok-clause-moments g c = unchanged_steps c.last_present.ensures.moments

pub returns-in-Err-clause-moments : goal.returns-in-Err-clause-moments
returns-in-Err-clause-moments g c = unchanged_steps c.last_present.ensures.moments
