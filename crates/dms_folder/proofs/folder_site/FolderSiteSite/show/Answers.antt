use Rattle.dms_folder.specs.Shown.{unchanged_steps}
use Rattle.dms_folder.proofs.folder_site.FolderSiteSite.show.Goals as goal

pub returns-clause-moments : goal.returns-clause-moments
returns-clause-moments g c = unchanged_steps c.show.ensures.moments
