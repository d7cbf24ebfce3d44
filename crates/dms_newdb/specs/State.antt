-- The state that a new database stands for.
use Rattle.std.specs.Prelude.{ℕ, ◌⊎◌}
use Rattle.dms_desc.specs.Shape.{Described}
use Rattle.dms_moments.specs.Moments.{Clock, Now, Runs}
use Rattle.dms_site.specs.declared.site.Site.{Ghosts}
use Rattle.dms_site.specs.Files.{Files, Left}
use Rattle.dms_model.specs.Db.{empty_db}
use Rattle.dms_descfile.specs.DescriptionFile.{IsSealed}
use Rattle.dms_creation.specs.Creation.{IsMade, IsUnmade}
use Rattle.dms_run.specs.State.{StateOf, HasNext, HasTag}

-- A new database: point 0 and the empty database of the description, next number 1, and the tag.
pub record StandsNew (tag : ℕ) (desc : Described) (files : Files) : Type 0 where
  pub state : StateOf files 0 desc empty_db
  pub next : HasNext files 1
  pub tagged : HasTag files tag

-- Each outcome that a stop on the way left is one that it could leave at the old moment, or there is no database in it, or it stands for the
-- new one.
abbrev pub BecomesNew : ℕ → Described → Files → Clock Left → Clock Left → Type 0
BecomesNew tag d files old new = Runs old new (λ x. Now old x ⊎ (IsUnmade files x.files ⊎ StandsNew tag d x.files))

-- so it is between two times of a site
abbrev pub BecomesNewSite : {S : Type 0} → Ghosts S → ℕ → Described → S → S → Type 0
BecomesNewSite g tag d a b = BecomesNew tag d (g.files a) (g.clock a) (g.clock b)

-- A new database of a sealed description stands for point 0 and the empty database.
abbrev pub MadeStands : Type 0
MadeStands = (tag : ℕ) (d : Described) (old files : Files) → IsSealed (old 1) d → IsMade tag d old files → StandsNew tag d files
