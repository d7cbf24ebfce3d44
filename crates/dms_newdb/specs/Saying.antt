-- What stays where a command does nothing.
use Rattle.std.specs.Prelude.{◌≡◌, ℕ, List}
use Rattle.dms_moments.specs.Moments.{Clock, Steps}
use Rattle.dms_desc.specs.Shape.{Described}
use Rattle.dms_descfile.specs.DescriptionFile.{IsSealed}
use Rattle.dms_site.specs.declared.site.Site.{Ghosts}
use Rattle.dms_site.specs.Files.{Files, Left, Same}

-- the files and the text stay, and a stop on the way leaves what it could leave before
pub record FilesAndTextStay (files files' : Files) (said said' : List ℕ) (old new : Clock Left) : Type 0 where
  pub files_is : files' ≡ files
  pub said_is : said' ≡ said
  pub moments : Steps Same old new

-- so it is between two times of a site
abbrev pub SiteAndTextStay : {S : Type 0} → Ghosts S → S → S → Type 0
SiteAndTextStay g a b = FilesAndTextStay (g.files a) (g.files b) (g.said a) (g.said b) (g.clock a) (g.clock b)

-- it holds of the description that file 1 is, sealed
abbrev pub OfSealed : Files → (Described → Type 0) → Type 0
OfSealed files P = (d : Described) → IsSealed (files 1) d → P d
