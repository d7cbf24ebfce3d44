-- Law: scanning finds exactly the entries of a new database.
use Rattle.std.specs.Prelude.{ℕ}
use Rattle.dms_site.specs.Files.{Files}
use Rattle.dms_desc.specs.Shape.{Described}
use Rattle.dms_descfile.specs.DescriptionFile.{IsSealed}
use Rattle.dms_audfile.specs.ScanLaws.{IsFoundWith}
use Rattle.dms_creation.specs.FirstEntries.{first_entries}
use Rattle.dms_creation.specs.Creation.{IsMade}

-- The new database of a sealed description has a trail without refusal, and its entries are the description in parts and the control
-- point 0.
abbrev pub MadeIsFound : Type 0
MadeIsFound = (tag : ℕ) (d : Described) (old files : Files) → IsSealed (old 1) d → IsMade tag d old files → IsFoundWith (first_entries d) files
