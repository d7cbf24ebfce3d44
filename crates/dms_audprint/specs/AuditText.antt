-- What `print audit` prints: a line for each entry of the trail, in order.
use Rattle.std.specs.Prelude.{ℕ, ◌-◌, ◌≡◌, ◌⊎◌, List, [], ◌∷◌, ◌++◌, take}
use Rattle.dms_site.specs.Files.{Files}
use Rattle.dms_audfile.specs.Scanning.{Placed, found}
use Rattle.dms_audfile.specs.AuditTrail.{TrailIs}
use Rattle.dms_audprint.specs.Lines.{entry_line}

-- the line of an entry of the trail, audit file k being file 10,000 + k
abbrev pub placed_line : Placed → List ℕ
placed_line p = entry_line (p.place.file - 10000) p.place.block p.entry

-- the lines of these entries, each of them sealed, whether it is void or not
abbrev pub audit_text : List Placed → List ℕ
audit_text [] = []
audit_text (p ∷ ps) = placed_line p ++ audit_text ps

-- these files hold a trail, with a whole description and its control point
pub record HasTrail (files : Files) : Type 0 where
  pub entries : List Placed
  pub trail : TrailIs files (found entries)

-- the lines of all entries of the trail of these files were printed
pub record PrintsAudit (files : Files) (old new : List ℕ) : Type 0 where
  pub entries : List Placed
  pub trail : TrailIs files (found entries)
  pub said : new ≡ old ++ audit_text entries

-- a prefix of them was printed
pub record PrintsAuditPrefix (files : Files) (old new : List ℕ) : Type 0 where
  pub entries : List Placed
  pub trail : TrailIs files (found entries)
  pub some : ℕ
  pub said : new ≡ old ++ take some (audit_text entries)

-- nothing was printed, or a prefix of them
abbrev pub PrintsPart : Files → List ℕ → List ℕ → Type 0
PrintsPart files old new = (new ≡ old) ⊎ PrintsAuditPrefix files old new
