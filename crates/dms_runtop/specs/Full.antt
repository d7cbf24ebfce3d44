-- Why an audit has no room.
use Rattle.std.specs.Prelude.{ℕ, ◌≡◌, ◌⊎◌, ◌+◌, ◌<◌, true, IsTrue}
use Rattle.dms_site.specs.declared.site.Site.{Ghosts}
use Rattle.dms_site.specs.Files.{Files}
use Rattle.dms_audfile.specs.Gates.{is_full}
use Rattle.dms_opening.specs.Openings.{IsTrailFound}
use Rattle.dms_status.specs.declared.status.LimitKind.TheVariants.{AuditFile}
use Rattle.dms_status.specs.declared.status.Status.{Status}
use Rattle.dms_status.specs.declared.status.Status.TheVariants.{Limit, DiskFault, Memory}

-- A trail that begins with file `first` and has so many blocks a file goes on behind audit file k: it begins behind that file, or all gates of
-- that file are open.
abbrev pub TrailPasses : ℕ → ℕ → ℕ → Files → Type 0
TrailPasses total first k files = (10000 + k < first) ⊎ (is_full total (files (10000 + k)) ≡ true)

-- The audit has no room up to audit file k: the trail that was found in the files of then goes on behind that file now.
pub record IsFullAt (k : ℕ) (then now : Files) : Type 0 where
  pub total : ℕ
  pub first : ℕ
  pub trail : IsTrailFound total first then
  pub passes : TrailPasses total first k now

-- the status of an audit that has no room up to this file, or of what hindered a look at it
abbrev pub IsOfFull : ℕ → Status → Type 0
IsOfFull k status = (status ≡ Limit (AuditFile k)) ⊎ ((status ≡ DiskFault) ⊎ (status ≡ Memory))

module _ {S : Type 0} (g : Ghosts S) where
  -- at status 8 of an audit file the trail goes on behind that file
  abbrev pub PassesAtFull : ℕ → ℕ → Status → S → Type 0
  PassesAtFull total first status site = (k : ℕ) → status ≡ Limit (AuditFile k) → IsTrue g.tells → TrailPasses total first k (g.files site)

  -- status 8 of an audit file comes only where the audit has no room up to that file
  abbrev pub HasNoRoom : S → S → Status → Type 0
  HasNoRoom old new status = (k : ℕ) → status ≡ Limit (AuditFile k) → IsTrue g.tells → IsFullAt k (g.files old) (g.files new)
