-- Laws of openings.
use Rattle.std.specs.Prelude.{ℕ, ◌≤◌, ◌≡◌, List, length, Some}
use Rattle.dms_site.specs.Files.{Files}
use Rattle.dms_history.specs.Places.{IsLive}
use Rattle.dms_history.specs.History.{last_point}
use Rattle.dms_history.specs.Entries.{Entry}
use Rattle.dms_history.specs.EntryEvents.{history_of, live_of}
use Rattle.dms_history.specs.SchemaAt.{schema_at}
use Rattle.dms_audfile.specs.TrailEntries.{trail_entries}
use Rattle.dms_running.specs.Standing.{IsWhole}
use Rattle.dms_opening.specs.declared.choosing.OpenFault.{OpenFault}
use Rattle.dms_restore.specs.Logging.{telling_of}
use Rattle.dms_opening.specs.Plans.{IsPlainFault, RefusesPlan}

-- The last point is live, and the Schema there has from 1 to 65,535 bytes.
pub record LastIsDescribed (entries : List Entry) : Type 0 where
  pub point : ℕ
  pub last : last_point (history_of entries) ≡ Some point
  pub lives : IsLive (live_of entries) point
  pub bytes : List ℕ
  pub schema_is : schema_at entries point ≡ Some bytes
  pub some : 1 ≤ length bytes
  pub few : length bytes ≤ 65535

-- Nothing but a call of the site or want of memory keeps an opening from files that hold a database, whose last point is live and described.
abbrev pub WholeIsOpened : Type 0
WholeIsOpened = (total first : ℕ) (files : Files) (fault : OpenFault) → IsWhole (telling_of total first) files → LastIsDescribed (trail_entries total first files)
    → RefusesPlan total first files fault → IsPlainFault fault
