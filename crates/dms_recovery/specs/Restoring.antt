-- A database that a restore may be begun over.
use Rattle.std.specs.Prelude.{ℕ, ◌≤◌, ◌≡◌, false, List, None}
use Rattle.dms_site.specs.Files.{Files, stored_of}
use Rattle.dms_history.specs.Events.{How, halt_load, back_out, roll_back, rebuild, reconstruct}
use Rattle.dms_history.specs.Here.{here}
use Rattle.dms_history.specs.Restores.{may_hold_anything}
use Rattle.dms_history.specs.Entries.{how_of}
use Rattle.dms_history.specs.EntryEvents.{history_of}
use Rattle.dms_history.specs.declared.event.Row.{Row}
use Rattle.dms_audfile.specs.TrailEntries.{trail_entries}
use Rattle.dms_running.specs.Standing.{IsWhole}
use Rattle.dms_restore.specs.Dumped.{dumps_of}
use Rattle.dms_restore.specs.Logging.{telling_of}
use Rattle.dms_opening.specs.Doing.{goes_first, kind_asked}
use Rattle.dms_opening.specs.Openings.{IsTrailFound}
use Rattle.dms_recovery.specs.declared.wanted.Wanted.{Wanted}
use Rattle.dms_recovery.specs.Leaving.{HasCopiedDump}
use Rattle.dms_recovery.specs.Wanting.{asked_for}

-- a restore by a dump has a true one
abbrev pub HasDumpFor : ℕ → ℕ → Files → How → Type 0
HasDumpFor total first u halt_load = Unit {0}
HasDumpFor total first u back_out = Unit {0}
HasDumpFor total first u roll_back = Unit {0}
HasDumpFor total first u (rebuild d) = HasCopiedDump total first u d
HasDumpFor total first u (reconstruct d named) = HasCopiedDump total first u d

-- how what is wanted goes
abbrev pub how_wanted : ℕ → ℕ → Files → Wanted → List Row → How
how_wanted total first files wanted rows = how_of (kind_asked (asked_for total first files wanted) rows)

-- Scanning refuses nothing in these files, and no restore goes first. They are those of a database but for the structure blocks at which the restore doesn't
-- look, and a dump by which it goes is a true one of that database.
pub record MayRestore (total first : ℕ) (files u : Files) (wanted : Wanted) (rows : List Row) : Type 0 where
  pub trail : IsTrailFound total first files
  pub none : goes_first (asked_for total first files wanted) (history_of (trail_entries total first files)).pending ≡ None
  pub same : (g : ℕ) → g ≤ 30000 → files g ≡ u g
  pub whole : IsWhole (telling_of total first) u
  pub blocks : (f b : ℕ) → may_hold_anything (how_wanted total first files wanted rows) f b ≡ false
      → stored_of files f b ≡ here (dumps_of u) (history_of (trail_entries total first u)) (stored_of u) f b
  pub dump : HasDumpFor total first u (how_wanted total first files wanted rows)
