-- What a statement wants, as it is asked of a database.
use Rattle.std.specs.Prelude.{ℕ, Option, Some, None}
use Rattle.dms_site.specs.Files.{Files}
use Rattle.dms_history.specs.History.{last_point}
use Rattle.dms_history.specs.EntryEvents.{history_of}
use Rattle.dms_audfile.specs.TrailEntries.{trail_entries}
use Rattle.dms_opening.specs.Asked.{number_or}
use Rattle.dms_opening.specs.declared.asked.Asked.{Asked}
use Rattle.dms_opening.specs.declared.asked.Asked.TheVariants.{Rollback, Rebuild, Reconstruct}
use Rattle.dms_recovery.specs.declared.wanted.Wanted.{Wanted}
use Rattle.dms_recovery.specs.declared.wanted.Wanted.TheVariants as wants

-- the point that is named, else the last one
abbrev pub chosen : Option ℕ → Option ℕ → ℕ
chosen None last = number_or last
chosen (Some n) last = n

-- what is asked, by the last point
abbrev pub asked_with : Option ℕ → Wanted → Asked
asked_with last (wants.Rollback n) = Rollback n
asked_with last (wants.Rebuild d point) = Rebuild d (chosen point last)
asked_with last (wants.Reconstruct d) = Reconstruct d

-- the last point of the files of a trail
abbrev pub last_of : ℕ → ℕ → Files → Option ℕ
last_of total first files = last_point (history_of (trail_entries total first files))

-- what is asked of them
abbrev pub asked_for : ℕ → ℕ → Files → Wanted → Asked
asked_for total first files wanted = asked_with (last_of total first files) wanted

-- the point that is named, else the last one of the files of a trail
abbrev pub chosen_point : ℕ → ℕ → Files → Option ℕ → ℕ
chosen_point total first files point = chosen point (last_of total first files)
