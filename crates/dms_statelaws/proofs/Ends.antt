-- The files of a database that runs, of which nothing waits to be sealed.
use Rattle.std.proofs.Common.{◌≡◌, List, [], ◌++◌, sym, ◌∙◌, ap, append-nil}
use Rattle.dms_site.specs.Files.{Files, stored_of}
use Rattle.dms_history.specs.Entries.{Entry}
use Rattle.dms_history.specs.EntryEvents.{next_of}
use Rattle.dms_running.specs.AnyLaws.{HoldsSame}
use Rattle.dms_running.specs.Points.{points_told, points_of, next_in}
use Rattle.dms_running.specs.Standing.{IsWhole}
use Rattle.dms_running.proofs.Appending.{running_whole}
use Rattle.dms_restore.specs.Logging as logs
use Rattle.dms_restore.specs.Logging.{LogView, telling, state, waits, LogRuns, points, entries}
use Rattle.dms_restore.proofs.Logs.{ReadsNow}

module _ (v : LogView) (r : LogRuns v) (read : ReadsNow v) (nothing : waits v.end ≡ []) where
  pub log_whole : IsWhole (telling v) v.files
  log_whole = running_whole (telling v) (state v) r.runs read

  pub sealed_all : entries v ≡ (telling v).entries v.files
  sealed_all = ap (λ (l : List Entry). (telling v).entries v.files ++ l) nothing ∙ append-nil ((telling v).entries v.files)

  points_there : points v ≡ points_of (telling v) v.files
  points_there = ap (λ (l : List Entry). points_told ((telling v).dumps v.files) l (stored_of v.files)) sealed_all

  next_there : logs.next v ≡ next_in (telling v) v.files
  next_there = ap (λ (l : List Entry). next_of l) sealed_all

  pub runs_same : (old : Files) → points v ≡ points_of (telling v) old → logs.next v ≡ next_in (telling v) old → HoldsSame (telling v) old v.files
  runs_same old same next = record { whole = log_whole; points = sym points_there ∙ same; next = sym next_there ∙ next }
