-- What is done for what is asked of a database, where nothing is refused.
use Rattle.std.specs.Prelude.{ℕ, ◌≡◌, Bool, true, false, List, [], Option, Some, None}
use Rattle.dms_history.specs.Places.{IsLive}
use Rattle.dms_history.specs.History.{Pending, History, last_point}
use Rattle.dms_history.specs.Entries.{Kind, by_halt_load, by_roll_back, by_rebuild, by_reconstruct, how_of}
use Rattle.dms_history.specs.declared.event.Row.{Row}
use Rattle.dms_opening.specs.declared.asked.Asked.{Asked}
use Rattle.dms_opening.specs.declared.asked.Asked.TheVariants.{HaltLoad, Rollback, Rebuild, Reconstruct}

-- the restore that is pending goes on first, but for a rebuild
abbrev pub goes_first : {A : Type 0} → Asked → Option A → Option A
goes_first HaltLoad pending = pending
goes_first (Rollback n) pending = pending
goes_first (Rebuild d n) pending = None
goes_first (Reconstruct d) pending = pending

-- the point that is asked for, by the last one
abbrev pub point_asked : Asked → Option ℕ → Option ℕ
point_asked HaltLoad last = last
point_asked (Rollback n) last = Some n
point_asked (Rebuild d n) last = Some n
point_asked (Reconstruct d) last = last

-- how the restore goes that is asked for; a reconstruction is one of these rows
abbrev pub kind_asked : Asked → List Row → Kind
kind_asked HaltLoad rows = by_halt_load
kind_asked (Rollback n) rows = by_roll_back
kind_asked (Rebuild d n) rows = by_rebuild d
kind_asked (Reconstruct d) rows = by_reconstruct d rows

-- The restore that is pending goes on, but for a rebuild; where none goes on, the one that is asked for begins, to a point that is live.
pub record IsDone (h : History) (asked : Asked) (rows : List Row) (begins : Bool) (point : ℕ) (p : Pending) : Type 0 where
  pub point_is : p.point ≡ point
  pub new : begins ≡ true → (goes_first asked h.pending ≡ None) × (point_asked asked (last_point h) ≡ Some point) × IsLive h.live point
      × (p ≡ record { entries = h.live; point = point; how = how_of (kind_asked asked rows) })
  pub goes_on : begins ≡ false → goes_first asked h.pending ≡ Some p

-- An opening begins a restore by halt/load to the last point, which is live, or goes on with the restore that is pending.
abbrev pub IsOpening : History → Bool → ℕ → Pending → Type 0
IsOpening h begins point p = IsDone h HaltLoad [] begins point p
