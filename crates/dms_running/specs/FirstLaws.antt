-- Laws: before a reconstruction a pending restore is finished, while the named blocks hold anything.
use Rattle.std.specs.Prelude.{ℕ, ◌<◌, ◌≤◌, ◌≡◌, Bool, false, List, [], ◌∷◌, ◌++◌, take, Some}
use Rattle.dms_site.specs.Files.{Files, stored_of}
use Rattle.dms_history.specs.Events.{AllBlocks, Stored, reconstruct}
use Rattle.dms_history.specs.History.{Pending}
use Rattle.dms_history.specs.Pick.{Dumps, count_at}
use Rattle.dms_history.specs.Here.{here}
use Rattle.dms_history.specs.Restores.{DumpServes, Ready}
use Rattle.dms_history.specs.LawsOfRestores.{with_named}
use Rattle.dms_history.specs.declared.event.FileCount.{FileCount}
use Rattle.dms_history.specs.Entries.{Entry, control_point, counts_in}
use Rattle.dms_history.specs.EntryEvents.{history_of, live_of, next_of}
use Rattle.dms_history.specs.Schemas.{schema_entries}
use Rattle.dms_running.specs.Standing.{Stands}
use Rattle.dms_running.specs.Points.{points_told}
use Rattle.dms_running.specs.Restoring.{Rewritten}
use Rattle.dms_running.specs.ByHow.{IsKeptBy}

-- the blocks of these files, the named ones as they count over the right blocks
abbrev pub as_counted : Dumps → List Entry → (ℕ → ℕ → Bool) → Stored → Files → Stored
as_counted dumps es named right files = with_named named (here dumps (history_of es) right) (stored_of files)

-- outside the named blocks the files hold the right blocks
abbrev pub AgreesBeside : (ℕ → ℕ → Bool) → Stored → Files → Type 0
AgreesBeside named right files = (f b : ℕ) → named f b ≡ false → stored_of files f b ≡ right f b

-- the pending restore keeps the block, and it isn't named
abbrev pub IsKeptBeside : Pending → (ℕ → ℕ → Bool) → ℕ → ℕ → Type 0
IsKeptBeside p named f b = IsKeptBy p.how p.entries p.point f b × (named f b ≡ false)

-- with the named blocks as they count the database stands, with the points over the right blocks
pub record StandsCounted (first : Bool) (es : List Entry) (dumps : Dumps) (base : AllBlocks) (named : ℕ → ℕ → Bool) (right : Stored) (y : Files) : Type 0 where
  pub stands : Stands first es dumps base (as_counted dumps es named right y)
  pub points : points_told dumps es (as_counted dumps es named right y) ≡ points_told dumps es right

abbrev pub AnyWritesFirst : Type 0
AnyWritesFirst = (first : Bool) (es : List Entry) (dumps : Dumps) (base : AllBlocks) (p : Pending) (named : ℕ → ℕ → Bool) (right : Stored) (x y : Files) → (history_of es).pending ≡ Some p
    → Stands first es dumps base right → AgreesBeside named right x → Rewritten (IsKeptBeside p named) x y → StandsCounted first es dumps base named right y

-- A whole Schema and its Control of the restore's point are sealed behind these entries, in part or whole.
abbrev pub first_plan : Pending → ℕ → List ℕ → List (List ℕ) → List FileCount → List Entry
first_plan p next one rest counts = schema_entries (one ∷ rest) ++ control_point p.point next counts ∷ []

-- With the named blocks as they counted the database stands, with the same points; once the Control is sealed the reconstruction to the same point may begin.
pub record EndedCounted (first : Bool) (es : List Entry) (dumps : Dumps) (base : AllBlocks) (p : Pending) (named : ℕ → ℕ → Bool) (d : ℕ) (right : Stored) (y : Files) (plan : List Entry) : Type 0 where
  pub stands : (k : ℕ) → Stands first (es ++ take k plan) dumps base (as_counted dumps es named right y)
  pub points : (k : ℕ) → points_told dumps (es ++ take k plan) (as_counted dumps es named right y) ≡ points_told dumps es right
  pub ready : Ready (reconstruct d named) dumps (live_of (es ++ plan)) base (as_counted dumps es named right y) (stored_of y) p.point

abbrev pub AnyEndsFirst : Type 0
AnyEndsFirst = (first : Bool) (es : List Entry) (dumps : Dumps) (base : AllBlocks) (p : Pending) (named : ℕ → ℕ → Bool) (d : ℕ) (right : Stored) (y : Files) (next : ℕ) (one : List ℕ) (rest : List (List ℕ)) (counts : List FileCount)
    → (history_of es).pending ≡ Some p → Stands first es dumps base right → StandsCounted first es dumps base named right y
    → DumpServes (dumps d) (live_of es) (here dumps (history_of es) right) p.point → next_of es ≤ next → ((f : ℕ) → counts_in counts f ≡ count_at p.entries p.point f)
    → ((f b : ℕ) → b < count_at p.entries p.point f → named f b ≡ false → stored_of y f b ≡ here dumps (history_of es) right f b)
    → EndedCounted first es dumps base p named d right y (first_plan p next one rest counts)
