-- Restores one after another, each stopped anywhere or not.
use Rattle.std.specs.Prelude.{ℕ, ◌<◌, ◌≡◌, Bool, true, List, [], ◌∷◌, length, Some}
use Rattle.dms_history.specs.Events.{AllBlocks, Stored, Counts, How, control, begin}
use Rattle.dms_history.specs.History.{Pending, History, after_event}
use Rattle.dms_history.specs.Pick.{Dumps, count_at}
use Rattle.dms_history.specs.Here.{outcome, here}
use Rattle.dms_history.specs.Places.{IsLive}
use Rattle.dms_history.specs.Pick.{blocks_at}
use Rattle.dms_history.specs.Points.{HasPoint}
use Rattle.dms_history.specs.Restores.{Ready, takes_stored, Steady}

-- what is on the disk
pub record Disk : Type 0 where
  pub history : History
  pub stored : Stored

-- began how m: the Begin of a restore to point m is sealed. wrote written: the structure files hold something new.
-- ended written m next counts described: the Control that ends the restore is sealed.
pub data RestoreStep : Type 0 where
  began : How → ℕ → RestoreStep
  wrote : Stored → RestoreStep
  ended : Stored → ℕ → ℕ → Counts → Bool → RestoreStep

abbrev pub disk_after_step : Disk → RestoreStep → Disk
disk_after_step d (began how m) = record { history = after_event d.history (begin m how); stored = d.stored }
disk_after_step d (wrote written) = record { history = d.history; stored = written }
disk_after_step d (ended written m next counts described) = record { history = after_event d.history (control m next counts described); stored = written }

abbrev pub all_moved : Disk → List RestoreStep → Disk
all_moved d [] = d
all_moved d (s ∷ ss) = all_moved (disk_after_step d s) ss

-- A restore is pending, and each block below its file's count that it takes from what is stored stays.
pub record MayWrite (dumps : Dumps) (d : Disk) (written : Stored) : Type 0 where
  pub p : Pending
  pub is : d.history.pending ≡ Some p
  pub stays : (f b : ℕ) → b < count_at p.entries p.point f → takes_stored p.how p.entries p.point f b ≡ true → written f b ≡ d.stored f b

-- A restore is pending, this is its point, and all blocks stand as it is to leave them, with their counts.
pub record MayEnd (dumps : Dumps) (d : Disk) (written : Stored) (m : ℕ) (counts : Counts) : Type 0 where
  pub p : Pending
  pub is : d.history.pending ≡ Some p
  pub its_point : m ≡ p.point
  pub counted : (f : ℕ) → counts f ≡ length (outcome p.how dumps p.entries p.point d.stored f)
  pub stand : (f b : ℕ) → b < counts f → written f b ≡ here dumps d.history d.stored f b

-- A restore is begun where it may be, over a pending one too; it writes blocks, torn or whole; it ends when all stand as they are to be.
abbrev pub May : Dumps → AllBlocks → Disk → RestoreStep → Type 0
May dumps base d (began how m) = Ready how dumps d.history.live base (here dumps d.history d.stored) d.stored m
May dumps base d (wrote written) = MayWrite dumps d written
May dumps base d (ended written m next counts described) = MayEnd dumps d written m counts

abbrev pub AllMay : Dumps → AllBlocks → Disk → List RestoreStep → Type 0
AllMay dumps base d [] = Unit {0}
AllMay dumps base d (s ∷ ss) = May dumps base d s × AllMay dumps base (disk_after_step d s) ss

-- the content at a point, a restore pending or not
abbrev pub content_at : Dumps → Disk → ℕ → AllBlocks
content_at dumps d n = blocks_at d.history.live (here dumps d.history d.stored) n

-- The database is steady after all steps, and each point that is live then was live before them, with the same content.
pub record StepsKeep (dumps : Dumps) (base : AllBlocks) (d later : Disk) : Type 0 where
  pub steady : Steady dumps later.history base later.stored
  pub points : (n : ℕ) → IsLive later.history.live n → HasPoint d.history.live (here dumps d.history d.stored) n (content_at dumps later n)

-- Law: what holds at every moment holds after all steps, and each point that is live then was live before them.
abbrev pub HoweverOften : Type 0
HoweverOften = (dumps : Dumps) (base : AllBlocks) (d : Disk) (steps : List RestoreStep) → Steady dumps d.history base d.stored → AllMay dumps base d steps
    → StepsKeep dumps base d (all_moved d steps)

abbrev pub disk_at_begin : How → History → ℕ → Stored → Disk
disk_at_begin how h m stored = record { history = after_event h (begin m how); stored = stored }

-- Law: a restore is begun over blocks that may hold anything where its rule doesn't look, and whatever follows,
-- each point that is live in the end has the content that it had before.
abbrev pub FromAnything : Type 0
FromAnything = (how : How) (dumps : Dumps) (h : History) (base : AllBlocks) (counted stored : Stored) (m : ℕ) (steps : List RestoreStep) → Ready how dumps h.live base counted stored m
    → AllMay dumps base (disk_at_begin how h m stored) steps
    → (n : ℕ) → IsLive (all_moved (disk_at_begin how h m stored) steps).history.live n
    → HasPoint h.live counted n (content_at dumps (all_moved (disk_at_begin how h m stored) steps) n)
