-- Laws: a restore of any kind begins, writes and ends, over a half-done one too.
use Rattle.std.specs.Prelude.{ℕ, ◌<◌, ◌≡◌, if◌then◌else◌, Bool, true, false, List, [], ◌∷◌, ◌++◌, length, Some, None}
use Rattle.dms_history.specs.Events.{AllBlocks, Stored, Counts, How, Event, reconstruct, control, begin}
use Rattle.dms_history.specs.Lists.{until_first}
use Rattle.dms_history.specs.Places.{is_point, IsLive}
use Rattle.dms_history.specs.History.{Pending, History, after_event, history, last_point}
use Rattle.dms_history.specs.Agrees.{BeginsAloneEvents}
use Rattle.dms_history.specs.Pick.{Dumps, count_at, blocks_at}
use Rattle.dms_history.specs.Here.{outcome, here}
use Rattle.dms_history.specs.Points.{HasPoint}
use Rattle.dms_history.specs.Restores.{DumpServes, Ready, takes_stored, Steady}

-- Its Begin is sealed: the database is steady, the restore is to leave the content of its point, and each point that stays live keeps its content.
pub record RestoreBegun (how : How) (dumps : Dumps) (h : History) (base : AllBlocks) (counted stored : Stored) (m : ℕ) : Type 0 where
  pub steady : Steady dumps (after_event h (begin m how)) base stored
  pub leaves : outcome how dumps h.live m stored ≡ blocks_at h.live counted m
  pub points : (n : ℕ) → IsLive (until_first (is_point m) h.live) n
      → blocks_at (until_first (is_point m) h.live) (here dumps (after_event h (begin m how)) stored) n ≡ blocks_at h.live counted n

-- With a rebuild or a reconstruct this may come over a pending restore, and the blocks that they don't look at may hold anything.
abbrev pub RestoreBegins : Type 0
RestoreBegins = (how : How) (dumps : Dumps) (h : History) (base : AllBlocks) (counted stored : Stored) (m : ℕ) → Ready how dumps h.live base counted stored m
    → RestoreBegun how dumps h base counted stored m

-- With the blocks as they are written the database is steady, and what counts as each block is what counted.
pub record WritesKeep (dumps : Dumps) (h : History) (base : AllBlocks) (stored written : Stored) : Type 0 where
  pub steady : Steady dumps h base written
  pub counts : here dumps h written ≡ here dumps h stored

-- It writes, torn or whole, no block below its file's count that it takes from what is stored: what counts stays as it is.
abbrev pub RestoreWrites : Type 0
RestoreWrites = (dumps : Dumps) (h : History) (base : AllBlocks) (stored written : Stored) (p : Pending) → h.pending ≡ Some p → Steady dumps h base stored
    → ((f b : ℕ) → b < count_at p.entries p.point f → takes_stored p.how p.entries p.point f b ≡ true → written f b ≡ stored f b)
    → WritesKeep dumps h base stored written

-- Its Control is sealed: the database is steady, and each live point stays live with its content.
pub record RestoreEnded (dumps : Dumps) (h : History) (base : AllBlocks) (stored written : Stored) (p : Pending) (next : ℕ) (counts : Counts) (described : Bool) : Type 0 where
  pub steady : Steady dumps (after_event h (control p.point next counts described)) base written
  pub points : (n : ℕ) → IsLive h.live n
      → HasPoint (h.live ++ control p.point next counts described ∷ []) written n (blocks_at h.live (here dumps h stored) n)

-- All blocks stand as it is to leave them, and its Control is sealed: each live point stays live with its content.
abbrev pub RestoreEnds : Type 0
RestoreEnds = (dumps : Dumps) (h : History) (base : AllBlocks) (stored written : Stored) (p : Pending) (next : ℕ) (counts : Counts) (described : Bool) → h.pending ≡ Some p → Steady dumps h base stored
    → ((f : ℕ) → counts f ≡ length (outcome p.how dumps p.entries p.point stored f))
    → ((f b : ℕ) → b < counts f → written f b ≡ here dumps h stored f b)
    → RestoreEnded dumps h base stored written p next counts described

-- the blocks that are named as something counts them, the others as they are
abbrev pub with_named : (ℕ → ℕ → Bool) → Stored → Stored → Stored
with_named named counted stored f b = if named f b then counted f b else stored f b

-- A pending restore has been finished before a reconstruction, and only the blocks that aren't named were looked at.
pub record EndedFirst (dumps : Dumps) (h : History) (base : AllBlocks) (right written : Stored) (p : Pending) (next d : ℕ) (named : ℕ → ℕ → Bool) (counts : Counts) (described : Bool) : Type 0 where
  pub steady : Steady dumps (after_event h (control p.point next counts described)) base (with_named named (here dumps h right) written)
  pub ready : Ready (reconstruct d named) dumps (h.live ++ control p.point next counts described ∷ []) base (with_named named (here dumps h right) written) written p.point
  pub points : (n : ℕ) → IsLive h.live n
      → HasPoint (h.live ++ control p.point next counts described ∷ []) (with_named named (here dumps h right) written) n (blocks_at h.live (here dumps h right) n)

-- Before a reconstruction a pending restore is finished, while the named blocks hold anything: with them as they count the database is
-- steady, the reconstruction to the same point may begin where its dump serves that point, and each live point stays live with its
-- content.
abbrev pub EndsFirst : Type 0
EndsFirst = (dumps : Dumps) (h : History) (base : AllBlocks) (right stored written : Stored) (p : Pending) (next d : ℕ) (named : ℕ → ℕ → Bool) (counts : Counts) (described : Bool) → h.pending ≡ Some p
    → Steady dumps h base right → DumpServes (dumps d) h.live (here dumps h right) p.point
    → ((f b : ℕ) → named f b ≡ false → stored f b ≡ right f b)
    → ((f : ℕ) → counts f ≡ length (outcome p.how dumps p.entries p.point stored f))
    → ((f b : ℕ) → b < counts f → named f b ≡ false → written f b ≡ here dumps h stored f b)
    → EndedFirst dumps h base right written p next d named counts described

-- At each moment within that completion: with the named blocks replaced by what counted, nothing has changed.
abbrev pub PendingWritesFirst : Type 0
PendingWritesFirst = (dumps : Dumps) (h : History) (base : AllBlocks) (right stored written : Stored) (p : Pending) (named : ℕ → ℕ → Bool) → h.pending ≡ Some p → Steady dumps h base right
    → ((f b : ℕ) → named f b ≡ false → stored f b ≡ right f b)
    → ((f b : ℕ) → named f b ≡ false → b < count_at p.entries p.point f → takes_stored p.how p.entries p.point f b ≡ true → written f b ≡ stored f b)
    → WritesKeep dumps h base right (with_named named (here dumps h right) written)

-- Where no restore is pending no dump counts, so a new dump changes nothing.
abbrev pub NoDumpCounts : Type 0
NoDumpCounts = (dumps others : Dumps) (h : History) (base : AllBlocks) (stored : Stored) → h.pending ≡ None → Steady dumps h base stored → Steady others h base stored

-- While a restore is pending, the live entries end at the place of its point, which is the last point.
pub record PendingCut (entries : List Event) (p : Pending) : Type 0 where
  pub cut : (history entries).live ≡ until_first (is_point p.point) p.entries
  pub last : last_point (history entries) ≡ Some p.point
  pub lives : (n : ℕ) → IsLive (history entries).live n → IsLive (history entries).live p.point

abbrev pub PendingCuts : Type 0
PendingCuts = (entries : List Event) (p : Pending) → BeginsAloneEvents entries → (history entries).pending ≡ Some p → PendingCut entries p

-- While a restore is pending, what counts is the same whatever has been written so far.
abbrev pub HereFixed : Type 0
HereFixed = (dumps : Dumps) (h : History) (base : AllBlocks) (one two : Stored) (p : Pending) → h.pending ≡ Some p → Steady dumps h base one → Steady dumps h base two
    → here dumps h one ≡ here dumps h two
