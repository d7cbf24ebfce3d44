-- Laws: each step of a database that runs keeps it steady.
use Rattle.std.specs.Prelude.{ℕ, ◌<◌, ◌≤◌, ◌≡◌, Bool, true, false, List, [], ◌∷◌, ◌++◌, length, Option, None}
use Rattle.dms_history.specs.Events.{BlockBytes, AllBlocks, Stored, Counts, Event, change, quiet, control, block_in}
use Rattle.dms_history.specs.Replay.{TellsBefore, Chain, replay}
use Rattle.dms_history.specs.Lists.{has, after_last}
use Rattle.dms_history.specs.Places.{is_control, is_described, IsLive}
use Rattle.dms_history.specs.History.{History, after_event, history_from}
use Rattle.dms_history.specs.Images.{last_after}
use Rattle.dms_history.specs.Pick.{Dumps, content_of, blocks_at}
use Rattle.dms_history.specs.Base.{from_control, Sound}
use Rattle.dms_history.specs.Agrees.{Numbered}
use Rattle.dms_history.specs.Restores.{Steady}
use Rattle.dms_history.specs.Points.{HasPoint}

-- One more change is sealed, which tells what stood before it.
abbrev pub ChangesBlock : Type 0
ChangesBlock = (entries : List Event) (base : AllBlocks) (stored : Stored) (f b : ℕ) (before : Option BlockBytes) (after : BlockBytes) → Sound entries base stored
    → TellsBefore b before (replay entries base f) → Sound (entries ++ change f b before after ∷ []) base stored

-- One more quiet point is sealed.
abbrev pub Quiets : Type 0
Quiets = (entries : List Event) (base : AllBlocks) (stored : Stored) (n : ℕ) → Sound entries base stored → Sound (entries ++ quiet n ∷ []) base stored

-- Blocks with a change after the last Control are written, torn or whole, synced or not: each other block that is there stays.
abbrev pub WritesEarly : Type 0
WritesEarly = (entries : List Event) (base : AllBlocks) (stored written : Stored) → Sound entries base stored
    → ((f b : ℕ) → b < length (replay entries base f) → last_after f b (after_last is_control entries) ≡ None → written f b ≡ stored f b) → Sound entries base written

-- All blocks stand as the content is, and a Control with its counts is sealed.
abbrev pub Controls : Type 0
Controls = (entries : List Event) (base : AllBlocks) (stored written : Stored) (n next : ℕ) (counts : Counts) (described : Bool) → Sound entries base stored
    → ((f : ℕ) → counts f ≡ length (replay entries base f)) → ((f b : ℕ) → b < length (replay entries base f) → written f b ≡ block_in (replay entries base) f b)
    → Sound (entries ++ control n next counts described ∷ []) base written

-- The same four over a whole history, whose prefix may have been removed.
pub record RunsOn (dumps : Dumps) (h : History) (base : AllBlocks) (stored : Stored) : Type 0 where
  pub change : (f b : ℕ) (before : Option BlockBytes) (after : BlockBytes) → TellsBefore b before (replay (from_control h.live) base f) → Steady dumps (after_event h (change f b before after)) base stored
  pub quiet : (n : ℕ) → Steady dumps (after_event h (quiet n)) base stored
  pub writes : (written : Stored) → ((f b : ℕ) → b < length (replay (from_control h.live) base f) → last_after f b (after_last is_control (from_control h.live)) ≡ None → written f b ≡ stored f b)
      → Steady dumps h base written
  pub control : (written : Stored) (n next : ℕ) (counts : Counts) (described : Bool) → ((f : ℕ) → counts f ≡ length (replay (from_control h.live) base f))
      → ((f b : ℕ) → b < length (replay (from_control h.live) base f) → written f b ≡ block_in (replay (from_control h.live) base) f b)
      → Steady dumps (after_event h (control n next counts described)) base written

abbrev pub RunsSteady : Type 0
RunsSteady = (dumps : Dumps) (h : History) (base : AllBlocks) (stored : Stored) → h.pending ≡ None → has is_control h.live ≡ true → Steady dumps h base stored
    → RunsOn dumps h base stored

-- What one audit block seals at once, changes and quiet points in turn: all of it is live.
pub record SealedRun (dumps : Dumps) (h : History) (base : AllBlocks) (stored : Stored) (es : List Event) : Type 0 where
  pub live : (history_from h es).live ≡ h.live ++ es
  pub none : (history_from h es).pending ≡ None
  pub steady : Steady dumps (history_from h es) base stored

abbrev pub SealsRun : Type 0
SealsRun = (dumps : Dumps) (h : History) (base : AllBlocks) (stored : Stored) (es : List Event) → h.pending ≡ None → has is_control h.live ≡ true → Steady dumps h base stored
    → Chain (from_control h.live ++ es) base → has is_control es ≡ false → SealedRun dumps h base stored es

-- Each live point stays live with its content while the list of live entries goes on, whatever was written by then.
abbrev pub PointsGoOn : Type 0
PointsGoOn = (live more : List Event) (base : AllBlocks) (counted later : Stored) (n : ℕ) → Sound (from_control live) base counted → Sound (from_control (live ++ more)) base later
    → IsLive live n → HasPoint (live ++ more) later n (blocks_at live counted n)

-- A new quiet point is live, with the content of now.
abbrev pub QuietIsLive : Type 0
QuietIsLive = (live : List Event) (next : ℕ) (base : AllBlocks) (counted : Stored) (n : ℕ) → Numbered live next → next ≤ n
    → has is_described live ≡ true → Sound (from_control live) base counted
    → HasPoint (live ++ quiet n ∷ []) counted n (replay (from_control live) base)

-- A Control with a number that is free makes a point, which is live with the content of now.
abbrev pub LevelIsLive : Type 0
LevelIsLive = (live : List Event) (next : ℕ) (base : AllBlocks) (later : Stored) (n after : ℕ) (counts : Counts) (described : Bool) → Numbered live next → next ≤ n
    → has is_described live ≡ true → Sound (from_control (live ++ control n after counts described ∷ [])) base later
    → HasPoint (live ++ control n after counts described ∷ []) later n (replay (from_control live) base)

-- Behind a Control the files hold the content.
abbrev pub ControlStands : Type 0
ControlStands = (live : List Event) (base : AllBlocks) (stored : Stored) (n next : ℕ) (counts : Counts) (described : Bool)
    → Sound (from_control (live ++ control n next counts described ∷ [])) base stored
    → content_of counts stored ≡ replay (from_control (live ++ control n next counts described ∷ [])) base
