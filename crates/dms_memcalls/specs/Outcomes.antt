-- What a stop may leave of a folder, by all that was done to it.
use Rattle.std.specs.Prelude.{ℕ, ◌≤◌, ◌≡◌, ◌≢◌, ◌⊎◌, None, List, [], ◌∷◌, length, take, Some, IsTrue}
use Rattle.dms_moments.specs.Moments.{Clock}
use Rattle.dms_site.specs.Files.{Torn, Cut}
use Rattle.dms_calls.specs.World.{World, OnFile, Speaks}
use Rattle.dms_memcalls.specs.declared.event.CallEvent.{CallEvent}
use Rattle.dms_memcalls.specs.declared.event.CallEvent.TheVariants.{Looked, Made, Wrote, Shortened, Lengthened, Synced, SyncedNames, Printed, Found, Recalled}
use Rattle.dms_memcalls.specs.Names.{leads}
use Rattle.dms_memcalls.specs.Folders.{FolderSeen, nothing, world_of}
use Rattle.dms_memcalls.specs.Events.{seen_after}

-- A file with these bytes was added that no name led to, and this name, which led to none, may lead to it.
pub record Adds (name bytes : List ℕ) (i : ℕ) (old new : World) : Type 0 where
  pub holds : new.bytes i ≡ bytes
  pub others : (j : ℕ) → j ≢ i → new.bytes j ≡ old.bytes j
  pub free : (m : List ℕ) → old.names m ≢ Some i
  pub here : (new.names name ≡ old.names name) ⊎ ((old.names name ≡ None) × (new.names name ≡ Some i))
  pub names : (m : List ℕ) → m ≢ name → new.names m ≡ old.names m
  pub said : new.said ≡ old.said

-- What an event may make of an outcome, where s was seen before it. A call that changes something does its step whether it
-- succeeded or not. A sync that succeeded leaves the outcomes alone in which what it syncs is as it was seen. The name of a file
-- that was there before the first call may be lost until the names are synced, since whoever made it may not have done so.
abbrev pub EventMakes : FolderSeen → CallEvent → World → World → Type 0
EventMakes s (Looked ok) v w = w ≡ v
EventMakes s (Made name ok) v w = Adds name.items [] s.count v w
EventMakes s (Wrote f at bytes ok) v w = OnFile f (Torn at (length bytes.items)) v w
EventMakes s (Shortened f len ok) v w = OnFile f (Cut len) v w
EventMakes s (Lengthened f len ok) v w = OnFile f (Torn len 0) v w
EventMakes s (Synced f ok) v w = (w ≡ v) × (IsTrue ok → w.bytes f ≡ s.bytes f)
EventMakes s (SyncedNames ok) v w = (w ≡ v) × (IsTrue ok → (m : List ℕ) → w.names m ≡ leads s.count s.names m)
EventMakes s (Printed bytes ok) v w = Speaks bytes.items v w
EventMakes s (Found name bytes) v w = Adds name.items bytes.items s.count v w
EventMakes s (Recalled bytes) v w = Speaks bytes.items v w

-- An outcome has the text that was printed, and in it no file has another name than the one that is seen.
pub record IsOutcomeOf (s : FolderSeen) (w : World) : Type 0 where
  pub said : w.said ≡ s.said
  pub one_name : (m n : List ℕ) (i : ℕ) → w.names m ≡ Some i → leads s.count s.names n ≡ Some i → m ≡ n

-- what is seen after these events, of which the newest comes first
abbrev pub seen_of : List CallEvent → FolderSeen
seen_of [] = nothing
seen_of (event ∷ past) = seen_after event (seen_of past)

-- what a stop may leave after these events, of which the newest comes first: all that comes by their steps, one by one
abbrev pub WorldMayBeLeft : List CallEvent → World → Type 0
WorldMayBeLeft [] w = w ≡ world_of nothing
WorldMayBeLeft (event ∷ past) w = IsOutcomeOf (seen_after event (seen_of past)) w × ((v : World) × WorldMayBeLeft past v × EventMakes (seen_of past) event v w)

-- events in front of others, the newest first
abbrev pub reverse_onto : List CallEvent → List CallEvent → List CallEvent
reverse_onto [] past = past
reverse_onto (event ∷ events) past = reverse_onto events (event ∷ past)

-- these events, the newest first
abbrev pub past_of : List CallEvent → List CallEvent
past_of events = reverse_onto events []

-- what is seen after these events
unfoldable pub seen_now : List CallEvent → FolderSeen
seen_now events = seen_of (past_of events)

abbrev pub world_now : List CallEvent → World
world_now events = world_of (seen_now events)

-- a stop at a moment since t: after k of the events
abbrev pub WorldLeftSince : List CallEvent → ℕ → World → Type 0
WorldLeftSince events t w = (k : ℕ) × (t ≤ k) × (k ≤ length events) × WorldMayBeLeft (past_of (take k events)) w

-- the moments are counted by the events
unfoldable pub clock_of : List CallEvent → Clock World
clock_of events = record { now = length events; left = WorldLeftSince events }
