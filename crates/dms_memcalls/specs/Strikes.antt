-- What a stop makes of one event more, where s was seen before it.
use Rattle.std.specs.Prelude.{ℕ, ◌<◌, ◌≡◌, ◌⊎◌, true, false, List, [], length, Some}
use Rattle.dms_site.specs.Files.{Torn, Cut}
use Rattle.dms_calls.specs.World.{World}
use Rattle.dms_memcalls.specs.declared.event.CallEvent.{CallEvent}
use Rattle.dms_memcalls.specs.declared.event.CallEvent.TheVariants.{Looked, Made, Wrote, Shortened, Lengthened, Synced, SyncedNames, Printed, Found, Recalled}
use Rattle.dms_memcalls.specs.Folders.{FolderSeen, with_made, with_bytes, world_of}
use Rattle.dms_memcalls.specs.Events.{seen_after}
use Rattle.dms_memcalls.specs.Outcomes.{WorldMayBeLeft, seen_of}

-- one file has bytes that a step leads to
pub record FileChanged (f : ℕ) (step : List ℕ → List ℕ → Type 0) (left new : FolderSeen) : Type 0 where
  pub bytes : List ℕ
  pub took : step (left.bytes f) bytes
  pub is : new ≡ with_bytes left f bytes

-- a file was added, with this name or with none
pub record Added (name : List ℕ) (left new : FolderSeen) : Type 0 where
  pub given : List ℕ
  pub which : (given ≡ name) ⊎ (given ≡ [])
  pub is : new ≡ with_made left given []

-- what was left has the names that are seen
pub record NamedFile (s left new : FolderSeen) : Type 0 where
  pub count : new.count ≡ left.count
  pub names : (k : ℕ) → k < s.count → new.names k ≡ s.names k
  pub bytes : new.bytes ≡ left.bytes
  pub said : new.said ≡ left.said

abbrev pub Strikes : CallEvent → FolderSeen → FolderSeen → FolderSeen → Type 0
Strikes (Looked ok) s left new = new ≡ left
Strikes (Made name ok) s left new = Added name.items left new
Strikes (Wrote f at bytes ok) s left new = FileChanged f (Torn at (length bytes.items)) left new
Strikes (Shortened f len ok) s left new = FileChanged f (Cut len) left new
Strikes (Lengthened f len ok) s left new = FileChanged f (Torn len 0) left new
Strikes (Synced f true) s left new = new ≡ with_bytes left f (s.bytes f)
Strikes (Synced f false) s left new = new ≡ left
Strikes (SyncedNames true) s left new = NamedFile s left new
Strikes (SyncedNames false) s left new = new ≡ left
Strikes (Printed bytes ok) s left new = new ≡ seen_after (Printed bytes ok) left
Strikes (Found name bytes) s left new = new ≡ seen_after (Found name bytes) left
Strikes (Recalled bytes) s left new = new ≡ seen_after (Recalled bytes) left

-- a folder that a stop may leave after these events, of which the newest comes first
pub record IsLeft (past : List CallEvent) (left : FolderSeen) : Type 0 where
  pub count : left.count ≡ (seen_of past).count
  pub said : left.said ≡ (seen_of past).said
  pub owners : (k : ℕ) → k < left.count → (left.names k ≡ []) ⊎ (((seen_of past).names k ≡ []) ⊎ (left.names k ≡ (seen_of past).names k))
  pub may : WorldMayBeLeft past (world_of left)

-- the same names, the same bytes behind each, and the same text
pub record Shows (w shown : World) : Type 0 where
  pub names : (m : List ℕ) → shown.names m ≡ w.names m
  pub bytes : (m : List ℕ) (i : ℕ) → w.names m ≡ Some i → shown.bytes i ≡ w.bytes i
  pub said : shown.said ≡ w.said
