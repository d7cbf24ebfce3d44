-- What events make of files and text, and what a stop may leave after them.
use Rattle.std.specs.Prelude.{ℕ, ◌≤◌, ◌≡◌, ◌⊎◌, if◌then◌else◌, List, [], ◌∷◌, length, take}
use Rattle.dms_moments.specs.Moments.{Clock}
use Rattle.dms_site.specs.Files.{Files, Left, with_file, InFile, Torn, Cut}
use Rattle.dms_sitemem.specs.declared.event.SiteEvent.{SiteEvent}
use Rattle.dms_sitemem.specs.declared.event.SiteEvent.TheVariants.{Looked, Wrote, Shortened, Synced, Said, Replaced, Recalled}
use Rattle.dms_sitemem.specs.Events.{files_after, said_after, is_sync}

-- What a stop may make of the files where this event isn't followed by a sync.
-- A write may leave any bytes in its range and past the old end, whether it succeeded or not, and a cut may have happened or not.
abbrev pub EventMayMake : SiteEvent → Files → Files → Type 0
EventMayMake (Looked ok) old new = new ≡ old
EventMayMake (Wrote f at bytes ok) old new = InFile f (Torn at (length bytes.items)) old new
EventMayMake (Shortened f len ok) old new = InFile f (Cut len) old new
EventMayMake (Synced ok) old new = new ≡ old
EventMayMake (Said bytes ok) old new = new ≡ old
EventMayMake (Replaced f bytes) old new = new ≡ with_file old f bytes.items
EventMayMake (Recalled bytes) old new = new ≡ old

-- from the files at the last sync through the events since, of which the newest comes first
abbrev pub Reaches : Files → List SiteEvent → Files → Type 0
Reaches stable [] files = files ≡ stable
Reaches stable (event ∷ earlier) files = (before : Files) × Reaches stable earlier before × EventMayMake event before files

-- what is read, the files at the last sync that succeeded, the events since with the newest first, and the text
pub record Replayed : Type 0 where
  pub files : Files
  pub stable : Files
  pub pending : List SiteEvent
  pub said : List ℕ

-- no files and no text
abbrev pub empty : Replayed
empty = record { files = λ _. []; stable = λ _. []; pending = []; said = [] }

abbrev pub after : SiteEvent → Replayed → Replayed
after event s = record {
  files = files_after event s.files;
  stable = if is_sync event then s.files else s.stable;
  pending = if is_sync event then [] else event ∷ s.pending;
  said = said_after event s.said;
}

abbrev pub run : List SiteEvent → Replayed → Replayed
run [] s = s
run (event ∷ events) s = run events (after event s)

-- after these events
unfoldable pub state_of : List SiteEvent → Replayed
state_of events = run events empty

-- What a stop may leave in a state: what is read, or what comes from the files at the last sync by the events since. The text stays.
abbrev pub MayLeave : Replayed → Left → Type 0
MayLeave s x = ((x.files ≡ s.files) ⊎ Reaches s.stable s.pending x.files) × (x.said ≡ s.said)

-- a stop at a moment since t: after k of the events
abbrev pub LeftSince : List SiteEvent → ℕ → Left → Type 0
LeftSince events t x = (k : ℕ) × (t ≤ k) × (k ≤ length events) × MayLeave (state_of (take k events)) x

-- the moments are counted by the events
unfoldable pub clock_of : List SiteEvent → Clock Left
clock_of events = record { now = length events; left = LeftSince events }
