-- What was done to a site in memory, one by one.
use Rattle.std.specs.Prelude.{ℕ, ◌+◌, ◌-◌, ◌==◌, if◌then◌else◌, Bool, true, false, List, [], ◌∷◌, ◌++◌, take}
use Rattle.dms_site.specs.Files.{Files, with_file, overlay_bytes}
use Rattle.dms_sitemem.specs.declared.event.SiteEvent.{SiteEvent}
use Rattle.dms_sitemem.specs.declared.event.SiteEvent.TheVariants.{Looked, Wrote, Shortened, Synced, Said, Replaced, Recalled}

-- what a read gives after it; a call that failed changes nothing that is read
abbrev pub files_after : SiteEvent → Files → Files
files_after (Looked ok) files = files
files_after (Wrote f at bytes ok) files = if ok then with_file files f (overlay_bytes at bytes.items (files f)) else files
files_after (Shortened f len ok) files = if ok then with_file files f (take len (files f)) else files
files_after (Synced ok) files = files
files_after (Said bytes ok) files = files
files_after (Replaced f bytes) files = with_file files f bytes.items
files_after (Recalled bytes) files = files

-- the text after it
abbrev pub said_after : SiteEvent → List ℕ → List ℕ
said_after (Looked ok) said = said
said_after (Wrote f at bytes ok) said = said
said_after (Shortened f len ok) said = said
said_after (Synced ok) said = said
said_after (Said bytes ok) said = if ok then said ++ bytes.items else said
said_after (Replaced f bytes) said = said
said_after (Recalled bytes) said = said ++ bytes.items

-- a sync that succeeded
abbrev pub is_sync : SiteEvent → Bool
is_sync (Looked ok) = false
is_sync (Wrote f at bytes ok) = false
is_sync (Shortened f len ok) = false
is_sync (Synced ok) = ok
is_sync (Said bytes ok) = false
is_sync (Replaced f bytes) = false
is_sync (Recalled bytes) = false

-- one of the seven calls, which are numbered
abbrev pub is_call : SiteEvent → Bool
is_call (Looked ok) = true
is_call (Wrote f at bytes ok) = true
is_call (Shortened f len ok) = true
is_call (Synced ok) = true
is_call (Said bytes ok) = true
is_call (Replaced f bytes) = false
is_call (Recalled bytes) = false

-- how many calls there are
unfoldable pub calls_in : List SiteEvent → ℕ
calls_in [] = 0
calls_in (event ∷ events) = (if is_call event then 1 else 0) + calls_in events

-- the events up to the call of that number
unfoldable pub through : ℕ → List SiteEvent → List SiteEvent
through n [] = []
through n (event ∷ events) = if n == 0 then [] else event ∷ through (n - (if is_call event then 1 else 0)) events
