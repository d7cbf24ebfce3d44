-- What entries mean: a list of events.
use Rattle.std.specs.Prelude.{ℕ, ◌≡◌, ◌==◌, Bool, true, false, List, [], ◌∷◌, ◌++◌}
use Rattle.dms_history.specs.Events.{Stored, How, Event, change, quiet, control, begin}
use Rattle.dms_history.specs.Lists.{until_first}
use Rattle.dms_history.specs.History.{History, history, next_number}
use Rattle.dms_history.specs.Pick.{Dumps}
use Rattle.dms_history.specs.Agrees.{ends_restore, EventsAgree}
use Rattle.dms_history.specs.Ranges.{Logged, event, range, told_events, live_logged}
use Rattle.dms_history.specs.LawsOfRanges.{HasImages}
use Rattle.dms_history.specs.Entries.{Entry, schema_part, image, byte_range, quiet_point, control_point, begin_restore, counts_in, how_of}
use Rattle.dms_history.specs.Schemas.{Parts, no_parts, after_entry, is_whole}

-- what an entry says by itself, after so much of a Schema: a Schema part says nothing, and a Control says whether a whole Schema stands directly before it
abbrev pub said_by : Parts → Entry → List Logged
said_by p (schema_part part parts bytes) = []
said_by p (image f b before after) = event (change f b before after) ∷ []
said_by p (byte_range f b place bytes) = range f b place bytes ∷ []
said_by p (quiet_point n) = event (quiet n) ∷ []
said_by p (control_point n next counts) = event (control n next (counts_in counts) (is_whole p)) ∷ []
said_by p (begin_restore n kind) = event (begin n (how_of kind)) ∷ []

abbrev pub logged_from : Parts → List Entry → List Logged
logged_from p [] = []
logged_from p (e ∷ es) = said_by p e ++ logged_from (after_entry p e) es

abbrev pub events_in : List Entry → List Logged
events_in entries = logged_from no_parts entries

-- all entries as events
abbrev pub events : List Entry → List Event
events entries = told_events (events_in entries)

-- the live events and the pending restore of some entries
abbrev pub history_of : List Entry → History
history_of entries = history (events entries)

abbrev pub live_of : List Entry → List Event
live_of entries = (history_of entries).live

-- the next number after some entries
abbrev pub next_of : List Entry → ℕ
next_of entries = next_number (events entries)

-- ---- live entries, Schema parts among them

abbrev pub is_place : ℕ → Entry → Bool
is_place n (schema_part part parts bytes) = false
is_place n (image f b before after) = false
is_place n (byte_range f b place bytes) = false
is_place n (quiet_point m) = m == n
is_place n (control_point m next counts) = m == n
is_place n (begin_restore m kind) = false

-- Each entry but a Begin is added; a Begin removes all after the place of its point, or all where that point has none.
abbrev pub live_after : List Entry → Entry → List Entry
live_after live (schema_part part parts bytes) = live ++ schema_part part parts bytes ∷ []
live_after live (image f b before after) = live ++ image f b before after ∷ []
live_after live (byte_range f b place bytes) = live ++ byte_range f b place bytes ∷ []
live_after live (quiet_point n) = live ++ quiet_point n ∷ []
live_after live (control_point n next counts) = live ++ control_point n next counts ∷ []
live_after live (begin_restore n kind) = until_first (is_place n) live

abbrev pub live_entries_from : List Entry → List Entry → List Entry
live_entries_from live [] = live
live_entries_from live (e ∷ es) = live_entries_from (live_after live e) es

abbrev pub live_entries : List Entry → List Entry
live_entries entries = live_entries_from [] entries

-- ---- agreement

abbrev pub ends_restore_logged : Logged → Bool
ends_restore_logged (event e) = ends_restore e
ends_restore_logged (range f b place bytes) = false

-- Nothing stands after a Begin up to the next Begin or Control; a Schema part is nothing here.
abbrev pub BeginsAlone : List Logged → Type 0
BeginsAlone xs = (us vs : List Logged) (m : ℕ) (how : How) (x : Logged) → xs ≡ us ++ event (begin m how) ∷ (x ∷ vs) → ends_restore_logged x ≡ true

-- The entries of a trail agree with its dumps and stored blocks. first: the trail begins with audit file 1.
pub record Agrees (first : Bool) (entries : List Entry) (dumps : Dumps) (stored : Stored) : Type 0 where
  pub events_agree : EventsAgree first (events entries) dumps stored
  -- Only Schema parts stand after a Begin up to the next Begin or Control; no Range does either.
  pub alone : BeginsAlone (events_in entries)
  -- Every live Range that isn't left out has an Image of its block before it: after the last live Control before the Range, or
  -- anywhere from the front where there is no such Control.
  pub images : HasImages (live_logged [] (events_in entries))
