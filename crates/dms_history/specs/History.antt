-- The live entries, and the restore that is pending.
use Rattle.std.specs.Prelude.{ℕ, ◌+◌, ◌-◌, ◌^◌, min, max, List, [], ◌∷◌, ◌++◌, Option, Some, None}
use Rattle.dms_history.specs.Events.{How, Event, change, quiet, control, begin}
use Rattle.dms_history.specs.Lists.{until_first}
use Rattle.dms_history.specs.Places.{is_point}

-- A restore that is begun and not ended: the live entries before its Begin, its point, and how it goes.
pub record Pending : Type 0 where
  pub entries : List Event
  pub point : ℕ
  pub how : How

-- what reading the entries from the front gives
pub record History : Type 0 where
  pub live : List Event
  pub pending : Option Pending

-- Each entry but a Begin is added. A Begin removes all after the place of its point, or all where that point has none, and its restore
-- is pending until the next Control.
abbrev pub after_event : History → Event → History
after_event h (change f b before after) = record { live = h.live ++ change f b before after ∷ []; pending = h.pending }
after_event h (quiet n) = record { live = h.live ++ quiet n ∷ []; pending = h.pending }
after_event h (control n next counts described) = record { live = h.live ++ control n next counts described ∷ []; pending = None }
after_event h (begin m how) = record { live = until_first (is_point m) h.live; pending = Some (record { entries = h.live; point = m; how = how }) }

abbrev pub history_from : History → List Event → History
history_from h [] = h
history_from h (e ∷ es) = history_from (after_event h e) es

unfoldable pub history : List Event → History
history events = history_from (record { live = []; pending = None }) events

-- the live entries
abbrev pub live : List Event → List Event
live events = (history events).live

-- the number of the last Quiet or Control of a list
abbrev pub last_number : Option ℕ → List Event → Option ℕ
last_number k [] = k
last_number k (change f b before after ∷ es) = last_number k es
last_number k (quiet n ∷ es) = last_number (Some n) es
last_number k (control n next counts described ∷ es) = last_number (Some n) es
last_number k (begin n how ∷ es) = last_number k es

abbrev pub pending_point : Option Pending → Option ℕ
pending_point None = None
pending_point (Some p) = Some p.point

-- the last point: that of the last live Quiet or Control, or that of the pending Begin where there is none
abbrev pub last_point : History → Option ℕ
last_point h = last_number (pending_point h.pending) h.live

-- the greater of the last Control's next and 1 + the greatest Quiet number after it
abbrev pub next_after : ℕ → List Event → ℕ
next_after k [] = k
next_after k (change f b before after ∷ es) = next_after k es
next_after k (quiet n ∷ es) = next_after (max k (n + 1)) es
next_after k (control n next counts described ∷ es) = next_after next es
next_after k (begin n how ∷ es) = next_after k es

-- the next number, at most 2^64 - 1; it is read from all entries, voided ones too
unfoldable pub next_number : List Event → ℕ
next_number events = min (2 ^ 64 - 1) (next_after 0 events)
