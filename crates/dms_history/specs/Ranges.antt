-- Entries by themselves, Ranges among them, and the changes that they mean.
use Rattle.std.specs.Prelude.{ℕ, ◌+◌, Bool, false, List, [], ◌∷◌, ◌++◌, length, take, drop, Option, Some, None}
use Rattle.dms_history.specs.Events.{BlockBytes, Event, change, quiet, control, begin}
use Rattle.dms_history.specs.Lists.{until_first}
use Rattle.dms_history.specs.Places.{is_control, is_point}
use Rattle.dms_history.specs.Images.{is_at, last_after}
use Rattle.dms_history.specs.History.{History, history_from}

-- what an entry says by itself: an event, or a Range, with file, block, place within the block, and the bytes that stand there after the change
pub data Logged : Type 0 where
  event : Event → Logged
  range : ℕ → ℕ → ℕ → List ℕ → Logged

-- bytes over a block
unfoldable pub patch_bytes : ℕ → List ℕ → BlockBytes → BlockBytes
patch_bytes place bytes old = take place old ++ (bytes ++ drop (place + length bytes) old)

-- A Range's before-image is the after-image of the last live change of its block, and its after-image is that with the Range's bytes.
-- Where there is no such change the Range is left out.
abbrev pub range_change : ℕ → ℕ → ℕ → List ℕ → Option BlockBytes → List Event
range_change f b place bytes None = []
range_change f b place bytes (Some old) = change f b (Some old) (patch_bytes place bytes old) ∷ []

-- an entry as changes, after the live changes before it
abbrev pub changes_of : List Event → Logged → List Event
changes_of live (event e) = e ∷ []
changes_of live (range f b place bytes) = range_change f b place bytes (last_after f b live)

-- live entries as changes
abbrev pub changes_from : List Event → List Logged → List Event
changes_from live [] = live
changes_from live (x ∷ xs) = changes_from (live ++ changes_of live x) xs

unfoldable pub all_changes : List Logged → List Event
all_changes xs = changes_from [] xs

-- all entries as events, each Range by what is live where it stands
abbrev pub events_from : History → List Logged → List Event
events_from h [] = []
events_from h (x ∷ xs) = changes_of h.live x ++ events_from (history_from h (changes_of h.live x)) xs

unfoldable pub told_events : List Logged → List Event
told_events xs = events_from (record { live = []; pending = None }) xs

-- ---- live entries, Ranges among them

abbrev pub is_point_logged : ℕ → Logged → Bool
is_point_logged n (event e) = is_point n e
is_point_logged n (range f b place bytes) = false

abbrev pub is_control_logged : Logged → Bool
is_control_logged (event e) = is_control e
is_control_logged (range f b place bytes) = false

-- an Image itself of block b of file f
abbrev pub is_image : ℕ → ℕ → Logged → Bool
is_image f b (event (change g k before after)) = is_at f b g k
is_image f b (event (quiet n)) = false
is_image f b (event (control n next counts described)) = false
is_image f b (event (begin n how)) = false
is_image f b (range g k place bytes) = false

abbrev pub live_step : List Logged → Logged → List Logged
live_step live (event (change f b before after)) = live ++ event (change f b before after) ∷ []
live_step live (event (quiet n)) = live ++ event (quiet n) ∷ []
live_step live (event (control n next counts described)) = live ++ event (control n next counts described) ∷ []
live_step live (event (begin n how)) = until_first (is_point_logged n) live
live_step live (range f b place bytes) = live ++ range f b place bytes ∷ []

abbrev pub live_logged : List Logged → List Logged → List Logged
live_logged live [] = live
live_logged live (x ∷ xs) = live_logged (live_step live x) xs
