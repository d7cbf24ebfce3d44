-- Points, their places, and which points are live.
use Rattle.std.specs.Prelude.{ℕ, ◌==◌, Bool, true, false, List, [], ◌∷◌, IsTrue}
use Rattle.dms_history.specs.Events.{Event, change, quiet, control, begin}
use Rattle.dms_history.specs.Lists.{has, until_first}

abbrev pub is_control : Event → Bool
is_control (change f b before after) = false
is_control (quiet n) = false
is_control (control n next counts described) = true
is_control (begin n how) = false

-- a Control that stands directly after a whole Schema
abbrev pub is_described : Event → Bool
is_described (change f b before after) = false
is_described (quiet n) = false
is_described (control n next counts described) = described
is_described (begin n how) = false

-- A Quiet or Control has this number. The place of a point is the first such entry.
abbrev pub is_point : ℕ → Event → Bool
is_point n (change f b before after) = false
is_point n (quiet m) = m == n
is_point n (control m next counts described) = m == n
is_point n (begin m how) = false

abbrev pub is_begin : Event → Bool
is_begin (change f b before after) = false
is_begin (quiet n) = false
is_begin (control n next counts described) = false
is_begin (begin n how) = true

-- the numbers of Quiets and Controls, in order
abbrev pub point_numbers : List Event → List ℕ
point_numbers [] = []
point_numbers (change f b before after ∷ es) = point_numbers es
point_numbers (quiet n ∷ es) = n ∷ point_numbers es
point_numbers (control n next counts described ∷ es) = n ∷ point_numbers es
point_numbers (begin n how ∷ es) = point_numbers es

-- A point is live where it has a place, and a Control directly after a whole Schema is at or before that place.
pub record IsLive (live : List Event) (n : ℕ) : Type 0 where
  pub found : IsTrue (has (is_point n) live)
  pub described : IsTrue (has is_described (until_first (is_point n) live))
