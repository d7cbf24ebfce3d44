-- What entries say, each with the number of its entry, from 0.
use Rattle.std.specs.Prelude.{ℕ, suc, Bool, List, [], ◌∷◌, ◌++◌, map, Option, Some, None}
use Rattle.dms_history.specs.Events.{change, quiet, control, begin}
use Rattle.dms_history.specs.Lists.{until_first}
use Rattle.dms_history.specs.Ranges.{Logged, event, range, is_point_logged}
use Rattle.dms_history.specs.Entries.{Entry}
use Rattle.dms_history.specs.Schemas.{Parts, no_parts, after_entry}
use Rattle.dms_history.specs.EntryEvents.{said_by}

-- the number of an entry, and what it says by itself
abbrev pub Said : Type 0
Said = ℕ × Logged

abbrev pub said_in : Said → Logged
said_in x = x.1

-- all of them say
abbrev pub say : List Said → List Logged
say xs = map said_in xs

abbrev pub with_number : ℕ → Logged → Said
with_number i x = (i, x)

-- what entries say from number i on, behind so much of a Schema
abbrev pub numbered_from : ℕ → Parts → List Entry → List Said
numbered_from i p [] = []
numbered_from i p (e ∷ es) = map (with_number i) (said_by p e) ++ numbered_from (suc i) (after_entry p e) es

unfoldable pub numbered : List Entry → List Said
numbered entries = numbered_from 0 no_parts entries

-- this one says that n is a point
abbrev pub is_point_said : ℕ → Said → Bool
is_point_said n x = is_point_logged n x.1

-- what is live behind one more
abbrev pub live_said : List Said → ℕ → Logged → List Said
live_said live i (event (change f b before after)) = live ++ (i, event (change f b before after)) ∷ []
live_said live i (event (quiet n)) = live ++ (i, event (quiet n)) ∷ []
live_said live i (event (control n next counts described)) = live ++ (i, event (control n next counts described)) ∷ []
live_said live i (event (begin n how)) = until_first (is_point_said n) live
live_said live i (range f b place bytes) = live ++ (i, range f b place bytes) ∷ []

abbrev pub live_from : List Said → List Said → List Said
live_from live [] = live
live_from live (x ∷ xs) = live_from (live_said live x.0 x.1) xs

-- the live ones of some entries
unfoldable pub live_numbered : List Entry → List Said
live_numbered entries = live_from [] (numbered entries)
