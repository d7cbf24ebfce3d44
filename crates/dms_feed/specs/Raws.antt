-- What taking a line answers.
use Rattle.std.specs.Prelude.{◌≡◌, ◌≢◌, ◌≤◌, ◌<◌, ℕ, List, [], ◌++◌, ◌==◌, Some, None, Bool, false, take, length}
use Rattle.std.specs.List.{list_any}
use Rattle.std.specs.declared.option.Option.{Option}
use Rattle.dms_feed.specs.declared.raw.Raw.{Raw}
use Rattle.dms_feed.specs.Feeds.{Remains}
use Rattle.dms_feed.specs.Lines.{first_line, after_line}

-- a line feed stands among these bytes; so a line ends where it isn't cut off by the input's end
abbrev pub has_end : List ℕ → Bool
has_end bytes = list_any (λ b. b == 10) bytes

-- the first line of these bytes, by its first bytes, at most cap, its length, and whether a line feed ends it; none where there are no bytes
abbrev pub IsTaken : ℕ → Option Raw → ℕ → List ℕ → Type 0
IsTaken cap None room all = all ≡ []
IsTaken cap (Some r) room all = (all ≢ []) × (r.kept ≡ take cap (first_line all)) × (r.length ≡ length (first_line all)) × (r.length ≤ room) × (r.ended ≡ has_end (first_line all))

-- where what remains is told, its first line was taken
abbrev pub TakesLine : ℕ → List ℕ → Option (List ℕ) → List ℕ → Option (List ℕ) → ℕ → Option Raw → Type 0
TakesLine cap held left held' left' room line = (all : List ℕ) → Remains held left all → IsTaken cap line room all × Remains held' left' (after_line all)

-- where what remains is told, its first line has more bytes than these
abbrev pub OverRoom : List ℕ → Option (List ℕ) → ℕ → Type 0
OverRoom held left room = (all : List ℕ) → Remains held left all → room < length (first_line all)

-- no line feed stands among these bytes
abbrev pub IsUnended : List ℕ → Type 0
IsUnended bytes = has_end bytes ≡ false

-- taking failed inside a line: a part of the line was taken, at most so many bytes, without its line feed, and the rest is left
pub record CutLine (room : ℕ) (left : Option (List ℕ)) (all : List ℕ) : Type 0 where
  pub part : List ℕ
  pub rest : List ℕ
  pub whole : all ≡ part ++ rest
  pub left_is : left ≡ Some rest
  pub unended : IsUnended part
  pub fits : length part ≤ room
