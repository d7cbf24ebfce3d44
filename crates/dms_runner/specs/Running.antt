-- What a run leaves of a script: how far it came, and what it said.
use Rattle.std.specs.Prelude.{◌≡◌, ◌≢◌, ◌<◌, ◌≤◌, ◌+◌, ◌⊎◌, ℕ, List, [], ◌∷◌, ◌++◌, Some, true, false, length, take}
use Rattle.std.specs.List.{AllByRecursion}
use Rattle.std.specs.declared.option.Option.{Option}
use Rattle.dms_desc.specs.Shape.{Described}
use Rattle.dms_feed.specs.Feeds.{Remains}
use Rattle.dms_feed.specs.Lines.{first_line, after_line, raw_lines}
use Rattle.dms_feed.specs.Raws.{IsUnended, has_end}
use Rattle.dms_model.specs.Db.{Db}
use Rattle.dms_block.specs.Texts.{Prints}
use Rattle.dms_runner.specs.Answers.{script_events, script_run, answers_text}
use Rattle.dms_runner.specs.Events.{RunEvent, text_of}

-- how many bytes these lines have
abbrev pub bytes_of : List (List ℕ) → ℕ
bytes_of [] = 0
bytes_of (l ∷ ls) = length l + bytes_of ls

-- these lines, one after another
abbrev pub text_of_lines : List (List ℕ) → List ℕ
text_of_lines [] = []
text_of_lines (l ∷ ls) = l ++ text_of_lines ls

-- the first line of the input was taken, and there was room for its bytes
pub record TakesRawLine (room room' : ℕ) (feed : List ℕ) (left : Option (List ℕ)) (all : List ℕ) : Type 0 where
  pub some : all ≢ []
  pub remains : Remains feed left (after_line all)
  pub bytes : room' + length (first_line all) ≡ room

-- each of these lines ends with a line feed
abbrev pub AreEnded : List (List ℕ) → Type 0
AreEnded lines = AllByRecursion (λ l. has_end l ≡ true) lines

-- an input has no more lines and bytes than a script may have
pub record FitsScript (all : List ℕ) : Type 0 where
  pub few : length (raw_lines all) ≤ 1000000
  pub short : bytes_of (raw_lines all) ≤ 2147483648

-- an input has more lines than a script may have; the lines before have no more bytes than they may
pub record HasTooManyLines (all : List ℕ) : Type 0 where
  pub over : 1000000 < length (raw_lines all)
  pub short : bytes_of (take 1000000 (raw_lines all)) ≤ 2147483648

-- up to the end of a line, one that isn't a line too many, it has more bytes than a script may have; the lines before it have not
pub record HasTooManyBytes (all : List ℕ) : Type 0 where
  pub n : ℕ
  pub few : n < 1000000
  pub short : bytes_of (take n (raw_lines all)) ≤ 2147483648
  pub over : 2147483648 < bytes_of (take (n + 1) (raw_lines all))

-- Taking from an input failed: so many whole lines of it were taken, each with its line feed, and a part of the next line, without its line feed,
-- within the limits. The rest of the input is left.
pub record InputBreaks (left : Option (List ℕ)) (all : List ℕ) : Type 0 where
  pub n : ℕ
  pub within : n ≤ length (raw_lines all)
  pub few : n ≤ 1000000
  pub ended : AreEnded (take n (raw_lines all))
  pub part : List ℕ
  pub rest : List ℕ
  pub whole : all ≡ text_of_lines (take n (raw_lines all)) ++ (part ++ rest)
  pub left_is : left ≡ Some rest
  pub unended : IsUnended part
  pub fits : bytes_of (take n (raw_lines all)) + length part ≤ 2147483648
  pub last : n ≡ 1000000 → length part ≡ 0

-- the whole script was taken: it keeps the limits, no line was one too many to hold, and its answers were said
pub record AnswersWhole (desc : Described) (db : Db) (first : ℕ) (lines : List (List ℕ)) (before after : Option (List ℕ)) : Type 0 where
  pub few : length lines ≤ 1000000
  pub short : bytes_of lines ≤ 2147483648
  pub room : (script_run desc db first lines).full ≡ false
  pub text : Prints before after (answers_text desc db first lines)

-- so many whole lines were taken, which keep the limits of lines and bytes, and what they answer was said
pub record TakesLines (desc : Described) (db : Db) (first : ℕ) (lines : List (List ℕ)) (n : ℕ) (before after : Option (List ℕ)) : Type 0 where
  pub within : n ≤ length lines
  pub few : n ≤ 1000000
  pub short : bytes_of (take n lines) ≤ 2147483648
  pub room : (script_run desc db first (take n lines)).full ≡ false
  pub text : Prints before after (text_of (script_run desc db first (take n lines)).events)

-- the first n lines of a script keep its limits: 1,000,000 lines and 2,147,483,648 bytes
pub record KeepsFront (lines : List (List ℕ)) (n : ℕ) : Type 0 where
  pub within : n ≤ length lines
  pub few : n ≤ 1000000
  pub short : bytes_of (take n lines) ≤ 2147483648

-- what the first n lines do
abbrev pub front_events : Described → Db → ℕ → List (List ℕ) → ℕ → List RunEvent
front_events desc db first lines n = (script_run desc db first (take n lines)).events

-- These are the events of the first n lines; or n lines are all, none of them is one too many to hold, and these are the events of the script, with those
-- of its end.
abbrev pub AreOfFront : Described → Db → ℕ → List (List ℕ) → ℕ → List RunEvent → Type 0
AreOfFront desc db first lines n events = (events ≡ front_events desc db first lines n) ⊎ ((n ≡ length lines) × ((script_run desc db first lines).full ≡ false) × (events ≡ script_events desc db first lines))

-- these are the events of the first m lines, and n is that number
abbrev pub AreExactly : Described → Db → ℕ → List (List ℕ) → ℕ → List RunEvent → ℕ → Type 0
AreExactly desc db first lines n events m = (n ≡ m) × (events ≡ front_events desc db first lines m)

-- the script has a line too many: all lines before it were taken
abbrev pub PassesLines : Described → Db → ℕ → List (List ℕ) → Option (List ℕ) → Option (List ℕ) → Type 0
PassesLines desc db first lines before after = (1000000 < length lines) × TakesLines desc db first lines 1000000 before after

-- the script has a byte too many, in a line that isn't one too many: the whole lines before it were taken
pub record PassesBytes (desc : Described) (db : Db) (first : ℕ) (lines : List (List ℕ)) (before after : Option (List ℕ)) : Type 0 where
  pub n : ℕ
  pub took : TakesLines desc db first lines n before after
  pub few : n < 1000000
  pub over : 2147483648 < bytes_of (take (n + 1) lines)

-- a line, which keeps the limits of lines and bytes, would be one too many to hold: the lines before it were taken
pub record PassesWaiting (desc : Described) (db : Db) (first : ℕ) (lines : List (List ℕ)) (before after : Option (List ℕ)) : Type 0 where
  pub n : ℕ
  pub took : TakesLines desc db first lines n before after
  pub few : n < 1000000
  pub short : bytes_of (take (n + 1) lines) ≤ 2147483648
  pub full : (script_run desc db first (take (n + 1) lines)).full ≡ true

-- taking from the input failed: so many whole lines were taken, each with its line feed, and what they answer was said; a part of the next line was
-- taken too, without its line feed, within the limits, and the rest of the input is left
pub record CutInput (desc : Described) (db : Db) (first : ℕ) (all : List ℕ) (left : Option (List ℕ)) (before after : Option (List ℕ)) : Type 0 where
  pub n : ℕ
  pub took : TakesLines desc db first (raw_lines all) n before after
  pub ended : AreEnded (take n (raw_lines all))
  pub part : List ℕ
  pub rest : List ℕ
  pub whole : all ≡ text_of_lines (take n (raw_lines all)) ++ (part ++ rest)
  pub left_is : left ≡ Some rest
  pub unended : IsUnended part
  pub fits : bytes_of (take n (raw_lines all)) + length part ≤ 2147483648
  pub last : n ≡ 1000000 → length part ≡ 0
