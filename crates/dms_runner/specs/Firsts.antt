-- Waiting lines in slots: those that stand, and the first one of each program.
use Rattle.std.specs.Prelude.{ℕ, ◌≡◌, ◌+◌, List, [], ◌∷◌, ◌++◌, Bool, false, ◌||◌, Some, None, if◌then◌else◌, length, nat_lt, slice_get, take, drop}
use Rattle.std.specs.declared.option.Option.{Option}
use Rattle.std.specs.Str.{bytes_eq}
use Rattle.dms_runner.specs.declared.waiting.WaitingLine.{WaitingLine}
use Rattle.dms_desc.specs.Shape.{Described}
use Rattle.dms_runner.specs.declared.waiting.WaitingLines.{WaitingLines}
use Rattle.dms_runner.specs.Waiting.{AreVerbs, has_line}

-- the lines that stand in these slots
abbrev pub standing : List (Option WaitingLine) → List WaitingLine
standing [] = []
standing (None ∷ xs) = standing xs
standing (Some h ∷ xs) = h ∷ standing xs

abbrev pub lines_of : WaitingLines → List WaitingLine
lines_of w = standing w.slots.items

-- the line in a slot, if there is one
abbrev pub line_in : Option (Option WaitingLine) → Option WaitingLine
line_in None = None
line_in (Some o) = o

-- the line in a slot is of this program
abbrev pub is_line_of : List ℕ → Option (Option WaitingLine) → Bool
is_line_of name None = false
is_line_of name (Some None) = false
is_line_of name (Some (Some h)) = bytes_eq h.program name

abbrev pub is_at : List (Option WaitingLine) → List ℕ → ℕ → Bool
is_at slots name slot = is_line_of name (slice_get slots slot)

abbrev pub none_seen : List ℕ → Bool
none_seen name = false

-- of which programs lines were seen, this one's too
abbrev pub seen_too : (List ℕ → Bool) → List ℕ → List ℕ → Bool
seen_too seen name other = seen other || bytes_eq name other

-- the slots of the first line of each program, from slot n on, where of these programs lines were seen before
abbrev pub first_slots : ℕ → (List ℕ → Bool) → List (Option WaitingLine) → List ℕ
first_slots n seen [] = []
first_slots n seen (None ∷ xs) = first_slots (n + 1) seen xs
first_slots n seen (Some h ∷ xs) = if seen h.program then first_slots (n + 1) seen xs else n ∷ first_slots (n + 1) (seen_too seen h.program) xs

-- the first slot from n on whose line is of this program
abbrev pub next_slot : ℕ → List ℕ → List (Option WaitingLine) → Option ℕ
next_slot n name [] = None
next_slot n name (None ∷ xs) = next_slot (n + 1) name xs
next_slot n name (Some h ∷ xs) = if bytes_eq h.program name then Some n else next_slot (n + 1) name xs

-- a number at its place among rising ones
abbrev pub put_in : ℕ → List ℕ → List ℕ
put_in r [] = r ∷ []
put_in r (x ∷ xs) = if nat_lt r x then r ∷ x ∷ xs else x ∷ put_in r xs

abbrev pub put_some : Option ℕ → List ℕ → List ℕ
put_some None xs = xs
put_some (Some r) xs = put_in r xs

-- the firsts are told as they are, and so is the count
pub record AreFirst (w : WaitingLines) : Type 0 where
  pub firsts : w.firsts.items ≡ first_slots 0 none_seen w.slots.items
  pub count : w.count ≡ length (lines_of w)

-- the slots, cut at the j-th of the firsts
pub record FirstAt (w : WaitingLines) (j : ℕ) : Type 0 where
  pub behind : List (Option WaitingLine)
  pub line : WaitingLine
  pub ahead : List (Option WaitingLine)
  pub seen : List ℕ → Bool
  pub are : w.slots.items ≡ behind ++ Some line ∷ ahead
  pub same : (name : List ℕ) → has_line (standing behind) name ≡ seen name
  pub new : seen line.program ≡ false
  pub before : (more : List (Option WaitingLine)) → first_slots 0 none_seen (behind ++ more) ≡ take j w.firsts.items ++ first_slots (length behind) seen more
  pub now : drop j w.firsts.items ≡ length behind ∷ first_slots (length behind + 1) (seen_too seen line.program) ahead
  pub count : w.count ≡ length (lines_of w)

abbrev pub without_first : (w : WaitingLines) (j : ℕ) → FirstAt w j → List WaitingLine
without_first w j f = standing f.behind ++ standing f.ahead

-- each line has a verb that a line can spell, and the firsts are told as they are
pub record AreHeld (desc : Described) (w : WaitingLines) : Type 0 where
  pub verbs : AreVerbs desc (lines_of w)
  pub firsts : AreFirst w
