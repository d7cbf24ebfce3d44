-- What a text tells of quiet points.
use Rattle.std.specs.Prelude.{ℕ, ◌+◌, ◌-◌, ◌*◌, ◌^◌, ◌&&◌, ◌==◌, List, [], ◌∷◌, ◌++◌, drop, max, nat_lt, if◌then◌else◌}
use Rattle.std.specs.Str.{bytes_eq}
use Rattle.dms_script.specs.Replies.{syncpoint_text}

-- the number that digits spell
abbrev pub value_from : ℕ → List ℕ → ℕ
value_from n [] = n
value_from n (b ∷ bs) = value_from (10 * n + (b - 48)) bs

-- what stands behind SYNCPOINT and a blank, as a number
abbrev pub number_in : List ℕ → ℕ
number_in line = value_from 0 (drop 10 line)

-- the number that a line tells, given without its line feed: that of a syncpoint whose text it is, and else 0
unfoldable pub told_line : List ℕ → ℕ
told_line line = if nat_lt (number_in line) (2 ^ 64) && bytes_eq (line ++ 10 ∷ []) (syncpoint_text (number_in line)) then number_in line else 0

-- the greatest number that the whole lines of a text tell, which stands behind these bytes of its first line
abbrev pub told_from : List ℕ → List ℕ → ℕ
told_from line [] = 0
told_from line (b ∷ bs) = if b == 10 then max (told_line line) (told_from [] bs) else told_from (line ++ b ∷ []) bs

-- the greatest n of a whole line SYNCPOINT n, 0 where there is none
abbrev pub told : List ℕ → ℕ
told text = told_from [] text
