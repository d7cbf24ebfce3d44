-- An input of `try`: the text of a schema, a line SCRIPT, and the lines of a script.
use Rattle.std.specs.Prelude.{ℕ, List, [], ◌∷◌, ◌++◌, Bool, codes, if◌then◌else◌}
use Rattle.std.specs.Str.{bytes_eq}
use Rattle.dms_feed.specs.Lines.{raw_lines, line_text}

-- exactly the six bytes SCRIPT
abbrev pub is_script : List ℕ → Bool
is_script line = bytes_eq (line_text line) (codes "SCRIPT")

-- what stands before the first line SCRIPT, its last line feed included
abbrev pub schema_part : List (List ℕ) → List ℕ
schema_part [] = []
schema_part (l ∷ ls) = if is_script l then [] else l ++ schema_part ls

-- the lines behind the first line SCRIPT; none where there is no such line
abbrev pub script_part : List (List ℕ) → List (List ℕ)
script_part [] = []
script_part (l ∷ ls) = if is_script l then ls else script_part ls

abbrev pub schema_text : List ℕ → List ℕ
schema_text input = schema_part (raw_lines input)
