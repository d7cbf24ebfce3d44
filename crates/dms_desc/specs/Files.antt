-- Where the blocks of structures stand.
use Rattle.std.specs.Prelude.{ℕ, ◌+◌}

-- the file of a structure
abbrev pub file_of : ℕ → ℕ
file_of number = 30000 + number
