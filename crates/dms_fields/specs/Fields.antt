-- Fields of byte strings.
use Rattle.std.specs.Prelude.{ℕ, ◌+◌, List, ◌++◌, length, take, drop, Option, Some, None, option_map, nat_lt, if◌then◌else◌}
use Rattle.std.specs.Int.{Width, byte_len, from_be_bytes}

-- so many bytes from a place on, where they are there
abbrev pub bytes_at : List ℕ → ℕ → ℕ → Option (List ℕ)
bytes_at bytes at n = if nat_lt (length bytes) (at + n) then None else Some (take n (drop at bytes))

-- the number in the bytes from a place on, where they are there
abbrev pub number_at : Width → List ℕ → ℕ → Option ℕ
number_at w bytes at = option_map (from_be_bytes w) (bytes_at bytes at (byte_len w))

-- these bytes over what was there, from a place on
unfoldable pub lay_bytes : ℕ → List ℕ → List ℕ → List ℕ
lay_bytes at bytes old = take at old ++ (bytes ++ drop (at + length bytes) old)
