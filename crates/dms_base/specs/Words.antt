use Rattle.std.specs.Prelude.{ℕ, ◌-◌, Bool, not, ◌&&◌, ◌||◌, ◌==◌, nat_le, List, length, slice_index}
use Rattle.std.specs.List.{list_all}

-- a letter, A to Z
abbrev pub is_letter : ℕ → Bool
is_letter b = nat_le 65 b && nat_le b 90

-- a digit, 0 to 9
abbrev pub is_digit : ℕ → Bool
is_digit b = nat_le 48 b && nat_le b 57

-- what may stand within a word: a letter, a digit or `-`
abbrev pub is_word_byte : ℕ → Bool
is_word_byte b = is_letter b || is_digit b || b == 45

-- a word begins with a letter, goes on with letters, digits and `-`, and doesn't end with `-`
unfoldable pub is_word : List ℕ → Bool
is_word bytes = is_letter (slice_index bytes 0) && not (slice_index bytes (length bytes - 1) == 45) && list_all is_word_byte bytes
