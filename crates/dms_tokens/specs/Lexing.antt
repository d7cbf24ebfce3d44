-- The bytes of a text.
use Rattle.std.specs.Prelude.{ℕ, ◌+◌, ◌-◌, ◌*◌, Bool, ◌||◌, ◌&&◌, ◌==◌, nat_le, nat_lt, if◌then◌else◌}

-- space, tab, CR and LF
abbrev pub is_blank : ℕ → Bool
is_blank b = b == 32 || b == 9 || b == 13 || b == 10

-- what a comment may hold
abbrev pub is_plain : ℕ → Bool
is_plain b = is_blank b || (nat_le 33 b && nat_le b 126)

-- a lower-case letter counts as its upper case
abbrev pub upper : ℕ → ℕ
upper b = if nat_le 97 b && nat_le b 122 then b - 32 else b

abbrev pub is_letter : ℕ → Bool
is_letter b = nat_le 65 (upper b) && nat_le (upper b) 90

-- a bracket, a comma or a semicolon
abbrev pub is_sign : ℕ → Bool
is_sign b = b == 40 || b == 41 || b == 44 || b == 59

-- one more digit; a number of more than 18 digits stays above all those of 18
abbrev pub with_digit : ℕ → ℕ → ℕ
with_digit n b = if nat_lt n 100000000000000000 then 10 * n + (b - 48) else 1000000000000000000

-- one more, up to 19, which stands for all counts above 18
abbrev pub counted_on : ℕ → ℕ
counted_on n = if nat_lt n 19 then n + 1 else 19
