-- Reading fields from the first byte on: a field is a value and the bytes behind it, or none where too few bytes are there.
use Rattle.std.specs.Prelude.{ℕ, zero, suc, List, [], ◌∷◌, length, take, drop, Option, Some, None, nat_lt, if◌then◌else◌}
use Rattle.std.specs.Int.{Width, w32, byte_len, from_be_bytes}

-- one field after another
infixl 10 ◌>>=◌
abbrev pub ◌>>=◌ : {A B : Type 0} → Option A → (A → Option B) → Option B
None >>= f = None
(Some x) >>= f = f x

-- the first byte
abbrev pub byte_first : List ℕ → Option (ℕ × List ℕ)
byte_first [] = None
byte_first (b ∷ bytes) = Some (b, bytes)

-- the number in the first bytes
abbrev pub number_first : Width → List ℕ → Option (ℕ × List ℕ)
number_first w bytes =
    if nat_lt (length bytes) (byte_len w) then None
    else Some (from_be_bytes w (take (byte_len w) bytes), drop (byte_len w) bytes)

-- the first n bytes
abbrev pub bytes_first : ℕ → List ℕ → Option (List ℕ × List ℕ)
bytes_first n bytes = if nat_lt (length bytes) n then None else Some (take n bytes, drop n bytes)

-- n pairs of numbers of four bytes each
abbrev pub pairs_first : {A : Type 0} → (ℕ → ℕ → A) → ℕ → List ℕ → List A
pairs_first make zero bytes = []
pairs_first make (suc n) bytes =
    make (from_be_bytes w32 (take 4 bytes)) (from_be_bytes w32 (take 4 (drop 4 bytes))) ∷ pairs_first make n (drop 8 bytes)
