use Rattle.std.specs.Prelude.{ℕ, ◌≡◌, ◌≤◌, Bool, ◌&&◌, ◌==◌, nat_le, List, [], ◌∷◌, length, Some, None, if◌then◌else◌, IsTrue}
use Rattle.std.specs.List.{list_all}
use Rattle.std.specs.declared.option.Option.{Option}

-- a byte before a text without trailing spaces
abbrev pub before_trimmed : ℕ → List ℕ → List ℕ
before_trimmed b [] = if b == 32 then [] else b ∷ []
before_trimmed b (x ∷ xs) = b ∷ x ∷ xs

-- a text without its trailing spaces
abbrev pub trim_spaces : List ℕ → List ℕ
trim_spaces [] = []
trim_spaces (b ∷ bs) = before_trimmed b (trim_spaces bs)

-- a character that a text may have, from the space to `~`
abbrev pub is_printable : ℕ → Bool
is_printable b = nat_le 32 b && nat_le b 126

-- an item's text: at most 200 such characters, and no space at its end
pub record IsText (bytes : List ℕ) : Type 0 where
  pub few : length bytes ≤ 200
  pub printable : IsTrue (list_all is_printable bytes)
  pub without_space : trim_spaces bytes ≡ bytes

-- the text that these bytes spell: their trailing spaces are dropped, and at most 200 bytes stay
unfoldable pub text_of : List ℕ → Option (List ℕ)
text_of bytes = if list_all is_printable bytes && nat_le (length (trim_spaces bytes)) 200 then Some (trim_spaces bytes) else None
