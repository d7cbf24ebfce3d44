-- What the tokens of a text are.
use Rattle.std.specs.Prelude.{ℕ, ◌+◌, ◌-◌, ◌*◌, ◌≡◌, ◌≤◌, List, [], ◌∷◌, ◌++◌, map, length, Bool, true, false, not, ◌||◌, ◌&&◌, ◌==◌, nat_lt, codes, if◌then◌else◌}
use Rattle.std.specs.List.{list_all}
use Rattle.dms_base.specs.declared.op.Op.{Op}
use Rattle.dms_base.specs.declared.op.Op.TheVariants.{Equal, NotEqual, Less, LessEqual, Greater, GreaterEqual}
use Rattle.dms_tokens.specs.declared.token.Token.{Token}
use Rattle.dms_tokens.specs.declared.token.Token.TheVariants.{Word, Number, Decimal, Long, Quoted, Sign, Compare, Bad, End}
use Rattle.dms_tokens.specs.declared.token.Lexeme.{Lexeme}
use Rattle.dms_tokens.specs.Lexing.{is_blank, is_plain, upper, is_letter, is_sign}
use Rattle.dms_tokens.specs.Tokens.{lexeme}
use Rattle.dms_base.specs.Texts.{double_quotes}
use Rattle.dms_base.specs.Words.{is_digit}
use Rattle.dms_base.specs.Text.{is_printable}

-- letters, digits and hyphens, the last of which is no hyphen; the first stands behind a hyphen, or not
abbrev pub goes_on : Bool → List ℕ → Bool
goes_on hyphen [] = not hyphen
goes_on hyphen (b ∷ bs) = if is_letter b || is_digit b then goes_on false bs else b == 45 && goes_on true bs

-- the number that digits spell, behind this one
abbrev pub value_from : ℕ → List ℕ → ℕ
value_from n [] = n
value_from n (b ∷ bs) = value_from (10 * n + (b - 48)) bs

-- a sign before digits, or none: whether there is one, and whether it is -
pub data IsSigned : List ℕ → Bool → Bool → Type 0 where
  no_sign : IsSigned [] false false
  with_plus : IsSigned (codes "+") true false
  with_minus : IsSigned (codes "-") true true

-- a point and the digits behind it, or nothing
abbrev pub behind_point : List ℕ → List ℕ
behind_point [] = []
behind_point (b ∷ bs) = 46 ∷ b ∷ bs

-- more than 18 digits are too many; a sign or a point makes a decimal
abbrev pub number_of : Bool → Bool → List ℕ → List ℕ → Token
number_of signed minus whole fraction =
    if nat_lt 18 (length whole + length fraction) then Long
    else (if signed || nat_lt 0 (length fraction) then Decimal minus (value_from 0 (whole ++ fraction)) (length fraction)
    else Number (value_from 0 (whole ++ fraction)))

abbrev pub op_text : Op → List ℕ
op_text Equal = codes "="
op_text NotEqual = codes "<>"
op_text Less = codes "<"
op_text LessEqual = codes "<="
op_text Greater = codes ">"
op_text GreaterEqual = codes ">="

-- these bytes have the form of this token
pub data SpellsToken : List ℕ → Token → Type 0 where
  a_word : (b : ℕ) (bs : List ℕ) → is_letter b ≡ true → goes_on false bs ≡ true → SpellsToken (b ∷ bs) (Word (map upper (b ∷ bs)))
  a_number : (sign : List ℕ) (signed minus : Bool) (b : ℕ) (whole fraction : List ℕ) → IsSigned sign signed minus → is_digit b ≡ true → list_all is_digit whole ≡ true → list_all is_digit fraction ≡ true → SpellsToken (sign ++ (b ∷ (whole ++ behind_point fraction))) (number_of signed minus (b ∷ whole) fraction)
  a_string : (text : List ℕ) → list_all is_printable text ≡ true → length text ≤ 200 → SpellsToken (34 ∷ (double_quotes text ++ 34 ∷ [])) (Quoted text)
  a_sign : (b : ℕ) → is_sign b ≡ true → SpellsToken (b ∷ []) (Sign b)
  a_comparison : (op : Op) → SpellsToken (op_text op) (Compare op)

-- a token's bytes begin a text, and none follow that could belong to it: they have its form, no longer prefix of the
-- text has a token's form, and behind a string no quote stands, which would be one of its characters
pub record IsLongest (front rest : List ℕ) (token : Token) : Type 0 where
  pub spelled : SpellsToken front token
  pub longest : (more back : List ℕ) (t : Token) → rest ≡ more ++ back → SpellsToken (front ++ more) t → more ≡ []
  pub closed : (text back : List ℕ) → front ≡ 34 ∷ text → rest ≡ 34 ∷ back → ⊥

-- no byte of a comment that goes on stands first
abbrev pub is_past_comment : List ℕ → Bool
is_past_comment [] = true
is_past_comment (b ∷ bs) = b == 10 || not (is_plain b)

-- the tokens of a text whose first byte stands at a place: blanks and comments are none, each token is the longest one,
-- and where none begins the text can't be read on
pub data AreTokens : ℕ → List ℕ → List Lexeme → Type 0 where
  the_end : (place : ℕ) → AreTokens place [] (lexeme End place ∷ [])
  a_blank : (place b : ℕ) (rest : List ℕ) (ls : List Lexeme) → is_blank b ≡ true → AreTokens (place + 1) rest ls → AreTokens place (b ∷ rest) ls
  a_comment : (place : ℕ) (text comment rest : List ℕ) (ls : List Lexeme) → text ≡ comment ++ rest → list_all is_plain comment ≡ true → list_all (λ b. not (b == 10)) comment ≡ true → is_past_comment rest ≡ true → AreTokens (place + 1 + length comment) rest ls → AreTokens place (37 ∷ text) ls
  a_token : (place : ℕ) (text front rest : List ℕ) (token : Token) (ls : List Lexeme) → text ≡ front ++ rest → IsLongest front rest token → AreTokens (place + length front) rest ls → AreTokens place text (lexeme token place ∷ ls)
  unreadable : (place b : ℕ) (rest : List ℕ) → is_blank b ≡ false → b == 37 ≡ false → ((front back : List ℕ) (token : Token) → b ∷ rest ≡ front ++ back → IsLongest front back token → ⊥) → AreTokens place (b ∷ rest) (lexeme Bad place ∷ [])
