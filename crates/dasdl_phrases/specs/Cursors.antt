-- The tokens in front of a reader.
use Rattle.std.specs.Prelude.{ℕ, zero, suc, List, [], ◌∷◌, Bool, false, ◌&&◌, not, nat_le, nat_lt, length, if◌then◌else◌}
use Rattle.std.specs.declared.result.Result.TheVariants.{Ok, Err}
use Rattle.dasdl_phrases.specs.declared.fault.ParseFault.{ParseFault}
use Rattle.dasdl_phrases.specs.declared.fault.ParseFault.TheVariants.{BadCharacter, Expected, NumberRange, TooMany}
use Rattle.dms_tokens.specs.declared.token.Token.{Token}
use Rattle.dms_tokens.specs.declared.token.Token.TheVariants.{Word, Number, Long, Bad}
use Rattle.dms_tokens.specs.declared.token.Lexeme.{Lexeme}
use Rattle.dms_tokens.specs.Cursors.{starts, is_word, is_the_sign, is_equal, one_at, past_comma}
use Rattle.dasdl_phrases.specs.Reads.{Read, Pass, ◌>>=◌}
use Rattle.dms_base.specs.Name.{is_name}
use Rattle.dms_base.specs.Reserved.{is_reserved}

-- the fault of a token that isn't allowed where it stands
abbrev pub fault_of : Token → ℕ → ParseFault
fault_of Bad place = BadCharacter place
fault_of token place = Expected place

abbrev pub fault_at : List Lexeme → ParseFault
fault_at [] = Expected 0
fault_at (l ∷ ls) = fault_of l.token l.place

-- a word that isn't reserved, however long
abbrev pub is_free : Token → Bool
is_free (Word b) = not (is_reserved b)
is_free token = false

-- this word
unfoldable pub word_at : List ℕ → List Lexeme → Pass
word_at word ts = one_at fault_at (is_word word) ts

-- this sign
unfoldable pub sign_at : ℕ → List Lexeme → Pass
sign_at sign ts = one_at fault_at (is_the_sign sign) ts

-- the sign =
unfoldable pub equal_at : List Lexeme → Pass
equal_at ts = one_at fault_at is_equal ts

-- a comma where there is one
unfoldable pub comma_at : List Lexeme → Pass
comma_at ts = Ok (past_comma ts)

-- a name is a word of at most 30 bytes that isn't reserved (each word of a text has the form of one)
abbrev pub name_of : Token → ℕ → List Lexeme → Read (List ℕ)
name_of (Word b) place ls =
    if is_reserved b then Err (Expected place) else (if nat_lt 30 (length b) then Err (TooMany 30)
    else (if is_name b then Ok (b, ls) else Err (Expected place)))
name_of token place ls = Err (fault_of token place)

unfoldable pub name_at : List Lexeme → Read (List ℕ)
name_at [] = Err (Expected 0)
name_at (l ∷ ls) = name_of l.token l.place ls

abbrev pub number_of : Token → ℕ → ℕ → ℕ → List Lexeme → Read ℕ
number_of (Number n) low high place ls = if nat_le low n && nat_le n high then Ok (n, ls) else Err (NumberRange place)
number_of Long low high place ls = Err (NumberRange place)
number_of token low high place ls = Err (fault_of token place)

-- a number in this range
unfoldable pub number_at : ℕ → ℕ → List Lexeme → Read ℕ
number_at low high [] = Err (Expected 0)
number_at low high (l ∷ ls) = number_of l.token low high l.place ls

-- one turn after another up to where they are done, at most so many
unfoldable pub turns : {S : Type 0} → (S → List Lexeme → Bool) → (S → List Lexeme → Read S) → ℕ → S → List Lexeme → Read S
turns done one zero s ts = if done s ts then Ok (s, ts) else Err (fault_at ts)
turns done one (suc more) s ts = if done s ts then Ok (s, ts) else (one s ts >>= λ r. turns done one more r.0 r.1)

-- one turn after another up to where they are done: each takes a token at least
unfoldable pub turns_at : {S : Type 0} → (S → List Lexeme → Bool) → (S → List Lexeme → Read S) → S → List Lexeme → Read S
turns_at done one s ts = turns done one (length ts) s ts

-- up to a closing bracket
abbrev pub until_close : {S : Type 0} → S → List Lexeme → Bool
until_close s ts = starts (is_the_sign 41) ts

-- up to a semicolon
abbrev pub until_semicolon : {S : Type 0} → S → List Lexeme → Bool
until_semicolon s ts = starts (is_the_sign 59) ts
