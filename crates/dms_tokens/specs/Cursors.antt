-- The tokens in front of a reader.
use Rattle.std.specs.Prelude.{ℕ, List, [], ◌∷◌, Bool, true, false, drop, codes, Some, None, if◌then◌else◌, ◌==◌}
use Rattle.std.specs.Str.{bytes_eq}
use Rattle.std.specs.declared.option.Option.{Option}
use Rattle.std.specs.declared.result.Result.{Result}
use Rattle.std.specs.declared.result.Result.TheVariants.{Ok, Err}
use Rattle.dms_base.specs.declared.op.Op.TheVariants.{Equal}
use Rattle.dms_base.specs.declared.kind.Literal.{Literal}
use Rattle.dms_base.specs.declared.kind.Literal.TheVariants.{Null, Bool as Boolean}
use Rattle.dms_tokens.specs.declared.token.Token.{Token}
use Rattle.dms_tokens.specs.declared.token.Token.TheVariants.{Word, Sign, Compare, Bad, End}
use Rattle.dms_tokens.specs.declared.token.Lexeme.{Lexeme}

abbrev pub place_at : List Lexeme → ℕ
place_at [] = 0
place_at (l ∷ ls) = l.place

abbrev pub is_word : List ℕ → Token → Bool
is_word word (Word b) = bytes_eq b word
is_word word token = false

abbrev pub is_the_sign : ℕ → Token → Bool
is_the_sign sign (Sign b) = b == sign
is_the_sign sign token = false

abbrev pub is_equal : Token → Bool
is_equal (Compare Equal) = true
is_equal token = false

abbrev pub is_end : Token → Bool
is_end End = true
is_end token = false

abbrev pub is_bad : Token → Bool
is_bad Bad = true
is_bad token = false

-- the first token passes a test
abbrev pub starts : (Token → Bool) → List Lexeme → Bool
starts test [] = false
starts test (l ∷ ls) = test l.token

-- a token that passes a test is left behind; another one is at fault
abbrev pub one_at : {F : Type 0} → (List Lexeme → F) → (Token → Bool) → List Lexeme → Result (List Lexeme) F
one_at fault test ts = if starts test ts then Ok (drop 1 ts) else Err (fault ts)

-- behind a comma, where there is one
abbrev pub past_comma : List Lexeme → List Lexeme
past_comma ts = if starts (is_the_sign 44) ts then drop 1 ts else ts

-- TRUE, FALSE or NULL
abbrev pub constant : List ℕ → Option Literal
constant b =
    if bytes_eq b (codes "TRUE") then Some (Boolean true)
    else (if bytes_eq b (codes "FALSE") then Some (Boolean false)
    else (if bytes_eq b (codes "NULL") then Some Null else None))
