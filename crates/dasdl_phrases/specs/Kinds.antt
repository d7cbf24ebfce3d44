-- Literals, and what an item may hold.
use Rattle.std.specs.Prelude.{ℕ, ◌+◌, List, [], ◌∷◌, Bool, true, false, ◌&&◌, ◌||◌, min, ◌^◌, ◌-◌, nat_le, nat_lt, length, codes, Some, None, if◌then◌else◌, ◌==◌}
use Rattle.std.specs.Str.{bytes_eq}
use Rattle.std.specs.declared.option.Option.{Option}
use Rattle.std.specs.declared.result.Result.TheVariants.{Ok, Err}
use Rattle.dms_base.specs.declared.kind.ItemKind.{ItemKind}
use Rattle.dms_base.specs.declared.kind.ItemKind.TheVariants.{Alpha, Number as Digits, Bool as Truth, Field}
use Rattle.dms_base.specs.declared.kind.Literal.{Literal}
use Rattle.dms_base.specs.declared.kind.Literal.TheVariants.{Text, Number as Amount}
use Rattle.dms_base.specs.Text.{text_of}
use Rattle.dasdl_phrases.specs.declared.fault.ParseFault.TheVariants.{BadCharacter, Expected, NumberRange}
use Rattle.dms_tokens.specs.declared.token.Token.{Token}
use Rattle.dms_tokens.specs.declared.token.Token.TheVariants.{Word, Number, Decimal, Long, Quoted}
use Rattle.dms_tokens.specs.declared.token.Lexeme.{Lexeme}
use Rattle.dasdl_phrases.specs.Reads.{Read, ◌>>=◌}
use Rattle.dms_tokens.specs.Lexing.{with_digit}
use Rattle.dms_tokens.specs.Cursors.{starts, is_word, is_the_sign, constant}
use Rattle.dasdl_phrases.specs.Cursors.{fault_of, word_at, sign_at, number_at}
use Rattle.dms_base.specs.Words.{is_digit}

abbrev pub constant_of : Option Literal → ℕ → List Lexeme → Read Literal
constant_of (Some literal) place ls = Ok (literal, ls)
constant_of None place ls = Err (Expected place)

-- a string of a text holds what a text may have
abbrev pub quoted_of : Option (List ℕ) → ℕ → List Lexeme → Read Literal
quoted_of (Some text) place ls = Ok (Text text, ls)
quoted_of None place ls = Err (BadCharacter place)

abbrev pub literal_of : Token → ℕ → List Lexeme → Read Literal
literal_of (Quoted text) place ls = quoted_of (text_of text) place ls
literal_of (Number n) place ls = Ok (Amount false n 0, ls)
literal_of (Decimal minus digits places) place ls = Ok (Amount minus digits places, ls)
literal_of Long place ls = Err (NumberRange place)
literal_of (Word b) place ls = constant_of (constant b) place ls
literal_of token place ls = Err (fault_of token place)

-- a string without its trailing spaces, a number of at most 18 digits, TRUE, FALSE or NULL
unfoldable pub literal_at : List Lexeme → Read Literal
literal_at [] = Err (Expected 0)
literal_at (l ∷ ls) = literal_of l.token l.place ls

-- the number that digits spell
abbrev pub digits_from : ℕ → List ℕ → Option ℕ
digits_from n [] = Some n
digits_from n (b ∷ bs) = if is_digit b then digits_from (with_digit n b) bs else None

-- more than 18 digits spell a number above all those of 18
abbrev pub cap_number : ℕ → Option ℕ → Option ℕ
cap_number count None = None
cap_number count (Some n) = Some (if nat_lt 18 count then 1000000000000000000 else n)

-- the number in a word that is an S joined to digits
unfoldable pub joined_number : List ℕ → Option ℕ
joined_number [] = None
joined_number (b ∷ []) = None
joined_number (b ∷ d ∷ ds) = if b == 83 then cap_number (length (d ∷ ds)) (digits_from 0 (d ∷ ds)) else None

-- the place behind one, held at its type's end
abbrev pub behind : ℕ → ℕ
behind place = min (place + 1) (2 ^ 32 - 1)

abbrev pub joined_of : Option ℕ → ℕ → List Lexeme → Read (Bool × ℕ)
joined_of None place ls = Err (Expected place)
joined_of (Some n) place ls = if nat_le 1 n && nat_le n 18 then Ok ((true, n), ls) else Err (NumberRange (behind place))

abbrev pub with_minus : Read ℕ → Read (Bool × ℕ)
with_minus (Ok n) = Ok ((true, n.0), n.1)
with_minus (Err e) = Err e

abbrev pub without_minus : Read ℕ → Read (Bool × ℕ)
without_minus (Ok n) = Ok ((false, n.0), n.1)
without_minus (Err e) = Err e

abbrev pub is_any_word : Token → Bool
is_any_word (Word b) = true
is_any_word token = false

abbrev pub signed_width_of : Token → ℕ → List Lexeme → Read (Bool × ℕ)
signed_width_of (Word b) place ls = if bytes_eq b (codes "S") then with_minus (number_at 1 18 ls) else joined_of (joined_number b) place ls
signed_width_of token place ls = Err (fault_of token place)

-- S number, or an S joined to the digits, which then stand one place behind it
unfoldable pub signed_width_at : List Lexeme → Read (Bool × ℕ)
signed_width_at [] = Err (Expected 0)
signed_width_at (l ∷ ls) = signed_width_of l.token l.place ls

-- [ S ] number
unfoldable pub width_at : List Lexeme → Read (Bool × ℕ)
width_at ts = if starts is_any_word ts then signed_width_at ts else without_minus (number_at 1 18 ts)

-- ( number )
unfoldable pub size_at : ℕ → List Lexeme → Read ℕ
size_at high ts = do
  t1 ← sign_at 40 ts
  n ← number_at 1 high t1
  t2 ← sign_at 41 n.1
  Ok (n.0, t2)

-- [ , number ]
unfoldable pub places_at : ℕ → List Lexeme → Read ℕ
places_at high ts =
    if starts (is_the_sign 44) ts then (do
      t1 ← sign_at 44 ts
      number_at 0 high t1)
    else Ok (0, ts)

-- ALPHA ( number )
unfoldable pub alpha_at : List Lexeme → Read ItemKind
alpha_at ts = do
  t1 ← word_at (codes "ALPHA") ts
  n ← size_at 200 t1
  Ok (Alpha n.0, n.1)

-- FIELD ( number )
unfoldable pub field_at : List Lexeme → Read ItemKind
field_at ts = do
  t1 ← word_at (codes "FIELD") ts
  n ← size_at 48 t1
  Ok (Field n.0, n.1)

-- NUMBER ( [ S ] number [ , number ] )
unfoldable pub decimal_at : List Lexeme → Read ItemKind
decimal_at ts = do
  t1 ← word_at (codes "NUMBER") ts
  t2 ← sign_at 40 t1
  n ← width_at t2
  m ← places_at n.0.1 n.1
  t3 ← sign_at 41 m.1
  Ok (Digits n.0.1 m.0 n.0.0, t3)

-- BOOLEAN
unfoldable pub truth_at : List Lexeme → Read ItemKind
truth_at ts = do
  t1 ← word_at (codes "BOOLEAN") ts
  Ok (Truth, t1)

-- an item's type follows
abbrev pub starts_kind : List Lexeme → Bool
starts_kind ts = starts (is_word (codes "ALPHA")) ts || starts (is_word (codes "NUMBER")) ts || starts (is_word (codes "BOOLEAN")) ts || starts (is_word (codes "FIELD")) ts

unfoldable pub kind_at : List Lexeme → Read ItemKind
kind_at ts =
    if starts (is_word (codes "ALPHA")) ts then alpha_at ts
    else (if starts (is_word (codes "NUMBER")) ts then decimal_at ts
    else (if starts (is_word (codes "BOOLEAN")) ts then truth_at ts
    else field_at ts))
