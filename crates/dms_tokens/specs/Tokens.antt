-- The tokens of a text: one byte after another, with what is being read.
use Rattle.std.specs.Prelude.{ℕ, ◌+◌, ◌-◌, List, [], ◌∷◌, ◌++◌, Bool, true, false, ◌||◌, ◌==◌, nat_lt, length, if◌then◌else◌}
use Rattle.dms_base.specs.declared.op.Op.TheVariants.{Equal, NotEqual, Less as OpLess, LessEqual, Greater as OpGreater, GreaterEqual}
use Rattle.dms_tokens.specs.declared.token.Token.{Token}
use Rattle.dms_tokens.specs.declared.token.Token.TheVariants.{Word, Number, Decimal, Long, Quoted, Sign, Compare, Bad, End}
use Rattle.dms_tokens.specs.declared.token.Lexeme.{Lexeme}
use Rattle.dms_tokens.specs.declared.reading.Digits.{Digits}
use Rattle.dms_tokens.specs.declared.reading.Reading.{Reading}
use Rattle.dms_tokens.specs.declared.reading.Reading.TheVariants.{Between, Comment, Word as InWord, Dashes, Signed, Whole, Point, Fraction, Quoted as InQuotes, Quote, Less, Greater, Stopped}
use Rattle.dms_tokens.specs.Lexing.{is_blank, is_plain, upper, is_letter, is_sign, with_digit, counted_on}
use Rattle.dms_base.specs.Words.{is_digit}
use Rattle.dms_base.specs.Text.{is_printable}

abbrev pub lexeme : Token → ℕ → Lexeme
lexeme token place = record { token = token; place = place }

-- what a byte gives, and how reading goes on
abbrev pub Turn : Type 0
Turn = List Lexeme × Reading

abbrev pub give : Token → ℕ → Turn → Turn
give token place turn = (lexeme token place ∷ turn.0, turn.1)

-- a byte that can't be read, or where a string that isn't one begins
abbrev pub bad : ℕ → Turn
bad place = (lexeme Bad place ∷ [], Stopped)

-- a number's first digit
abbrev pub first_digit : Bool → Bool → ℕ → Digits
first_digit signed minus b = record { signed = signed; minus = minus; value = b - 48; count = 1; places = 0 }

-- a number with one more digit before the point
abbrev pub whole_digit : Digits → ℕ → Digits
whole_digit d b = record { signed = d.signed; minus = d.minus; value = with_digit d.value b; count = counted_on d.count; places = d.places }

-- a number with one more digit behind the point
abbrev pub point_digit : Digits → ℕ → Digits
point_digit d b = record { signed = d.signed; minus = d.minus; value = with_digit d.value b; count = counted_on d.count; places = counted_on d.places }

-- more than 18 digits are too many; a sign or a point makes a decimal
abbrev pub number_token : Digits → Token
number_token d =
    if nat_lt 18 d.count then Long
    else (if d.signed || nat_lt 0 d.places then Decimal d.minus d.value d.places else Number d.value)

-- a byte between tokens
unfoldable pub fresh_byte : ℕ → ℕ → Turn
fresh_byte place b =
    if is_blank b then ([], Between)
    else (if b == 37 then ([], Comment)
    else (if is_letter b then ([], InWord place (upper b ∷ []))
    else (if is_digit b then ([], Whole place (first_digit false false b))
    else (if b == 43 || b == 45 then ([], Signed place (b == 45))
    else (if b == 34 then ([], InQuotes place [])
    else (if is_sign b then (lexeme (Sign b) place ∷ [], Between)
    else (if b == 61 then (lexeme (Compare Equal) place ∷ [], Between)
    else (if b == 60 then ([], Less place)
    else (if b == 62 then ([], Greater place)
    else bad place)))))))))

-- a comment ends with its line
unfoldable pub comment_byte : ℕ → ℕ → Turn
comment_byte place b = if b == 10 then ([], Between) else (if is_plain b then ([], Comment) else bad place)

-- a word goes on with letters and digits, and with - where one of these follows
unfoldable pub word_byte : ℕ → List ℕ → ℕ → ℕ → Turn
word_byte start word place b =
    if is_letter b || is_digit b then ([], InWord start (word ++ upper b ∷ []))
    else (if b == 45 then ([], Dashes start word place (45 ∷ []))
    else give (Word word) start (fresh_byte place b))

unfoldable pub dashes_byte : ℕ → List ℕ → ℕ → List ℕ → ℕ → Turn
dashes_byte start word at dashes b =
    if is_letter b || is_digit b then ([], InWord start ((word ++ dashes) ++ upper b ∷ []))
    else (if b == 45 then ([], Dashes start word at (dashes ++ 45 ∷ []))
    else give (Word word) start (bad at))

-- a sign begins a decimal where a digit follows
unfoldable pub signed_byte : ℕ → Bool → ℕ → Turn
signed_byte start minus b = if is_digit b then ([], Whole start (first_digit true minus b)) else bad start

unfoldable pub whole_byte : ℕ → Digits → ℕ → ℕ → Turn
whole_byte start d place b =
    if is_digit b then ([], Whole start (whole_digit d b))
    else (if b == 46 then ([], Point start d place)
    else give (number_token d) start (fresh_byte place b))

-- a point is a number's where a digit follows
unfoldable pub point_byte : ℕ → Digits → ℕ → ℕ → Turn
point_byte start d at b =
    if is_digit b then ([], Fraction start (point_digit d b)) else give (number_token d) start (bad at)

unfoldable pub fraction_byte : ℕ → Digits → ℕ → ℕ → Turn
fraction_byte start d place b =
    if is_digit b then ([], Fraction start (point_digit d b)) else give (number_token d) start (fresh_byte place b)

-- one more character of a string, of which there are at most 200
unfoldable pub character : ℕ → List ℕ → ℕ → Turn
character start text b = if nat_lt (length text) 200 then ([], InQuotes start (text ++ b ∷ [])) else bad start

unfoldable pub quoted_byte : ℕ → List ℕ → ℕ → Turn
quoted_byte start text b =
    if b == 34 then ([], Quote start text) else (if is_printable b then character start text b else bad start)

-- a quote behind a quote is a character of the string
unfoldable pub quote_byte : ℕ → List ℕ → ℕ → ℕ → Turn
quote_byte start text place b =
    if b == 34 then character start text b else give (Quoted text) start (fresh_byte place b)

unfoldable pub less_byte : ℕ → ℕ → ℕ → Turn
less_byte start place b =
    if b == 61 then (lexeme (Compare LessEqual) start ∷ [], Between)
    else (if b == 62 then (lexeme (Compare NotEqual) start ∷ [], Between)
    else give (Compare OpLess) start (fresh_byte place b))

unfoldable pub greater_byte : ℕ → ℕ → ℕ → Turn
greater_byte start place b =
    if b == 61 then (lexeme (Compare GreaterEqual) start ∷ [], Between)
    else give (Compare OpGreater) start (fresh_byte place b)

-- a byte, by what is being read
unfoldable pub byte_turn : Reading → ℕ → ℕ → Turn
byte_turn Between place b = fresh_byte place b
byte_turn Comment place b = comment_byte place b
byte_turn (InWord start word) place b = word_byte start word place b
byte_turn (Dashes start word at dashes) place b = dashes_byte start word at dashes b
byte_turn (Signed start minus) place b = signed_byte start minus b
byte_turn (Whole start d) place b = whole_byte start d place b
byte_turn (Point start d at) place b = point_byte start d at b
byte_turn (Fraction start d) place b = fraction_byte start d place b
byte_turn (InQuotes start text) place b = quoted_byte start text b
byte_turn (Quote start text) place b = quote_byte start text place b
byte_turn (Less start) place b = less_byte start place b
byte_turn (Greater start) place b = greater_byte start place b
byte_turn Stopped place b = ([], Stopped)

abbrev pub then_end : Token → ℕ → ℕ → List Lexeme
then_end token start place = lexeme token start ∷ lexeme End place ∷ []

abbrev pub then_bad : Token → ℕ → ℕ → List Lexeme
then_bad token start at = lexeme token start ∷ lexeme Bad at ∷ []

-- what the end of the text gives
unfoldable pub end_turn : Reading → ℕ → List Lexeme
end_turn Between place = lexeme End place ∷ []
end_turn Comment place = lexeme End place ∷ []
end_turn (InWord start word) place = then_end (Word word) start place
end_turn (Dashes start word at dashes) place = then_bad (Word word) start at
end_turn (Signed start minus) place = lexeme Bad start ∷ []
end_turn (Whole start d) place = then_end (number_token d) start place
end_turn (Point start d at) place = then_bad (number_token d) start at
end_turn (Fraction start d) place = then_end (number_token d) start place
end_turn (InQuotes start text) place = lexeme Bad start ∷ []
end_turn (Quote start text) place = then_end (Quoted text) start place
end_turn (Less start) place = then_end (Compare OpLess) start place
end_turn (Greater start) place = then_end (Compare OpGreater) start place
end_turn Stopped place = []

-- the tokens of what is left
abbrev pub tokens_from : Reading → ℕ → List ℕ → List Lexeme
tokens_from reading place [] = end_turn reading place
tokens_from reading place (b ∷ bs) = (byte_turn reading place b).0 ++ tokens_from (byte_turn reading place b).1 (place + 1) bs

-- the tokens of a text
abbrev pub tokens_of : List ℕ → List Lexeme
tokens_of text = tokens_from Between 1 text
