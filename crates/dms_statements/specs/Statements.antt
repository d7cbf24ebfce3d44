-- Statements: what a text asks for, or its first bad place.
use Rattle.std.specs.Prelude.{ℕ, zero, suc, ◌+◌, ◌*◌, ◌-◌, ◌^◌, ◌≤◌, ◌≡◌, ◌==◌, ◌&&◌, ◌++◌, nat_lt, nat_le, if◌then◌else◌, Bool, true, false, List, [], ◌∷◌, length, drop, codes, Some, None}
use Rattle.std.specs.Str.{bytes_eq}
use Rattle.std.specs.List.{list_any}
use Rattle.std.specs.declared.option.Option.{Option}
use Rattle.std.specs.declared.result.Result.{Result}
use Rattle.std.specs.declared.result.Result.TheVariants.{Ok, Err}
use Rattle.dms_base.specs.Words.{is_digit}
use Rattle.dms_tokens.specs.declared.token.Token.{Token}
use Rattle.dms_tokens.specs.declared.token.Token.TheVariants.{Word, Number, Long}
use Rattle.dms_tokens.specs.declared.token.Lexeme.{Lexeme}
use Rattle.dms_tokens.specs.Tokens.{tokens_of}
use Rattle.dms_base.specs.Name.{is_name}
use Rattle.dms_tokens.specs.Cursors.{place_at, is_word, is_the_sign, is_end, starts, one_at}
use Rattle.dms_statements.specs.declared.fault.StatementFault.{StatementFault}
use Rattle.dms_statements.specs.declared.fault.StatementFault.TheVariants.{Bad as BadAt, Memory}
use Rattle.dms_statements.specs.declared.statement.NamedRow.{NamedRow}
use Rattle.dms_statements.specs.declared.statement.Statement.{Statement}
use Rattle.dms_statements.specs.declared.statement.Statement.TheVariants.{Dump, Rebuild, Rollback, Reconstruct}

-- reading gives a value and the tokens behind it, or the first bad place
abbrev pub Read : Type 0 → Type 0
Read A = Result (A × List Lexeme) ℕ

infixl 10 ◌>>=◌
abbrev pub ◌>>=◌ : {A B : Type 0} → Result A ℕ → (A → Result B ℕ) → Result B ℕ
(Ok x) >>= f = f x
(Err p) >>= f = Err p

-- behind this word
abbrev pub word_left : List ℕ → List Lexeme → Result (List Lexeme) ℕ
word_left word ts = one_at place_at (is_word word) ts

-- a number from least to most, of at most 18 digits
abbrev pub number_in : ℕ → ℕ → ℕ → Token → List Lexeme → Read ℕ
number_in least most place (Number v) rest = if nat_le least v && nat_le v most then Ok (v, rest) else Err place
number_in least most place token rest = Err place

abbrev pub number_at : ℕ → ℕ → List Lexeme → Read ℕ
number_at least most [] = Err 0
number_at least most (l ∷ ls) = number_in least most l.place l.token ls

-- a name that isn't reserved, of at most 30 bytes
abbrev pub name_in : ℕ → Token → List Lexeme → Read (List ℕ)
name_in place (Word b) rest = if is_name b then Ok (b, rest) else Err place
name_in place token rest = Err place

abbrev pub name_at : List Lexeme → Read (List ℕ)
name_at [] = Err 0
name_at (l ∷ ls) = name_in l.place l.token ls

-- ---- the number of a point has up to 20 digits, and is below 2^64

-- how many digits bytes begin with
abbrev pub digits_first : List ℕ → ℕ
digits_first [] = 0
digits_first (b ∷ bs) = if is_digit b then suc (digits_first bs) else 0

-- the value of the first n digits, behind one so far
abbrev pub digits_value : ℕ → ℕ → List ℕ → ℕ
digits_value v zero bs = v
digits_value v (suc n) [] = v
digits_value v (suc n) (b ∷ bs) = digits_value (10 * v + (b - 48)) n bs

-- a point with a digit behind it
abbrev pub is_fraction : List ℕ → Bool
is_fraction [] = false
is_fraction (b ∷ []) = false
is_fraction (b ∷ (c ∷ bs)) = (b == 46) && is_digit c

-- bytes that begin with 19 or 20 digits, which are a number below 2^64 and no decimal
abbrev pub long_value : List ℕ → Option ℕ
long_value bytes =
    if nat_lt 18 (digits_first bytes) && (nat_le (digits_first bytes) 20 && (nat_lt (digits_value 0 (digits_first bytes) bytes) (2 ^ 64) && (if is_fraction (drop (digits_first bytes) bytes) then false else true)))
    then Some (digits_value 0 (digits_first bytes) bytes) else None

abbrev pub long_or_bad : Option ℕ → ℕ → List Lexeme → Read ℕ
long_or_bad None place rest = Err place
long_or_bad (Some v) place rest = Ok (v, rest)

abbrev pub point_in : List ℕ → ℕ → Token → List Lexeme → Read ℕ
point_in text place (Number v) rest = Ok (v, rest)
point_in text place Long rest = long_or_bad (long_value (drop (place - 1) text)) place rest
point_in text place token rest = Err place

abbrev pub point_at : List ℕ → List Lexeme → Read ℕ
point_at text [] = Err 0
point_at text (l ∷ ls) = point_in text l.place l.token ls

-- ---- rows

-- this row of the structure with this name is among them
abbrev pub is_named : List ℕ → ℕ → List NamedRow → Bool
is_named name row rows = list_any (λ (r : NamedRow). (r.row == row) && bytes_eq r.name name) rows

-- `name ROW r` behind rows, of which it is none
unfoldable pub row_at : List NamedRow → List Lexeme → Read (List NamedRow)
row_at rows ts = do
  name ← name_at ts
  word ← word_left (codes "ROW") name.1
  r ← number_at 0 4294967295 word
  if is_named name.0 r.0 rows then Err (place_at ts) else Ok (rows ++ record { name = name.0; row = r.0 } ∷ [], r.1)

-- at most so many rows with commas between them, behind rows
unfoldable pub rows_at : ℕ → List NamedRow → List Lexeme → Read (List NamedRow)
rows_at zero rows ts = Err (place_at ts)
rows_at (suc more) rows ts = do
  r ← row_at rows ts
  if starts (is_the_sign 44) r.1 then rows_at more r.0 (drop 1 r.1) else Ok r

-- ---- the forms

-- behind a semicolon, where there is one
abbrev pub past_semicolon : List Lexeme → List Lexeme
past_semicolon ts = if starts (is_the_sign 59) ts then drop 1 ts else ts

abbrev pub ended : Statement → List Lexeme → Result Statement ℕ
ended s ts = if starts is_end (past_semicolon ts) then Ok s else Err (place_at (past_semicolon ts))

abbrev pub dump_from : List Lexeme → Result Statement ℕ
dump_from ts = do
  to ← word_left (codes "TO") ts
  d ← number_at 1 9999 to
  ended (Dump d.0) d.1

abbrev pub rollback_from : List ℕ → List Lexeme → Result Statement ℕ
rollback_from text ts = do
  to ← word_left (codes "TO") ts
  n ← point_at text to
  ended (Rollback n.0) n.1

abbrev pub rebuild_to : List ℕ → ℕ → List Lexeme → Result Statement ℕ
rebuild_to text d ts =
    if starts (is_word (codes "TO")) ts then (point_at text (drop 1 ts) >>= (λ n. ended (Rebuild d (Some n.0)) n.1))
    else ended (Rebuild d None) ts

abbrev pub rebuild_from : List ℕ → List Lexeme → Result Statement ℕ
rebuild_from text ts = do
  behind ← word_left (codes "FROM") ts
  d ← number_at 1 9999 behind
  rebuild_to text d.0 d.1

abbrev pub reconstruct_from : List Lexeme → Result Statement ℕ
reconstruct_from ts = do
  rows ← rows_at 100 [] ts
  behind ← word_left (codes "FROM") rows.1
  d ← number_at 1 9999 behind
  ended (Reconstruct d.0 rows.0) d.1

abbrev pub statement_from : List ℕ → List Lexeme → Result Statement ℕ
statement_from text ts =
    if starts (is_word (codes "DUMP")) ts then dump_from (drop 1 ts)
    else (if starts (is_word (codes "ROLLBACK")) ts then rollback_from text (drop 1 ts)
    else (if starts (is_word (codes "REBUILD")) ts then rebuild_from text (drop 1 ts)
    else (if starts (is_word (codes "RECONSTRUCT")) ts then reconstruct_from (drop 1 ts) else Err (place_at ts))))

-- what a text asks for, or its first bad place
unfoldable pub statement_of : List ℕ → Result Statement ℕ
statement_of text = if nat_lt 10000 (length text) then Err 10001 else statement_from text (tokens_of text)

-- the number of a dump
abbrev pub IsDumpNumber : ℕ → Type 0
IsDumpNumber d = (1 ≤ d) × (d ≤ 9999)

-- at most 100 rows
abbrev pub AreFewRows : List NamedRow → Type 0
AreFewRows rows = length rows ≤ 100

abbrev pub IsFit : Statement → Type 0
IsFit (Dump d) = IsDumpNumber d
IsFit (Rebuild d n) = IsDumpNumber d
IsFit (Rollback n) = Unit {0}
IsFit (Reconstruct d rows) = IsDumpNumber d × AreFewRows rows

-- ---- what a function that reads answers

-- a fault that was answered is what reading gives, unless memory ran out
abbrev pub Fails : {A : Type 0} → StatementFault → Result A ℕ → Type 0
Fails Memory read = Unit {0}
Fails (BadAt p) read = read ≡ Err p

abbrev pub Passes : Result (Unit {0}) StatementFault → List Lexeme → Result (List Lexeme) ℕ → Type 0
Passes (Ok x) rest read = read ≡ Ok rest
Passes (Err e) rest read = Fails e read

abbrev pub Takes : {A : Type 0} → Result A StatementFault → List Lexeme → Read A → Type 0
Takes (Ok x) rest read = read ≡ Ok (x, rest)
Takes (Err e) rest read = Fails e read

abbrev pub Gives : {A : Type 0} → Result A StatementFault → Result A ℕ → Type 0
Gives (Ok x) read = read ≡ Ok x
Gives (Err e) read = Fails e read
