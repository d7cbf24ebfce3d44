-- What reading gives, and what a function that reads answers.
use Rattle.std.specs.Prelude.{◌≡◌, List}
use Rattle.std.specs.declared.result.Result.{Result}
use Rattle.std.specs.declared.result.Result.TheVariants.{Ok, Err}
use Rattle.dms_tokens.specs.declared.token.Lexeme.{Lexeme}
use Rattle.dasdl_phrases.specs.declared.fault.ParseFault.{ParseFault}
use Rattle.dasdl_phrases.specs.declared.fault.ParseFault.TheVariants.{BadCharacter, Expected, NumberRange, TooMany, Memory}

-- reading gives a value and the tokens after it, or the first fault
abbrev pub Read : Type 0 → Type 0
Read A = Result (A × List Lexeme) ParseFault

-- the same where there is no value to give
abbrev pub Pass : Type 0
Pass = Result (List Lexeme) ParseFault

infixl 10 ◌>>=◌
abbrev pub ◌>>=◌ : {A B : Type 0} → Result A ParseFault → (A → Result B ParseFault) → Result B ParseFault
(Ok x) >>= f = f x
(Err e) >>= f = Err e

-- a fault that was answered is the one that reading gives, unless memory ran out
abbrev pub Fails : {Y : Type 0} → ParseFault → Result Y ParseFault → Type 0
Fails Memory read = Unit {0}
Fails (BadCharacter p) read = read ≡ Err (BadCharacter p)
Fails (Expected p) read = read ≡ Err (Expected p)
Fails (NumberRange p) read = read ≡ Err (NumberRange p)
Fails (TooMany n) read = read ≡ Err (TooMany n)

-- what was answered is what reading gives, and these tokens are left
abbrev pub Takes : {X : Type 0} → Result X ParseFault → List Lexeme → Read X → Type 0
Takes (Ok x) rest read = read ≡ Ok (x, rest)
Takes (Err e) rest read = Fails e read

-- the same where there is no value to give
abbrev pub Passes : {X : Type 0} → Result X ParseFault → List Lexeme → Pass → Type 0
Passes (Ok x) rest read = read ≡ Ok rest
Passes (Err e) rest read = Fails e read

-- the same where nothing is left to read
abbrev pub Gives : {X : Type 0} → Result X ParseFault → Result X ParseFault → Type 0
Gives (Ok x) read = read ≡ Ok x
Gives (Err e) read = Fails e read
