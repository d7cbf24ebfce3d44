-- What judging a schema gives, and what a function that judges answers.
use Rattle.std.specs.Prelude.{◌≡◌, ℕ, List, [], ◌∷◌, set}
use Rattle.std.specs.declared.result.Result.{Result}
use Rattle.std.specs.declared.result.Result.TheVariants.{Ok, Err}
use Rattle.dasdl_compile.specs.declared.fault.CompileFault.{CompileFault}
use Rattle.dasdl_compile.specs.declared.fault.CompileFault.TheVariants.{Twice, Unknown, KeyItem, CondKind, RecordLong, KeyLong, NoRestart, Embedding, DescriptionLong, Memory}

-- judging gives a value, or the first fault
abbrev pub Judged : Type 0 → Type 0
Judged A = Result A CompileFault

infixl 10 ◌>>=◌
abbrev pub ◌>>=◌ : {A B : Type 0} → Judged A → (A → Judged B) → Judged B
(Ok x) >>= f = f x
(Err e) >>= f = Err e

-- a fault that was answered is the one that judging gives, unless memory ran out
abbrev pub CompileFails : {Y : Type 0} → CompileFault → Judged Y → Type 0
CompileFails Memory read = Unit {0}
CompileFails (Twice n) read = read ≡ Err (Twice n)
CompileFails (Unknown n) read = read ≡ Err (Unknown n)
CompileFails (KeyItem n) read = read ≡ Err (KeyItem n)
CompileFails (CondKind n) read = read ≡ Err (CondKind n)
CompileFails (RecordLong n) read = read ≡ Err (RecordLong n)
CompileFails (KeyLong n) read = read ≡ Err (KeyLong n)
CompileFails NoRestart read = read ≡ Err NoRestart
CompileFails (Embedding n) read = read ≡ Err (Embedding n)
CompileFails (DescriptionLong n) read = read ≡ Err (DescriptionLong n)

-- what was answered is what judging gives
abbrev pub CompileGives : {X : Type 0} → Judged X → Judged X → Type 0
CompileGives (Ok x) read = read ≡ Ok x
CompileGives (Err e) read = CompileFails e read

-- the same where what is given is kept in place
abbrev pub Makes : {X S : Type 0} → Judged X → S → Judged S → Type 0
Makes (Ok x) new read = read ≡ Ok new
Makes (Err e) new read = CompileFails e read

-- one after another is judged, up to the first fault
unfoldable pub steps : {C S T : Type 0} → (C → S → T → Judged S) → C → S → List T → Judged S
steps one c s [] = Ok s
steps one c s (x ∷ xs) = one c s x >>= λ t. steps one c t xs

-- what judging gives stands at its place in a list
abbrev pub in_place : {T : Type 0} → List T → ℕ → Judged T → Judged (List T)
in_place xs at (Ok x) = Ok (set xs at x)
in_place xs at (Err e) = Err e
