-- How conditions are joined.
use Rattle.std.specs.Prelude.{◌≡◌, ℕ, zero, suc, List, [], ◌∷◌, Bool, true, false, Some, None}
use Rattle.std.specs.declared.option.Option.{Option}
use Rattle.dasdl_phrases.specs.TreeCodes.{WrittenTree}
use Rattle.dasdl_phrases.specs.TreeCodes.WrittenTree.{Both, Either, Turned}

-- behind so many NOTs
abbrev pub under_nots : ℕ → WrittenTree → WrittenTree
under_nots zero t = t
under_nots (suc n) t = Turned (under_nots n t)

-- behind AND, where there is one
abbrev pub with_and : Option WrittenTree → WrittenTree → WrittenTree
with_and None t = t
with_and (Some left) t = Both left t

-- behind OR, where there is one
abbrev pub with_or : Option WrittenTree → WrittenTree → WrittenTree
with_or None t = t
with_or (Some left) t = Either left t

abbrev pub is_nil : {A : Type 0} → List A → Bool
is_nil [] = true
is_nil (x ∷ xs) = false

-- the first of a list is taken out, where there is one
abbrev pub Pops : {A : Type 0} → Option A → List A → List A → Type 0
Pops None old new = old ≡ []
Pops (Some x) old new = old ≡ x ∷ new
