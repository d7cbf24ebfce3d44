-- The first of a list that fails a test, which sees those before it.
use Rattle.std.specs.Prelude.{ℕ, ◌&&◌, if◌then◌else◌, Bool, true, List, [], ◌∷◌, ◌++◌, Option, Some, None}

-- each passes, seen behind those before it
abbrev pub all_pass : {A : Type 0} → (List A → A → Bool) → List A → List A → Bool
all_pass ok before [] = true
all_pass ok before (x ∷ xs) = ok before x && all_pass ok (before ++ x ∷ []) xs

-- the first that doesn't
abbrev pub first_failing : {A : Type 0} → (List A → A → Bool) → List A → List A → Option A
first_failing ok before [] = None
first_failing ok before (x ∷ xs) = if ok before x then first_failing ok (before ++ x ∷ []) xs else Some x
