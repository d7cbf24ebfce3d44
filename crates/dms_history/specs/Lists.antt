-- Parts of a list, cut at a member of some kind.
use Rattle.std.specs.Prelude.{◌||◌, if◌then◌else◌, Bool, false, List, [], ◌∷◌}

-- one is of the kind
abbrev pub has : {A : Type 0} → (A → Bool) → List A → Bool
has p [] = false
has p (x ∷ xs) = p x || has p xs

-- up to the first of a kind, that one included; nothing where there is none
abbrev pub until_first : {A : Type 0} → (A → Bool) → List A → List A
until_first p [] = []
until_first p (x ∷ xs) = if p x then x ∷ [] else if has p xs then x ∷ until_first p xs else []

-- what follows the first of a kind
abbrev pub after_first : {A : Type 0} → (A → Bool) → List A → List A
after_first p [] = []
after_first p (x ∷ xs) = if p x then xs else after_first p xs

-- up to the last of a kind, that one included
abbrev pub until_last : {A : Type 0} → (A → Bool) → List A → List A
until_last p [] = []
until_last p (x ∷ xs) = if has p (x ∷ xs) then x ∷ until_last p xs else []

-- what follows the last of a kind; everything where there is none
abbrev pub after_last : {A : Type 0} → (A → Bool) → List A → List A
after_last p [] = []
after_last p (x ∷ xs) = if has p (x ∷ xs) then after_last p xs else x ∷ xs
