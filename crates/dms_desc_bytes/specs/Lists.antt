-- Words of the checks that speak of lists.
use Rattle.std.specs.Prelude.{ℕ, ◌+◌, List, [], ◌∷◌, Bool, true, false, ◌&&◌, nat_le}
use Rattle.std.specs.List.{list_all}

-- from one number to another, both included
abbrev pub is_within : ℕ → ℕ → ℕ → Bool
is_within least most n = nat_le least n && nat_le n most

abbrev pub is_empty : {A : Type 0} → List A → Bool
is_empty [] = true
is_empty (x ∷ xs) = false

-- each two of a list differ in this sense, the earlier one said first
abbrev pub apart : {A : Type 0} → (A → A → Bool) → List A → Bool
apart differs [] = true
apart differs (x ∷ xs) = list_all (differs x) xs && apart differs xs

-- what the elements of a list come to together
abbrev pub total : {A : Type 0} → (A → ℕ) → List A → ℕ
total size [] = 0
total size (x ∷ xs) = size x + total size xs
