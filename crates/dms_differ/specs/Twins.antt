-- Entries of one owner with equal keys: all but the last four bytes of two entries are the same.
use Rattle.std.specs.Prelude.{ℕ, ◌+◌, ◌-◌, ◌≡◌, ◌≤◌, if◌then◌else◌, Bool, true, List, [], ◌∷◌, length, take, Some, None}
use Rattle.std.specs.declared.option.Option.{Option}
use Rattle.dms_chain.specs.Lists.{AreInByteOrder, has_entry, is_same}

-- what stands before the record's number
abbrev pub front_of : List ℕ → List ℕ
front_of x = take (length x - 4) x

-- the place of the first entry with the front of the one before it; the first of these has place i
abbrev pub twin_at : ℕ → List ℕ → List (List ℕ) → Option ℕ
twin_at i before [] = None
twin_at i before (x ∷ xs) = if is_same (front_of before) (front_of x) then Some i else twin_at (i + 1) x xs

abbrev pub first_twin : List (List ℕ) → Option ℕ
first_twin [] = None
first_twin (x ∷ xs) = twin_at 2 x xs

abbrev pub AreWide : ℕ → List (List ℕ) → Type 0
AreWide width [] = Unit {0}
AreWide width (x ∷ xs) = (length x ≡ width) × AreWide width xs

-- In a rising list of entries of one width, of which no two neighbours have one front, no two have.
abbrev pub TwinsAreNeighbours : Type 0
TwinsAreNeighbours = (width : ℕ) (xs : List (List ℕ)) → 4 ≤ width → AreInByteOrder xs → AreWide width xs → first_twin xs ≡ None
    → (a b : List ℕ) → has_entry a xs ≡ true → has_entry b xs ≡ true → front_of a ≡ front_of b → a ≡ b
