-- Where two lists of byte strings differ first.
use Rattle.std.specs.Prelude.{ℕ, suc, ◌≡◌, not, if◌then◌else◌, List, [], ◌∷◌, Some, None}
use Rattle.std.specs.declared.option.Option.{Option}
use Rattle.std.specs.Option.{option_map}
use Rattle.std.specs.Ordering.{is_gt}
use Rattle.dms_chain.specs.Lists.{AreInByteOrder, bytes_cmp, first, has_entry, is_same}
use Rattle.dms_chain.specs.Leads.{lead}

-- the place of the first difference, from 1; none where they are one list
abbrev pub first_diff : List (List ℕ) → List (List ℕ) → Option ℕ
first_diff [] [] = None
first_diff [] (y ∷ ys) = Some 1
first_diff (x ∷ xs) [] = Some 1
first_diff (x ∷ xs) (y ∷ ys) = if is_same x y then option_map suc (first_diff xs ys) else Some 1

-- the first entry of a list that another one hasn't
abbrev pub first_out : List (List ℕ) → List (List ℕ) → Option (List ℕ)
first_out xs ys = first (λ x. not (has_entry x ys)) xs

-- the less of two entries
abbrev pub less_of : Option (List ℕ) → Option (List ℕ) → Option (List ℕ)
less_of None b = b
less_of (Some a) None = Some a
less_of (Some a) (Some b) = if is_gt (bytes_cmp a b) then Some b else Some a

-- the place of an entry in a rising list, from 1, whether it stands there or not
abbrev pub place_of : List (List ℕ) → List ℕ → ℕ
place_of xs q = suc (lead q xs)

-- Rising lists differ first at the place of the least entry that only one of them has.
abbrev pub FirstDiffByLeast : Type 0
FirstDiffByLeast = (xs ys : List (List ℕ)) → AreInByteOrder xs → AreInByteOrder ys
    → first_diff xs ys ≡ option_map (place_of xs) (less_of (first_out xs ys) (first_out ys xs))

-- Where no place differs they are one list.
abbrev pub SameWhereNone : Type 0
SameWhereNone = (xs ys : List (List ℕ)) → first_diff xs ys ≡ None → xs ≡ ys
