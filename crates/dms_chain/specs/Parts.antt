-- Parts of a chain, of a list of entries, and a place in one.
use Rattle.std.proofs.Common.{ℕ, zero, suc, ◌+◌, ◌<◌, ◌≡◌, ◌∙◌, List, [], ◌∷◌, ◌++◌, Bool, length, slice_get, take, drop, sym, arith}
use Rattle.dms_chain.specs.Leads.{at_is, lead}
use Rattle.dms_chain.specs.Linked.{front, numbers, times}
use Rattle.dms_chain.specs.LinkedLaws.{times_own}
use Rattle.dms_chain.specs.SpellLaws.{AllWide}

-- entries of one width

pub wide_first : (w : ℕ) (xs ys : List (List ℕ)) → AllWide w (xs ++ ys) → AllWide w xs
wide_first w [] ys a = tt
wide_first w (x ∷ xs) ys a = (a.0, wide_first w xs ys a.1)

pub wide_second : (w : ℕ) (xs ys : List (List ℕ)) → AllWide w (xs ++ ys) → AllWide w ys
wide_second w [] ys a = a
wide_second w (x ∷ xs) ys a = wide_second w xs ys a.1

pub wide_both : (w : ℕ) (xs ys : List (List ℕ)) → AllWide w xs → AllWide w ys → AllWide w (xs ++ ys)
wide_both w [] ys a b = b
wide_both w (x ∷ xs) ys a b = (a.0, wide_both w xs ys a.1 b)

pub wide_take : (w k : ℕ) (xs : List (List ℕ)) → AllWide w xs → AllWide w (take k xs)
wide_take w zero xs a = tt
wide_take w (suc k) [] a = tt
wide_take w (suc k) (x ∷ xs) a = (a.0, wide_take w k xs a.1)

pub wide_drop : (w k : ℕ) (xs : List (List ℕ)) → AllWide w xs → AllWide w (drop k xs)
wide_drop w zero xs a = a
wide_drop w (suc k) [] a = tt
wide_drop w (suc k) (x ∷ xs) a = wide_drop w k xs a.1

-- the numbers of chains are below the count
pub front_low : {A : Type 0} (xs : List (ℕ × A)) (count : ℕ) → 0 < count → ((n : ℕ) → 0 < times n (numbers xs) → n < count) → front xs 0 < count
front_low [] count some low = some
front_low (x ∷ xs) count some low = low x.0 (omega (arith, times_own x.0))

-- whether an entry stands at the place where it belongs
pub at_same : (c : List ℕ) (es ds : List (List ℕ)) (i : ℕ) (t : Bool) → ds ≡ es → i ≡ lead c es → t ≡ at_is c (slice_get ds i) → at_is c (slice_get es (lead c es)) ≡ t
at_same c es ds i t same place is = sym (is ∙ (λ j. at_is c (slice_get (same j) (place j))))
