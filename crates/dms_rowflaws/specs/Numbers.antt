-- The first of some numbers at which something is found.
use Rattle.std.specs.Prelude.{ℕ, zero, suc, ◌+◌, None}
use Rattle.std.specs.declared.option.Option.{Option}
use Rattle.dms_desc.specs.Sorted.{or_else}

-- what is found first among so many numbers from n on
abbrev pub first_from : {A : Type 0} → (ℕ → Option A) → ℕ → ℕ → Option A
first_from find zero n = None
first_from find (suc k) n = or_else (find n) (first_from find k (n + 1))

-- structures have the numbers 1 to 200
abbrev pub first_of_structures : {A : Type 0} → (ℕ → Option A) → Option A
first_of_structures find = first_from find 200 1
