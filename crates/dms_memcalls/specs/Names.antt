-- Which file a name leads to, where files have numbers, and each a name of its own or none.
use Rattle.std.specs.Prelude.{ℕ, zero, suc, Bool, false, List, [], ◌∷◌, Option, Some, None, bytes_eq, if◌then◌else◌}
use Rattle.dms_site.specs.Files.{Files}

-- a file of the first name is found by the second one; an empty name is none
abbrev pub is_name : List ℕ → List ℕ → Bool
is_name [] m = false
is_name (b ∷ bs) m = bytes_eq (b ∷ bs) m

-- the file that was found, or else this one where it is the one that is looked for
abbrev pub or_next : Option ℕ → ℕ → Bool → Option ℕ
or_next (Some i) n here = Some i
or_next None n here = if here then Some n else None

-- the file of the lowest number below n that has this name
unfoldable pub leads : ℕ → Files → List ℕ → Option ℕ
leads zero names m = None
leads (suc n) names m = or_next (leads n names m) n (is_name (names n) m)
