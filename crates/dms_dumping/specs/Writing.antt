-- A dump that is written, and what is said of it.
use Rattle.std.specs.Prelude.{ℕ, ◌+◌, ◌≡◌, ◌≢◌, ◌⊎◌, List, [], ◌∷◌, ◌++◌, codes, decimal, None}
use Rattle.dms_site.specs.Files.{Left}
use Rattle.dms_history.specs.declared.event.FileCount.{FileCount}
use Rattle.dms_dump.specs.Head.{IsHead}
use Rattle.dms_dump.specs.Stops.{IsShut}

-- of the files only this one changed: it is as it was, or shut, and nothing was printed; or it is exactly the one that is made
pub record WritesDump (f : ℕ) (made : List ℕ) (old new : Left) : Type 0 where
  pub here : (((new.files f ≡ old.files f) ⊎ IsShut (new.files f)) × (new.said ≡ old.said)) ⊎ (new.files f ≡ made)
  pub others : (g : ℕ) → g ≢ f → new.files g ≡ old.files g

-- the head of a dump can be spelled
abbrev pub IsHeadOf : ℕ → ℕ → ℕ → List FileCount → Type 0
IsHeadOf tag point audit counts = IsHead (record { tag = tag; point = point; audit = audit; counts = counts; end = None })

-- a line of these words and the number of a point
unfoldable pub point_line : List ℕ → ℕ → List ℕ
point_line words n = words ++ (decimal n ++ 10 ∷ [])

-- what is said of dump d at point n
abbrev pub dumped_text : ℕ → ℕ → List ℕ
dumped_text d n = point_line (codes "DUMPED " ++ (decimal d ++ codes " AT POINT ")) n
