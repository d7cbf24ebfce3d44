-- What a stop leaves of the description file while one is written.
use Rattle.std.specs.Prelude.{◌≡◌, ◌≢◌, ◌⊎◌, ℕ, List}
use Rattle.dms_site.specs.Files.{Files, Left}
use Rattle.dms_moments.specs.Moments.{Clock, Now, Runs}
use Rattle.dms_descfile.specs.DescriptionFile.{IsUnsealed}

-- the file became no sealed description
abbrev pub Shuts : List ℕ → List ℕ → Type 0
Shuts old new = IsUnsealed new

-- the file is as it was, or no sealed description, or exactly the one that is made
abbrev pub Becoming : List ℕ → List ℕ → List ℕ → Type 0
Becoming made old new = (new ≡ old) ⊎ (IsUnsealed new ⊎ (new ≡ made))

-- the description file is no sealed description, or exactly the one that is made; the others are as in these files
pub record IsCreated (made : List ℕ) (files : Files) (x : Left) : Type 0 where
  pub here : IsUnsealed (x.files 1) ⊎ (x.files 1 ≡ made)
  pub others : (g : ℕ) → g ≢ 1 → x.files g ≡ files g

-- Time went on from old to new, and each outcome that a stop on the way left is one that a stop could leave at the old
-- moment, or there the description file is no sealed description, or exactly the one that is made, and the other files are
-- these: nothing is pending of them.
abbrev pub Creates : List ℕ → Files → Clock Left → Clock Left → Type 0
Creates made files old new = Runs old new (λ x. Now old x ⊎ IsCreated made files x)
