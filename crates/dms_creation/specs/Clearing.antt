-- Files that are cut to nothing.
use Rattle.std.specs.Prelude.{ℕ, ◌<◌, ◌≤◌, ◌≡◌, ◌≢◌, ◌⊎◌, []}
use Rattle.dms_site.specs.Files.{Files, Left}

-- the number of no audit file, dump or structure file
abbrev pub IsApart : ℕ → Type 0
IsApart g = (g < 10001) ⊎ (g ≡ 30000) ⊎ (30200 < g)

-- the files that are no audit file, dump or structure file stay, and so the description file does
abbrev pub ApartStay : Files → Files → Type 0
ApartStay old new = (g : ℕ) → IsApart g → new g ≡ old g

-- they stay, the description file left out
abbrev pub AllButDescriptionStay : Files → Files → Type 0
AllButDescriptionStay old new = (g : ℕ) → IsApart g → g ≢ 1 → new g ≡ old g

-- the files that are no audit file, dump or structure file stay, and so does the text
pub record KeepsApart (old new : Left) : Type 0 where
  pub apart : ApartStay old.files new.files
  pub said : new.said ≡ old.said

-- the files outside of a range and the text stay
pub record KeepsOutside (low high : ℕ) (old new : Left) : Type 0 where
  pub others : (g : ℕ) → (g < low) ⊎ (high < g) → new.files g ≡ old.files g
  pub said : new.said ≡ old.said

-- none of the files of a range is present
abbrev pub Cleared : ℕ → ℕ → Files → Type 0
Cleared low high files = (g : ℕ) → low ≤ g → g ≤ high → files g ≡ []

-- no audit file, no dump and no structure file is present
pub record IsClear (files : Files) : Type 0 where
  pub audit : Cleared 10001 20000 files
  pub dumps : Cleared 20001 29999 files
  pub structures : Cleared 30001 30200 files
