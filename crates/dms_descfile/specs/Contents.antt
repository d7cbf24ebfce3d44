-- What the bytes of a description file are found to be, before the description in them is read.
use Rattle.std.specs.Prelude.{◌≡◌, ◌≤◌, ◌<◌, ◌⊎◌, ℕ, List, length, Some, None}
use Rattle.std.specs.declared.option.Option.{Option}
use Rattle.dms_descfile.specs.DescriptionFile.{description_file}

-- the bytes of the file behind its gates, where the gate is open and the length is theirs
pub record HasContent (file bytes : List ℕ) : Type 0 where
  pub database : ℕ
  pub is : file ≡ description_file 1 database bytes

-- the file's content behind an open gate, or none where no content of at most 65,535 bytes stands so
abbrev pub Contents : List ℕ → Option (List ℕ) → Type 0
Contents file None = (bytes : List ℕ) → length bytes ≤ 65535 → HasContent file bytes → ⊥
Contents file (Some bytes) = HasContent file bytes

-- the file, or none where its length is that of no description file
abbrev pub ReadsFile : List ℕ → Option (List ℕ) → Type 0
ReadsFile file None = (length file < 6) ⊎ (65541 < length file)
ReadsFile file (Some bytes) = bytes ≡ file
