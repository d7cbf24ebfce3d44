-- What is seen of a folder: its files by number, each with a name or none, and the text that was printed.
use Rattle.std.specs.Prelude.{ℕ, ◌+◌, ◌<◌, ◌≡◌, List, []}
use Rattle.dms_site.specs.Files.{Files, with_file}
use Rattle.dms_calls.specs.World.{World}
use Rattle.dms_memcalls.specs.Names.{leads}

pub record FolderSeen : Type 0 where
  pub count : ℕ
  pub names : Files
  pub bytes : Files
  pub said : List ℕ

-- no files and no text
abbrev pub nothing : FolderSeen
nothing = record { count = 0; names = λ i. []; bytes = λ i. []; said = [] }

-- one more file, of this name, with these bytes
abbrev pub with_made : FolderSeen → List ℕ → List ℕ → FolderSeen
with_made s name bytes = record { count = s.count + 1; names = with_file s.names s.count name; bytes = with_file s.bytes s.count bytes; said = s.said }

-- one file has other bytes
abbrev pub with_bytes : FolderSeen → ℕ → List ℕ → FolderSeen
with_bytes s f bytes = record { count = s.count; names = s.names; bytes = with_file s.bytes f bytes; said = s.said }

abbrev pub with_said : FolderSeen → List ℕ → FolderSeen
with_said s said = record { count = s.count; names = s.names; bytes = s.bytes; said = said }

-- as calls see it
abbrev pub world_of : FolderSeen → World
world_of s = record { names = λ m. leads s.count s.names m; bytes = s.bytes; said = s.said }

-- the same folder; numbers that no file has may have other names
pub record AlikeFolders (a b : FolderSeen) : Type 0 where
  pub count : a.count ≡ b.count
  pub names : (k : ℕ) → k < b.count → a.names k ≡ b.names k
  pub bytes : a.bytes ≡ b.bytes
  pub said : a.said ≡ b.said
