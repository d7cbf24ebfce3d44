-- What sealing entries makes of files.
use Rattle.std.specs.Prelude.{ℕ, ◌<◌, ◌≡◌, List, ◌++◌, take, drop}
use Rattle.dms_moments.specs.Moments.{Clock, Now}
use Rattle.dms_site.specs.Files.{Files, Left}
use Rattle.dms_history.specs.Entries.{Entry}
use Rattle.dms_running.specs.Telling.{Telling}

-- What a stop within sealing leaves: the first so many of these entries behind the old ones, and scanning finds them. Dumps and structure
-- files stand as they did, a dump that was found is found, and nothing is printed.
pub record SealsSome (t : Telling) (entries : List Entry) (old new : Left) : Type 0 where
  pub some : ℕ
  pub sealed : t.entries new.files ≡ t.entries old.files ++ take some entries
  pub found : t.found old.files → t.found new.files
  pub dumps_found : (d : ℕ) → t.dump_found old.files d → t.dump_found new.files d
  pub above : (g : ℕ) → 20000 < g → new.files g ≡ old.files g
  pub said : new.said ≡ old.said

-- Of these entries the first so many were sealed, and the others wait. Dumps and structure files stand as they did.
pub record Appended (t : Telling) (entries : List Entry) (old new : Files) (waiting : List Entry) : Type 0 where
  pub some : ℕ
  pub sealed : t.entries new ≡ t.entries old ++ take some entries
  pub rest : waiting ≡ drop some entries
  pub above : (g : ℕ) → 20000 < g → new g ≡ old g

-- All of these entries were sealed. Dumps and structure files stand as they did.
pub record AreSealed (t : Telling) (entries : List Entry) (old new : Files) : Type 0 where
  pub sealed : t.entries new ≡ t.entries old ++ entries
  pub above : (g : ℕ) → 20000 < g → new g ≡ old g

-- a stop now leaves the entries that are read
abbrev pub Settled : Telling → Files → Clock Left → Type 0
Settled t files clock = (x : Left) → Now clock x → t.entries x.files ≡ t.entries files
