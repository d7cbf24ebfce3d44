-- What a command says once: its line.
use Rattle.std.specs.Prelude.{◌≡◌, ℕ, List, ◌++◌, take, ⊤}
use Rattle.dms_status.specs.declared.status.Status.{Status}
use Rattle.dms_status.specs.declared.status.Status.TheVariants.{Ok, BadWords, SchemaRefused, NoDatabase, Needed, InputFault, Memory, Limit, Damaged, SayFault, DiskFault, Exists, BadStatement, Reorganization, BadStream, Diverged, Flaw}

-- one line is printed: whole at Ok, a prefix of it where printing failed, and else nothing
abbrev pub SaysLine : Status → List ℕ → List ℕ → List ℕ → Type 0
SaysLine Ok line old new = new ≡ old ++ line
SaysLine BadWords line old new = new ≡ old
SaysLine (SchemaRefused f) line old new = new ≡ old
SaysLine NoDatabase line old new = new ≡ old
SaysLine (Needed n) line old new = new ≡ old
SaysLine (Damaged f b) line old new = new ≡ old
SaysLine InputFault line old new = new ≡ old
SaysLine Memory line old new = new ≡ old
SaysLine (Limit l) line old new = new ≡ old
SaysLine SayFault line old new = (k : ℕ) × (new ≡ old ++ take k line)
SaysLine DiskFault line old new = new ≡ old
SaysLine Exists line old new = new ≡ old
SaysLine (BadStatement p) line old new = new ≡ old
SaysLine (Reorganization why) line old new = new ≡ old
SaysLine (BadStream place) line old new = new ≡ old
SaysLine (Diverged file block) line old new = new ≡ old
SaysLine (Flaw flaw) line old new = new ≡ old

-- the statuses with which that line was said, or may have been
abbrev pub IsSpoken : Status → Type 0
IsSpoken Ok = ⊤
IsSpoken BadWords = ⊥
IsSpoken (SchemaRefused f) = ⊥
IsSpoken NoDatabase = ⊥
IsSpoken (Needed n) = ⊥
IsSpoken (Damaged f b) = ⊥
IsSpoken InputFault = ⊥
IsSpoken Memory = ⊥
IsSpoken (Limit l) = ⊥
IsSpoken SayFault = ⊤
IsSpoken DiskFault = ⊥
IsSpoken Exists = ⊥
IsSpoken (BadStatement p) = ⊥
IsSpoken (Reorganization why) = ⊥
IsSpoken (BadStream place) = ⊥
IsSpoken (Diverged file block) = ⊥
IsSpoken (Flaw flaw) = ⊥
