-- What a folder keeps between its calls.
use Rattle.std.specs.Prelude.{ℕ, ◌≡◌, ◌<◌, ◌^◌, Bool, true, false, IsTrue, List, [], ◌∷◌, ◌++◌, Some, slice_get}
use Rattle.std.specs.declared.option.Option.{Option}
use Rattle.std.specs.Bool.{MatchBool}
use Rattle.dms_moments.specs.Moments.{Clock}
use Rattle.dms_calls.specs.World.{World, StableFile, StableNames, AllGiven}
use Rattle.dms_folder.specs.declared.opened.OpenedFile.{OpenedFile}
use Rattle.dms_calls.specs.Names.{name_of}

-- no open file of this number was written or cut since its sync
abbrev pub Untouched : {H : Type 0} → List (OpenedFile H) → ℕ → Type 0
Untouched {H} opened n = (k : ℕ) (o : OpenedFile H) → slice_get opened k ≡ Some o → o.number ≡ n → o.touched ≡ false

-- the file of this number is stable
abbrev pub StableAt : World → Clock World → ℕ → Type 0
StableAt world clock n = (i : ℕ) → world.names (name_of n) ≡ Some i → StableFile i (world.bytes i) clock

-- Each open file is the one that its name leads to. The names are stable but where a file was made since the last sync.
-- After the first sync the bytes are stable of each file that isn't open and touched.
pub record KeepsFolder {H : Type 0} (file : H → ℕ) (opened : List (OpenedFile H)) (made synced : Bool) (world : World) (clock : Clock World) : Type 0 where
  pub named : (k : ℕ) (o : OpenedFile H) → slice_get opened k ≡ Some o → world.names (name_of o.number) ≡ Some (file o.file)
  pub names : made ≡ false → StableNames world.names clock
  pub bytes : IsTrue synced → (n : ℕ) → n < 2 ^ 32 → Untouched opened n → StableAt world clock n

-- the open file at that place has this number
abbrev pub IsAt : {H : Type 0} → List (OpenedFile H) → ℕ → ℕ → Type 0
IsAt {H} opened k n = (o : OpenedFile H) × (slice_get opened k ≡ Some o) × (o.number ≡ n)

-- it is written or cut
abbrev pub touch_file : {H : Type 0} → OpenedFile H → OpenedFile H
touch_file o = record { number = o.number; file = o.file; touched = true }

-- A listing gave one more name, and where it is a database file's, that file is stable.
pub record StableNext (old new : List (List ℕ)) (world : World) (clock : Clock World) : Type 0 where
  pub name : List ℕ
  pub given : new ≡ old ++ name ∷ []
  pub stable : (n : ℕ) → n < 2 ^ 32 → name ≡ name_of n → StableAt world clock n

-- A listing went on by one such name, or it was at its end and had given each name, where the calls tell.
abbrev pub GoesOn : Bool → Bool → (List ℕ → Option ℕ) → List (List ℕ) → List (List ℕ) → World → World → Clock World → Type 0
GoesOn more tells listed old new began world clock = MatchBool more (IsTrue tells → StableNext old new world clock) (IsTrue tells → AllGiven listed began.names old)
