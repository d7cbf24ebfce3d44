-- A folder of the system: names, the files behind them, and what the calls do to them.
use Rattle.std.specs.Prelude.{ℕ, ◌≡◌, ◌≢◌, ◌⊎◌, Bool, IsTrue, List, [], ◌++◌, take, None, Some, slice_get}
use Rattle.std.specs.declared.option.Option.{Option}
use Rattle.dms_moments.specs.Moments.{Clock, Now, Steps}

-- the file that each name of the folder leads to, the bytes of each file, and the text that was printed
pub record World : Type 0 where
  pub names : List ℕ → Option ℕ
  pub bytes : ℕ → List ℕ
  pub said : List ℕ

-- nothing changed
abbrev pub Unchanged : World → World → Type 0
Unchanged old new = new ≡ old

-- one file has other bytes; no name and no other file changed
pub record OnFile (i : ℕ) (step : List ℕ → List ℕ → Type 0) (old new : World) : Type 0 where
  pub here : step (old.bytes i) (new.bytes i)
  pub others : (j : ℕ) → j ≢ i → new.bytes j ≡ old.bytes j
  pub names : (m : List ℕ) → new.names m ≡ old.names m
  pub said : new.said ≡ old.said

-- An empty file was made that no name led to, and this name, which led to none, may lead to it.
pub record MakesFile (name : List ℕ) (i : ℕ) (old new : World) : Type 0 where
  pub empty : new.bytes i ≡ []
  pub others : (j : ℕ) → j ≢ i → new.bytes j ≡ old.bytes j
  pub free : (m : List ℕ) → old.names m ≢ Some i
  pub here : (new.names name ≡ old.names name) ⊎ ((old.names name ≡ None) × (new.names name ≡ Some i))
  pub names : (m : List ℕ) → m ≢ name → new.names m ≡ old.names m
  pub said : new.said ≡ old.said

-- Some file was made for the name, where the calls tell their files it is now, and of it so much holds.
abbrev pub MakesSome : Bool → List ℕ → World → World → Clock World → Clock World → (ℕ → Type 0) → Type 0
MakesSome tells name old new began clock P = (i : ℕ) × Steps (MakesFile name i) began clock × (IsTrue tells → MakesFile name i old new) × P i

-- some of these bytes were printed, from the first on
pub record Speaks (text : List ℕ) (old new : World) : Type 0 where
  pub names : new.names ≡ old.names
  pub bytes : new.bytes ≡ old.bytes
  pub some : ℕ
  pub said : new.said ≡ old.said ++ take some text

-- a stop now leaves that file with these bytes
abbrev pub StableFile : ℕ → List ℕ → Clock World → Type 0
StableFile i bytes clock = (w : World) → Now clock w → w.bytes i ≡ bytes

-- a stop now leaves these names
abbrev pub StableNames : (List ℕ → Option ℕ) → Clock World → Type 0
StableNames names clock = (w : World) → Now clock w → (m : List ℕ) → w.names m ≡ names m

-- a listing gave this name
abbrev pub IsGiven : List (List ℕ) → List ℕ → Type 0
IsGiven given name = (k : ℕ) × (slice_get given k ≡ Some name)

-- A listing that is at its end gave each name that led to a file when it began and leads to that file still.
-- Of a name that was made or taken away meanwhile nothing is told.
abbrev pub AllGiven : (List ℕ → Option ℕ) → (List ℕ → Option ℕ) → List (List ℕ) → Type 0
AllGiven before now given = (m : List ℕ) (i : ℕ) → before m ≡ Some i → now m ≡ Some i → IsGiven given m
