-- What a stop may leave, by a clock that counts moments.
-- An outcome, of type X, is all that one stop leaves. For files it is the files and the text that was printed.
use Rattle.std.specs.Prelude.{ℕ, ◌≤◌, ◌≡◌, ◌⊎◌}

-- the number of this moment, and what a stop at some moment since a given one may leave
pub record Clock (X : Type 0) : Type 1 where
  pub now : ℕ
  pub left : ℕ → X → Type 0

-- a stop at this moment may leave x
abbrev pub Now : {X : Type 0} → Clock X → X → Type 0
Now clock x = clock.left clock.now x

-- Time went on from old to new, and a stop on the way left what it could leave before, or what has P.
-- What could be left at an earlier moment is still remembered.
pub record Runs {X : Type 0} (old new : Clock X) (P : X → Type 0) : Type 0 where
  pub later : old.now ≤ new.now
  pub only : (t : ℕ) (x : X) → t ≤ old.now → new.left t x → old.left t x ⊎ P x
  pub keeps : (t : ℕ) (x : X) → t ≤ old.now → old.left t x → new.left t x

-- x comes by a step from an outcome y that a stop at the clock's moment may leave
abbrev pub After : {X : Type 0} → Clock X → (X → X → Type 0) → X → Type 0
After {X} clock step x = (y : X) × Now clock y × step y x

-- A call that does a step, or a part of it.
-- What a stop within it, or right after it, may leave comes by that step from what a stop right before it may leave.
pub record Steps {X : Type 0} (step : X → X → Type 0) (old new : Clock X) : Type 0 where
  pub follows : (x : X) → Now new x → After old step x
  pub runs : Runs old new (After old step)

-- The clock of a layer above: a stop leaves y where it leaves an outcome x below that is seen as y.
abbrev pub seen_by : {X Y : Type 0} → (X → Y → Type 0) → Clock X → Clock Y
seen_by {X} sees clock = record { now = clock.now; left = λ t y. (x : X) × clock.left t x × sees x y }

-- the same where each outcome is seen as one value
abbrev pub seen_as : {X Y : Type 0} → (X → Y) → Clock X → Clock Y
seen_as f clock = seen_by (λ x y. y ≡ f x) clock
