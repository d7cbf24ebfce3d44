-- What the entries of a trail and its blocks have to do with each other, Ranges aside.
use Rattle.std.specs.Prelude.{ℕ, ◌<◌, ◌≤◌, ◌≡◌, Bool, true, false, List, ◌∷◌, ◌++◌, Option, Some, None}
use Rattle.dms_history.specs.Events.{BlockBytes, Stored, Counts, How, Event, change, quiet, control, begin}
use Rattle.dms_history.specs.Lists.{has, after_last}
use Rattle.dms_history.specs.Places.{is_control, point_numbers}
use Rattle.dms_history.specs.History.{Pending, history, next_number}
use Rattle.dms_history.specs.Images.{last_after}
use Rattle.dms_history.specs.Pick.{Dumps, reached_count}
use Rattle.dms_history.specs.Here.{here}

-- a new block is at its file's count, a changed one below it
abbrev pub FitsCount : Option BlockBytes → ℕ → ℕ → Type 0
FitsCount None b count = b ≡ count
FitsCount (Some old) b count = b < count

abbrev pub ends_restore : Event → Bool
ends_restore (change f b before after) = false
ends_restore (quiet n) = false
ends_restore (control n next counts described) = true
ends_restore (begin n how) = true

-- Nothing stands after a Begin up to the next Begin or Control.
abbrev pub BeginsAloneEvents : List Event → Type 0
BeginsAloneEvents entries = (xs ys : List Event) (m : ℕ) (how : How) (e : Event) → entries ≡ xs ++ begin m how ∷ (e ∷ ys) → ends_restore e ≡ true

-- first: the trail begins with audit file 1. live: the live entries. next: the next number. counted: what counts as each block.
pub record ListAgrees (first : Bool) (live : List Event) (next : ℕ) (counted : Stored) : Type 0 where
  -- The numbers of the live Quiets and Controls, in their order, never fall.
  pub never_fall : (xs ys zs : List ℕ) (n m : ℕ) → point_numbers live ≡ xs ++ n ∷ (ys ++ m ∷ zs) → n ≤ m
  -- Each of them is below the next number.
  pub below_next : (xs ys : List ℕ) (n : ℕ) → point_numbers live ≡ xs ++ n ∷ ys → n < next
  -- A live change before the first live Control is of a block below that Control's count.
  pub counted_first : (xs ys zs : List Event) (f b : ℕ) (before : Option BlockBytes) (after : BlockBytes) (n later : ℕ) (counts : Counts) (described : Bool)
      → live ≡ xs ++ change f b before after ∷ (ys ++ control n later counts described ∷ zs) → has is_control (xs ++ ys) ≡ false → b < counts f
  -- The before-image of each live change is the after-image of the live change of that block before it, where there is one.
  pub linked : (xs ys : List Event) (f b : ℕ) (before : Option BlockBytes) (after old : BlockBytes)
      → live ≡ xs ++ change f b before after ∷ ys → last_after f b xs ≡ Some old → before ≡ Some old
  -- What counts is the last live after-image of each block that has none after the last live Control.
  pub stands : (f b : ℕ) (x : BlockBytes) → last_after f b live ≡ Some x → last_after f b (after_last is_control live) ≡ None → counted f b ≡ x
  -- Where the trail begins with audit file 1, the first live Control's counts are all 0.
  pub empty : (xs ys : List Event) (n later : ℕ) (counts : Counts) (described : Bool) → first ≡ true → live ≡ xs ++ control n later counts described ∷ ys
      → has is_control xs ≡ false → (f : ℕ) → counts f ≡ 0
  -- After the first live Control a change is of a new block exactly where the block is at its file's count, and else of a block below it.
  pub grows : (xs ys : List Event) (f b : ℕ) (before : Option BlockBytes) (after : BlockBytes)
      → live ≡ xs ++ change f b before after ∷ ys → has is_control xs ≡ true → FitsCount before b (reached_count f 0 xs)
  -- Each later live Control's counts are the counts reached by then.
  pub recounts : (xs ys : List Event) (n later : ℕ) (counts : Counts) (described : Bool)
      → live ≡ xs ++ control n later counts described ∷ ys → has is_control xs ≡ true → (f : ℕ) → counts f ≡ reached_count f 0 xs

-- The events of a trail agree with its dumps and stored blocks; what may stand after a Begin is said of the entries.
pub record EventsAgree (first : Bool) (entries : List Event) (dumps : Dumps) (stored : Stored) : Type 0 where
  pub lists : ListAgrees first (history entries).live (next_number entries) (here dumps (history entries) stored)
  -- While a restore is pending, what counts is the last live after-image of each block that has one.
  pub restored : (p : Pending) (f b : ℕ) (x : BlockBytes) → (history entries).pending ≡ Some p → last_after f b (history entries).live ≡ Some x
      → here dumps (history entries) stored f b ≡ x

-- the part of it that is about numbers
pub record Numbered (live : List Event) (next : ℕ) : Type 0 where
  pub never_fall : (xs ys zs : List ℕ) (n m : ℕ) → point_numbers live ≡ xs ++ n ∷ (ys ++ m ∷ zs) → n ≤ m
  pub below_next : (xs ys : List ℕ) (n : ℕ) → point_numbers live ≡ xs ++ n ∷ ys → n < next
