-- A walk along a chain of blocks that marks those that it meets.
use Rattle.std.specs.Prelude.{ℕ, ◌≡◌, ◌≤◌, ◌==◌, ◌&&◌, not, if◌then◌else◌, Bool, true, List, length, slice_index_or, Some, None}
use Rattle.std.specs.declared.option.Option.{Option}
use Rattle.dms_chain.specs.Leads.{last_of}
use Rattle.dms_chain.specs.Lists.{AreInByteOrder}
use Rattle.dms_chain.specs.Linked.{BlockChain, front, numbers, times}
use Rattle.dms_chain.specs.ListBlocks.{free_in, leaf_in, before_first}
use Rattle.dms_chain.specs.ListIn.{Leaf, Spare, entries_of}

-- the number of a block that wasn't met
abbrev pub is_fresh : List Bool → ℕ → Bool
is_fresh seen n = not (slice_index_or seen n true)

-- each of these numbers stands once, and is that of a block that wasn't met
abbrev pub AreFresh : List Bool → List ℕ → Type 0
AreFresh seen ns = (n : ℕ) → times n ns ≤ (if is_fresh seen n then 1 else 0)

-- entries may stand behind a last one
abbrev pub goes_on : Option (List ℕ) → List (List ℕ) → Bool
goes_on None xs = true
goes_on (Some x) xs = before_first x xs

-- From the block `first` on these were met, one after another, and `at` comes next.
pub record Walked {A : Type 0} (reads : List ℕ → Option (ℕ × A)) (look : ℕ → Option (List ℕ)) (first : ℕ) (old seen : List Bool) (done : List (ℕ × A)) (at : ℕ) : Type 0 where
  pub chain : BlockChain reads look done at
  pub begins : front done at ≡ first
  pub fresh : AreFresh old (numbers done)
  pub marks : (n : ℕ) → is_fresh seen n ≡ (is_fresh old n && (times n (numbers done) == 0))

-- ---- blocks of entries

-- so many blocks of entries were met, and the last entry is this one
pub record WalkedLeaves (width : ℕ) (look : ℕ → Option (List ℕ)) (first : ℕ) (old seen : List Bool) (met at : ℕ) (last : Option (List ℕ)) : Type 0 where
  pub done : List Leaf
  pub walked : Walked (leaf_in width) look first old seen done at
  pub size : length done ≡ met
  pub rises : AreInByteOrder (entries_of done)
  pub last_is : last_of (entries_of done) ≡ last

-- The chain of blocks of entries from `first` on has so many, all fresh ones, and its entries rise.
pub record HasLeaves (width : ℕ) (look : ℕ → Option (List ℕ)) (first : ℕ) (old seen : List Bool) (met : ℕ) : Type 0 where
  pub leaves : List Leaf
  pub walked : Walked (leaf_in width) look first old seen leaves 0
  pub size : length leaves ≡ met
  pub rises : AreInByteOrder (entries_of leaves)

-- there is no such chain
abbrev pub NoLeaves : ℕ → (ℕ → Option (List ℕ)) → ℕ → List Bool → Type 0
NoLeaves width look first old = (ls : List Leaf) → BlockChain (leaf_in width) look ls 0 → front ls 0 ≡ first → AreFresh old (numbers ls) → AreInByteOrder (entries_of ls) → length ls ≤ length old → ⊥

abbrev pub LeavesAnswer : ℕ → (ℕ → Option (List ℕ)) → ℕ → List Bool → List Bool → Option ℕ → Type 0
LeavesAnswer width look first old seen None = NoLeaves width look first old
LeavesAnswer width look first old seen (Some met) = HasLeaves width look first old seen met

-- ---- free blocks

pub record HasSpares (look : ℕ → Option (List ℕ)) (first : ℕ) (old seen : List Bool) (met at : ℕ) : Type 0 where
  pub done : List Spare
  pub walked : Walked free_in look first old seen done at
  pub size : length done ≡ met

abbrev pub NoSpares : (ℕ → Option (List ℕ)) → ℕ → List Bool → Type 0
NoSpares look first old = (fs : List Spare) → BlockChain free_in look fs 0 → front fs 0 ≡ first → AreFresh old (numbers fs) → length fs ≤ length old → ⊥

abbrev pub SparesAnswer : (ℕ → Option (List ℕ)) → ℕ → List Bool → List Bool → Option ℕ → Type 0
SparesAnswer look first old seen None = NoSpares look first old
SparesAnswer look first old seen (Some met) = HasSpares look first old seen met 0
