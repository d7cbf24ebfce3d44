-- Laws: the numbers of points.
use Rattle.std.specs.Prelude.{ℕ, ◌+◌, ◌-◌, ◌^◌, ◌<◌, ◌≤◌, ◌≡◌, Bool, true, false, List, [], ◌∷◌, ◌++◌, min, Option, Some}
use Rattle.dms_history.specs.Base.{Sound, from_control}
use Rattle.dms_history.specs.Events.{BlockBytes, AllBlocks, Stored, Counts, How, Event, change, quiet, control, begin}
use Rattle.dms_history.specs.Lists.{has, until_first}
use Rattle.dms_history.specs.Places.{is_control, is_point, IsLive}
use Rattle.dms_history.specs.History.{History, after_event, last_point, next_number}
use Rattle.dms_history.specs.Pick.{Dump}
use Rattle.dms_history.specs.Agrees.{Numbered}
use Rattle.dms_history.specs.Restores.{IsTrueDump, DumpServes}

-- Behind a Begin no point above the chosen one has a place, also when its Control ends it, and each live point up to the chosen one is live.
pub record RolledBack (live : List Event) (m : ℕ) : Type 0 where
  pub none_above : (n : ℕ) → m < n → has (is_point n) (until_first (is_point m) live) ≡ false
  pub none_later : (n next : ℕ) (counts : Counts) (described : Bool) → m < n → has (is_point n) (until_first (is_point m) live ++ control m next counts described ∷ []) ≡ false
  pub kept : (n : ℕ) → n ≤ m → IsLive live n → IsLive (until_first (is_point m) live) n

abbrev pub RollsBack : Type 0
RollsBack = (live : List Event) (next m : ℕ) → Numbered live next → IsLive live m → RolledBack live m

-- The last point is that of a Begin, whether its point has a place or not, then that of its Control, and that of a new Quiet.
pub record LastPoints (h : History) (m : ℕ) : Type 0 where
  pub begin : (how : How) → last_point (after_event h (begin m how)) ≡ Some m
  pub control : (next : ℕ) (counts : Counts) (described : Bool) → last_point (after_event h (control m next counts described)) ≡ Some m
  pub quiet : last_point (after_event h (quiet m)) ≡ Some m

abbrev pub EachLast : Type 0
EachLast = (h : History) (m : ℕ) → LastPoints h m

-- a Control carries at least the next number
abbrev pub Carries : Event → ℕ → Type 0
Carries (change f b before after) k = Unit {0}
Carries (quiet n) k = Unit {0}
Carries (control n next counts described) k = k ≤ next
Carries (begin n how) k = Unit {0}

-- The next number never falls.
abbrev pub NextStays : Type 0
NextStays = (entries : List Event) (e : Event) → Carries e (next_number entries) → next_number entries ≤ next_number (entries ++ e ∷ [])

-- Each Quiet got the next number or a greater one, and each Control carried at least the next number.
pub record IsNumberedInTurn (entries : List Event) : Type 0 where
  pub quiets : (xs ys : List Event) (n : ℕ) → entries ≡ xs ++ quiet n ∷ ys → (next_number xs ≤ n) × (n < 2 ^ 64 - 1)
  pub controls : (xs ys : List Event) (e : Event) → entries ≡ xs ++ e ∷ ys → Carries e (next_number xs)

-- No number is used twice, whatever was voided between.
abbrev pub UsedOnce : Type 0
UsedOnce = (entries : List Event) → IsNumberedInTurn entries → (xs ys zs : List Event) (n m : ℕ) → entries ≡ xs ++ quiet n ∷ (ys ++ quiet m ∷ zs) → n < m

-- ---- what is sealed next keeps the numbers in order

abbrev pub NumbersChange : Type 0
NumbersChange = (entries live : List Event) (f b : ℕ) (before : Option BlockBytes) (after : BlockBytes) → Numbered live (next_number entries)
    → Numbered (live ++ change f b before after ∷ []) (next_number (entries ++ change f b before after ∷ []))

abbrev pub NumbersQuiet : Type 0
NumbersQuiet = (entries live : List Event) (n : ℕ) → Numbered live (next_number entries) → next_number entries ≤ n → n < 2 ^ 64 - 1
    → Numbered (live ++ quiet n ∷ []) (next_number (entries ++ quiet n ∷ []))

abbrev pub NumbersBegin : Type 0
NumbersBegin = (entries live : List Event) (m : ℕ) (how : How) → Numbered live (next_number entries) → has (is_point m) live ≡ true
    → Numbered (until_first (is_point m) live) (next_number (entries ++ begin m how ∷ []))

-- a Control of the last point, which has its place
abbrev pub NumbersControl : Type 0
NumbersControl = (entries : List Event) (h : History) (m next : ℕ) (counts : Counts) (described : Bool) → Numbered h.live (next_number entries)
    → last_point h ≡ Some m → has (is_point m) h.live ≡ true → next_number entries ≤ next
    → Numbered (h.live ++ control m next counts described ∷ []) (next_number (entries ++ control m next counts described ∷ []))

-- a Control that makes a point: its number is free, and its next number is above it
abbrev pub NumbersLevel : Type 0
NumbersLevel = (entries live : List Event) (n next : ℕ) (counts : Counts) (described : Bool) → Numbered live (next_number entries) → next_number entries ≤ n → n < next → n < 2 ^ 64 - 1
    → Numbered (live ++ control n next counts described ∷ []) (next_number (entries ++ control n next counts described ∷ []))

-- the first Control of all
abbrev pub NumbersFirst : Type 0
NumbersFirst = (counts : Counts) (described : Bool) → Numbered (control 0 1 counts described ∷ []) (next_number (control 0 1 counts described ∷ []))

-- The last point is live, and this point isn't above it.
pub record LastPoint (h : History) (n : ℕ) : Type 0 where
  pub last : ℕ
  pub is : last_point h ≡ Some last
  pub not_above : n ≤ last
  pub lives : IsLive h.live last

-- The last point is live where any point is, and no live point is above it; where there is a Control there is a last point.
pub record LastsOver (h : History) : Type 0 where
  pub points : (n : ℕ) → IsLive h.live n → LastPoint h n
  pub some : has is_control h.live ≡ true → (m : ℕ) × (last_point h ≡ Some m)

abbrev pub LastLives : Type 0
LastLives = (h : History) (next : ℕ) → Numbered h.live next → LastsOver h

-- The next number after one more entry, exactly.
pub record NextSteps (entries : List Event) : Type 0 where
  pub change : (f b : ℕ) (before : Option BlockBytes) (after : BlockBytes) → next_number (entries ++ change f b before after ∷ []) ≡ next_number entries
  pub quiet : (n : ℕ) → next_number entries ≤ n → n < 2 ^ 64 - 1 → next_number (entries ++ quiet n ∷ []) ≡ n + 1
  pub control : (n next : ℕ) (counts : Counts) (described : Bool) → next_number (entries ++ control n next counts described ∷ []) ≡ min (2 ^ 64 - 1) next
  pub begin : (m : ℕ) (how : How) → next_number (entries ++ begin m how ∷ []) ≡ next_number entries

abbrev pub EachNext : Type 0
EachNext = (entries : List Event) → NextSteps entries

-- A true dump whose point isn't above the chosen one serves.
abbrev pub TrueDumpServes : Type 0
TrueDumpServes = (live : List Event) (base : AllBlocks) (next m : ℕ) (dump : Dump) (here : Stored) → Sound (from_control live) base here → Numbered live next → IsLive live m
    → IsTrueDump dump live here → dump.point ≤ m → DumpServes dump live here m
