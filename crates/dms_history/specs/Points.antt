-- The live points, in the order of their places.
use Rattle.std.specs.Prelude.{ℕ, ◌<◌, ◌≡◌, ◌==◌, ◌&&◌, not, nat_le, if◌then◌else◌, true, List, [], ◌∷◌, ◌++◌, map}
use Rattle.dms_history.specs.Events.{AllBlocks, Stored, Event, change, quiet, control, begin}
use Rattle.dms_history.specs.Lists.{has}
use Rattle.dms_history.specs.Places.{is_point, is_described, IsLive}
use Rattle.dms_history.specs.Pick.{blocks_at}

-- A point is live, and these are its blocks.
pub record HasPoint (live : List Event) (counted : Stored) (n : ℕ) (blocks : AllBlocks) : Type 0 where
  pub lives : IsLive live n
  pub same : blocks_at live counted n ≡ blocks

-- a number and the content there
pub record LivePoint : Type 0 where
  pub number : ℕ
  pub blocks : AllBlocks

abbrev pub numbers_of : List LivePoint → List ℕ
numbers_of points = map (λ (p : LivePoint). p.number) points

-- the number, where the event behind these ones is its place and it is live there
abbrev pub live_number : ℕ → List Event → Event → List ℕ
live_number n front e = if not (has (is_point n) front) && has is_described (front ++ e ∷ []) then n ∷ [] else []

abbrev pub new_place : List Event → Event → List ℕ
new_place front (change f b before after) = []
new_place front (quiet n) = live_number n front (quiet n)
new_place front (control n next counts described) = live_number n front (control n next counts described)
new_place front (begin n how) = []

-- the numbers that get a live place in the second list, behind the first
abbrev pub numbers_from : List Event → List Event → List ℕ
numbers_from front [] = []
numbers_from front (e ∷ es) = new_place front e ++ numbers_from (front ++ e ∷ []) es

-- the numbers of the live points, in the order of their places
unfoldable pub live_numbers : List Event → List ℕ
live_numbers live = numbers_from [] live

abbrev pub point_at : List Event → Stored → ℕ → LivePoint
point_at live counted n = record { number = n; blocks = blocks_at live counted n }

-- the live points with their contents, in the order of their places, which is that of their numbers where these never fall: live are
-- the live entries, and counted is what counts as each block
unfoldable pub live_points : List Event → Stored → List LivePoint
live_points live counted = map (point_at live counted) (live_numbers live)

-- the first points, up to a number
abbrev pub up_to : ℕ → List LivePoint → List LivePoint
up_to m [] = []
up_to m (p ∷ ps) = if nat_le p.number m then p ∷ up_to m ps else []

-- ---- a list of the live points, said by what it has

-- each of these numbers is above n
abbrev pub AllAbove : ℕ → List ℕ → Type 0
AllAbove n [] = Unit {0}
AllAbove n (m ∷ ms) = (n < m) × AllAbove n ms

-- each number is above the one before it
abbrev pub Rises : List ℕ → Type 0
Rises [] = Unit {0}
Rises (n ∷ ns) = AllAbove n ns × Rises ns

-- each of them is live, with its blocks
abbrev pub AllLive : List Event → Stored → List LivePoint → Type 0
AllLive live counted [] = Unit {0}
AllLive live counted (p ∷ ps) = HasPoint live counted p.number p.blocks × AllLive live counted ps

-- The list of the live points: its numbers rise, each one in it is live and has its blocks, and each live point is in it.
pub record ListsPoints (live : List Event) (counted : Stored) (points : List LivePoint) : Type 0 where
  pub rises : Rises (numbers_of points)
  pub lives : AllLive live counted points
  pub all : (n : ℕ) → IsLive live n → has (λ m. m == n) (numbers_of points) ≡ true
