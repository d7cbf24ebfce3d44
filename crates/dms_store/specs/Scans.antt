-- The members of a data set, slot by slot.
use Rattle.std.specs.Prelude.{ℕ, ◌≡◌, ◌≤◌, ◌+◌, ◌-◌, List, [], ◌∷◌, drop, Some, None, if◌then◌else◌, ◌==◌}
use Rattle.std.specs.declared.option.Option.{Option}
use Rattle.dms_desc.specs.declared.bound.Bound.{Bound}
use Rattle.dms_desc.specs.declared.bound.Bound.TheVariants.{Start, End, At, From}
use Rattle.dms_desc.specs.declared.record.Record.{Record}
use Rattle.dms_desc.specs.Sorted.{or_else}
use Rattle.dms_desc.specs.Shape.{Shape}
use Rattle.dms_layout.specs.declared.slot.Slot.{Slot}
use Rattle.dms_layout.specs.declared.slot.SlotRead.{SlotRead}
use Rattle.dms_layout.specs.declared.slot.SlotRead.TheVariants.{Free, Used, Bad}
use Rattle.dms_layout.specs.Slots.{SlotFits}
use Rattle.dms_model.specs.declared.spot.Spot.{Spot}

-- a record of a data set as a member: it has no key
abbrev pub spot : ℕ → Record → Spot
spot n rec = record { number = n; key = []; rec = rec }

-- the record of a slot, where it is this owner's
abbrev pub owned_spot : ℕ → ℕ → SlotRead → Option Spot
owned_spot owner n Free = None
owned_spot owner n (Used slot) = if owner == slot.rec.owner then Some (spot n slot.rec) else None
owned_spot owner n Bad = None

-- the first of an owner among slots, the first of which has number n
abbrev pub first_used : ℕ → ℕ → List SlotRead → Option Spot
first_used owner n [] = None
first_used owner n (r ∷ rs) = or_else (owned_spot owner n r) (first_used owner (n + 1) rs)

-- and the last
abbrev pub last_used : ℕ → ℕ → List SlotRead → Option Spot
last_used owner n [] = None
last_used owner n (r ∷ rs) = or_else (last_used owner (n + 1) rs) (owned_spot owner n r)

-- how many slots stand before those that a search goes through; none where nothing is behind the bound
abbrev pub start_of : Bound → Option ℕ
start_of Start = Some 0
start_of End = None
start_of (At key n) = Some n
start_of (From key) = Some 0

-- how many of so many slots a search from the last one on goes through
abbrev pub stop_of : Bound → ℕ → ℕ
stop_of Start count = 0
stop_of End count = count
stop_of (At key n) count = n - 1
stop_of (From key) count = 0

-- A member of a data set: its number is at most POPULATION, it has no key, and its record is that of a slot that fits.
pub record IsRecordSpot (s : Shape) (x : Spot) : Type 0 where
  pub low : 1 ≤ x.number
  pub most : x.number ≤ s.population
  pub keyless : x.key ≡ []
  pub slot : Slot
  pub fits : SlotFits s slot
  pub same : slot.rec ≡ x.rec

-- the first of an owner behind so many slots; none where a search goes through no slot
abbrev pub first_by : ℕ → Option ℕ → List SlotRead → Option Spot
first_by owner None rs = None
first_by owner (Some m) rs = first_used owner (1 + m) (drop m rs)
