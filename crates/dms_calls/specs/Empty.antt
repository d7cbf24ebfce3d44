-- A folder without files that nothing changes.
use Rattle.std.proofs.Common.{[], ◌≡◌, None}
use Rattle.dms_moments.specs.Moments.{Clock}
use Rattle.dms_calls.specs.World.{World}

abbrev pub empty_world : World
empty_world = record { names = λ m. None; bytes = λ i. []; said = [] }

-- a stop leaves that
abbrev pub empty_clock : Clock World
empty_clock = record { now = 0; left = λ t w. w ≡ empty_world }
