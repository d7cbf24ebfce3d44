-- What is told of the calls of a real system: nothing.
use Rattle.std.proofs.Common.{[], None, inl, arith}
use Rattle.dms_moments.specs.Moments.{Clock, Steps}
use Rattle.dms_calls.specs.World.{World}

abbrev pub no_world : World
no_world = record { names = λ m. None; bytes = λ i. []; said = [] }

-- a clock that tells nothing of what a stop may leave
abbrev pub untold_clock : Clock World
untold_clock = record { now = 0; left = λ t x. ⊥ }

-- where nothing is told any step holds
pub untold_steps : (step : World → World → Type 0) → Steps step untold_clock untold_clock
untold_steps step = record {
  follows = λ x now. absurd now;
  runs = record { later = omega arith; only = λ t x le left. inl left; keeps = λ t x le left. left };
}
