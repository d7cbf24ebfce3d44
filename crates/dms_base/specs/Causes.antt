-- Why a call of the outside may fail.
use Rattle.std.specs.Prelude.{ℕ, ◌+◌, ◌-◌, ◌^◌, ◌≤◌, min, ◌≡◌, OnErr, OnOk}
use Rattle.std.specs.declared.result.Result.{Result}

-- a count rose, or stands at the end of its type, where it counts as one that rose
abbrev pub Rose : ℕ → ℕ → Type 0
Rose before now = min (before + 1) (2 ^ 64 - 1) ≤ now

-- a count of failures has not fallen, and rose where the call failed
pub record HasCause {T E : Type 0} (before now : ℕ) (result : Result T E) : Type 0 where
  pub later : before ≤ now
  pub failed : OnErr result (Rose before now)
  -- no call failed before the one that answered so, and none after it
  pub once : OnErr result (now ≤ before + 1)
  pub clean : OnOk result (now ≡ before)
