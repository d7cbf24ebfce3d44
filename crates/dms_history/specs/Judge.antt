-- Why a point can't be had.
use Rattle.std.specs.Prelude.{ℕ, ◌<◌, ◌≤◌, ◌≡◌, ◌↔◌, ◌&&◌, nat_le, if◌then◌else◌, Bool, List, Option, Some, None}
use Rattle.dms_history.specs.Events.{Event}
use Rattle.dms_history.specs.Lists.{has, until_first}
use Rattle.dms_history.specs.Places.{is_point, is_described, IsLive}
use Rattle.dms_history.specs.Points.{live_numbers}

-- no_such_point: the number isn't below the next one. audit_missing: it is below each live point. voided: it is otherwise not live.
pub data PointRefusal : Type 0 where
  no_such_point : PointRefusal
  audit_missing : PointRefusal
  voided : PointRefusal

abbrev pub is_live : List Event → ℕ → Bool
is_live live n = has (is_point n) live && has is_described (until_first (is_point n) live)

-- The refusal of a point, or none: it isn't below the next number; it is below each live point; it is otherwise not live.
unfoldable pub judge_point : List Event → ℕ → ℕ → Option PointRefusal
judge_point live next n =
    if nat_le next n then Some no_such_point
    else if is_live live n then None
    else if has (λ m. nat_le m n) (live_numbers live) then Some voided
    else Some audit_missing

-- The number is below the next one, it isn't live, and a live point is below it.
pub record IsCutOff (live : List Event) (next n : ℕ) : Type 0 where
  pub used : n < next
  pub gone : IsLive live n → ⊥
  pub lower : ℕ
  pub lower_lives : IsLive live lower
  pub is_lower : lower < n

-- Law: each answer comes exactly where it is said to.
pub record JudgesPoint (live : List Event) (next n : ℕ) : Type 0 where
  pub lives : (judge_point live next n ≡ None) ↔ ((n < next) × IsLive live n)
  pub no_such : (judge_point live next n ≡ Some no_such_point) ↔ (next ≤ n)
  pub missing : (judge_point live next n ≡ Some audit_missing) ↔ ((n < next) × ((m : ℕ) → IsLive live m → n < m))
  pub void : (judge_point live next n ≡ Some voided) ↔ IsCutOff live next n

abbrev pub EachJudged : Type 0
EachJudged = (live : List Event) (next n : ℕ) → JudgesPoint live next n
