-- Which calls fail.
use Rattle.std.specs.Prelude.{ℕ, ◌+◌, ◌≤◌, ◌≡◌, ◌⊎◌, ◌==◌, nat_le, if◌then◌else◌, Bool, true, false, IsTrue, Some, None, IsErr, OnErr, Ok, Err, ⊤}
use Rattle.std.specs.List.{list_any}
use Rattle.std.specs.declared.option.Option.{Option}
use Rattle.std.specs.declared.result.Result.{Result}
use Rattle.dms_base.specs.Causes.{Rose}
use Rattle.dms_sitemem.specs.declared.plan.FailurePlan.{FailurePlan}

-- from that number on
abbrev pub is_past : Option ℕ → ℕ → Bool
is_past None number = false
is_past (Some stop) number = nat_le stop number

-- the call of this number fails: it is listed, or it is not before the stop
unfoldable pub is_named : FailurePlan → ℕ → Bool
is_named plan number = if list_any (λ n. n == number) plan.fails.items then true else is_past plan.stop number

-- a call was kept as one that succeeded
abbrev pub Succeeded : {E : Type 0} → Result Bool E → Type 0
Succeeded (Ok done) = IsTrue done
Succeeded (Err e) = ⊥

-- a call was kept as one that failed, or wasn't kept
abbrev pub Failing : {E : Type 0} → Result Bool E → Type 0
Failing (Ok done) = done ≡ false
Failing (Err e) = ⊤

-- How a call ends. It is the next one: made counts the calls before it, and then those with it.
-- Named calls fail. Another one fails only where memory was refused, which is counted, and then the call may not be numbered.
pub record EndsByPlan {T E : Type 0} (plan : FailurePlan) (made made' refused refused' : ℕ) (result : Result T E) : Type 0 where
  pub named : IsTrue (is_named plan (made + 1)) → IsErr result
  pub cause : OnErr result (IsTrue (is_named plan (made + 1)) ⊎ Rose refused refused')
  pub later : refused ≤ refused'
  pub numbered : (made' ≡ made + 1) ⊎ ((made' ≡ made) × Rose refused refused')
