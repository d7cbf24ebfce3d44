-- Looks at blocks, and why they fail.
use Rattle.std.specs.Prelude.{ℕ, ◌≡◌, ◌≤◌, ◌+◌, IsErrOf, IsTrue}
use Rattle.std.specs.declared.result.Result.{Result}
use Rattle.dms_base.specs.Causes.{Rose}
use Rattle.dms_view.specs.declared.view.ViewFault.{ViewFault}
use Rattle.dms_view.specs.declared.view.ViewFault.TheVariants.{Disk}

-- Disk comes exactly where the count of failures rose, by one failure, behind which there was no further call.
pub record Fails {T : Type 0} (before now : ℕ) (result : Result T ViewFault) : Type 0 where
  pub later : before ≤ now
  pub rose : IsErrOf result Disk → Rose before now
  pub once : now ≤ before + 1
  pub clean : (IsErrOf result Disk → ⊥) → now ≡ before
