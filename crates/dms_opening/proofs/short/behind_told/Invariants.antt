use Rattle.std.proofs.Common.{ℕ, ◌≤◌, ◌<◌, ◌≡◌, take, true, false}
use Rattle.std.specs.List.{list_any}
use Rattle.dms_restore.specs.declared.told.Told.{Told}
use Rattle.dms_opening.specs.Short.{GoesOn, is_told}
use Rattle.dms_opening.proofs.short.behind_told.Given as goal

abbrev pub invariant-loop-one : goal.invariant-loop-one
invariant-loop-one l = GoesOn (λ b. list_any (λ (t : Told). is_told l.file b t) (take l.one-index l.told)) l.from l.next
