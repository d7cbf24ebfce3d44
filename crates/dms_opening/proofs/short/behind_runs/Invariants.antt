use Rattle.std.proofs.Common.{ℕ, ◌≤◌, ◌<◌, ◌≡◌, take, true, false}
use Rattle.std.specs.List.{list_any}
use Rattle.dms_restore.specs.declared.run.Run.{Run}
use Rattle.dms_opening.specs.Short.{GoesOn, is_in_run}
use Rattle.dms_opening.proofs.short.behind_runs.Given as goal

abbrev pub invariant-loop-run : goal.invariant-loop-run
invariant-loop-run l = GoesOn (λ b. list_any (λ (r : Run). is_in_run l.file b r) (take l.run-index l.runs)) l.from l.next
