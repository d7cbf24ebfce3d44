use Rattle.std.proofs.Common.{◌≡◌, ◌++◌, take, drop}
use Rattle.dms_recovery.proofs.Placed.{placed}
use Rattle.dms_recovery.proofs.rows.put_row.Given as goal

-- the rows are as they were, and the place stands among the rest
abbrev pub invariant-loop-place : goal.invariant-loop-place
invariant-loop-place l = record { same : l.rows.items ≡ l.fn.rows.items; place : placed l.row l.rows.items ≡ take l.place l.rows.items ++ placed l.row (drop l.place l.rows.items) }
