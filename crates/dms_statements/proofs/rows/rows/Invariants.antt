use Rattle.std.proofs.Common.{◌≡◌, ◌-◌, [], length}
use Rattle.dms_statements.specs.Statements.{rows_at}
use Rattle.dms_statements.proofs.rows.rows.Given as goal

-- the rows that may follow are read as all are, and each turn read one
abbrev pub invariant-loop-turn : goal.invariant-loop-turn
invariant-loop-turn l = record { same : rows_at (100 - l._turn) l.rows l.cursor ≡ rows_at 100 [] l.fn.cursor; many : length l.rows ≡ l._turn }
