use Rattle.std.proofs.Common.{◌≡◌, ◌-◌, ◌+◌, drop, true, false, sym, ◌∙◌, rules, arith}
use Rattle.std.proofs.lemmas.Result.{err_from_is_err_and}
use Rattle.dms_tokens.specs.Cursors.{place_at, starts, is_the_sign}
use Rattle.dms_statements.specs.Statements.{row_at}
use Rattle.dms_statements.proofs.RowTurns.{rows_last, rows_next, rows_bad, rows_full, fails_from}
use Rattle.dms_statements.proofs.rows.rows.Goals as goal

pub returns-in_err-rows-clause-takes : goal.returns-in_err-rows-clause-takes
returns-in_err-rows-clause-takes c =
    let p = err_from_is_err_and c.from_residual.result c.from_residual.ensures.1 in
    rw (p.1, p.2) (fails_from _ (row_at c.loop-turn.rows c.loop-turn.cursor) _ (λ q h. sym c.loop-turn.invariant.same ∙ rows_bad (100 - (c.loop-turn._turn + 1)) (100 - c.loop-turn._turn) c.loop-turn.rows c.loop-turn.cursor q (omega (arith, c.loop-turn-test.true)) h) c.in_err-rows.ensures.takes)

pub returns-then-not-comma-clause-takes : goal.returns-then-not-comma-clause-takes
returns-then-not-comma-clause-takes c =
    let off : starts (is_the_sign 44) c.row.new.cursor ≡ false = search rules in
    let same : c.comma.new.self ≡ c.row.new.cursor = search rules in
    sym c.loop-turn.invariant.same ∙ rw same (rows_last (100 - (c.loop-turn._turn + 1)) (100 - c.loop-turn._turn) c.loop-turn.rows c.in_ok-rows.rows c.loop-turn.cursor c.row.new.cursor (omega (arith, c.loop-turn-test.true)) c.in_ok-rows.ensures.takes off)

pub loop-turn-preserved : goal.loop-turn-preserved
loop-turn-preserved c =
    let on : starts (is_the_sign 44) c.row.new.cursor ≡ true = search rules in
    let same : c.comma.new.self ≡ drop 1 c.row.new.cursor = search rules in
    record { many = omega (arith, c.in_ok-rows.ensures.one, c.loop-turn.invariant.many); same = rw same (sym (rows_next (100 - (c.loop-turn._turn + 1)) (100 - c.loop-turn._turn) c.loop-turn.rows c.in_ok-rows.rows c.loop-turn.cursor c.row.new.cursor (omega (arith, c.loop-turn-test.true)) c.in_ok-rows.ensures.takes on) ∙ c.loop-turn.invariant.same) }

pub returns-clause-takes : goal.returns-clause-takes
returns-clause-takes c =
    let at : c.place.result ≡ place_at c.loop-turn.cursor = search rules in
    rw at (sym c.loop-turn.invariant.same ∙ rows_full (100 - c.loop-turn._turn) c.loop-turn.rows c.loop-turn.cursor (omega (arith, c.loop-turn-test.false)))
