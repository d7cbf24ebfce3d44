use Rattle.std.proofs.Common.{◌≡◌, ◌-◌, ◌+◌, length, true, false, sym, ◌∙◌, arith}
use Rattle.std.proofs.lemmas.Result.{err_from_is_err_and}
use Rattle.dasdl_phrases.specs.Cursors.{fault_at}
use Rattle.dasdl_phrases.proofs.Turning.{turns-done, turns-one, turns-fault, turns-full, Fails-from, Fails-at}
use Rattle.dasdl_phrases.proofs.turns.read_turns.Goals as goal

pub returns-then-is_done : goal.returns-then-is_done
returns-then-is_done g c =
    let done : g.T.Turns.done_at c.loop-turn.state c.loop-turn.cursor ≡ true = cc in
    sym c.loop-turn.invariant ∙ turns-done g.T.Turns.done_at g.T.Turns.turn_at (length c.rest-turn-end.result.now - c.loop-turn._turn) c.loop-turn.state c.loop-turn.cursor done

pub returns-in_err-state : goal.returns-in_err-state
returns-in_err-state g c =
    let p = err_from_is_err_and c.from_residual.result c.from_residual.ensures.1 in
    let go : g.T.Turns.done_at c.loop-turn.state c.loop-turn.cursor ≡ false = cc in
    rw (p.1, p.2) (Fails-from _ (g.T.Turns.turn_at c.loop-turn.state c.loop-turn.cursor) _ (λ f h. sym c.loop-turn.invariant ∙ turns-fault g.T.Turns.done_at g.T.Turns.turn_at (length c.rest-turn-end.result.now - (c.loop-turn._turn + 1)) (length c.rest-turn-end.result.now - c.loop-turn._turn) c.loop-turn.state c.loop-turn.cursor f (omega arith) go h) c.in_err-state.ensures)

pub loop-turn-preserved : goal.loop-turn-preserved
loop-turn-preserved g c =
    let go : g.T.Turns.done_at c.loop-turn.state c.loop-turn.cursor ≡ false = cc in
    sym (turns-one g.T.Turns.done_at g.T.Turns.turn_at (length c.rest-turn-end.result.now - (c.loop-turn._turn + 1)) (length c.rest-turn-end.result.now - c.loop-turn._turn) c.loop-turn.state c.in_ok-state.state c.loop-turn.cursor c.turn.new.cursor (omega arith) go c.in_ok-state.ensures) ∙ c.loop-turn.invariant

pub returns-then-is_done-2 : goal.returns-then-is_done-2
returns-then-is_done-2 g c =
    let done : g.T.Turns.done_at c.loop-turn.state c.loop-turn.cursor ≡ true = cc in
    sym c.loop-turn.invariant ∙ turns-done g.T.Turns.done_at g.T.Turns.turn_at (length c.rest-turn-end.result.now - c.loop-turn._turn) c.loop-turn.state c.loop-turn.cursor done

pub returns : goal.returns
returns g c =
    let go : g.T.Turns.done_at c.loop-turn.state c.loop-turn.cursor ≡ false = cc in
    let at : c.fault.result ≡ fault_at c.loop-turn.cursor = cc in
    rw at (Fails-at c.loop-turn.cursor _ (sym c.loop-turn.invariant ∙ turns-full g.T.Turns.done_at g.T.Turns.turn_at (length c.rest-turn-end.result.now - c.loop-turn._turn) c.loop-turn.state c.loop-turn.cursor (omega arith) go))
