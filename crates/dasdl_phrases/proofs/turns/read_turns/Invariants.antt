use Rattle.std.proofs.Common.{◌≡◌, ◌-◌}
use Rattle.dasdl_phrases.specs.Cursors.{turns, turns_at}
use Rattle.dasdl_phrases.proofs.turns.read_turns.Given as goal

-- the turns that are left read what all turns read
abbrev pub invariant-loop-turn : goal.invariant-loop-turn
invariant-loop-turn g l = turns g.T.Turns.done_at g.T.Turns.turn_at (l._turn-end - l._turn) l.state l.cursor ≡ turns_at g.T.Turns.done_at g.T.Turns.turn_at l.fn.start l.fn.cursor
