use Rattle.std.proofs.Common.{◌≡◌, drop}
use Rattle.dasdl_compile.specs.Answers.{steps}
use Rattle.dasdl_compile.proofs.steps.all_steps.Given as goal

-- what is left is made of what was made so far as the whole is of the start, and nothing changed that no step changes
abbrev pub invariant-loop-one : goal.invariant-loop-one
invariant-loop-one g l =
    (steps g.S.Stepwise.step_at l.known l.state (drop l.one-index l.list) ≡ steps g.S.Stepwise.step_at l.fn.known l.fn.state l.fn.list)
    × (g.S.Stepwise.fixed l.state ≡ g.S.Stepwise.fixed l.fn.state)
