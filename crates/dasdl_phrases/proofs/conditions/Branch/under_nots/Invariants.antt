use Rattle.std.proofs.Common.{◌≡◌}
use Rattle.dasdl_phrases.specs.Branches.{under_nots}
use Rattle.dasdl_phrases.proofs.conditions.Branch.under_nots.Given as goal

-- the NOTs so far have turned what was given
abbrev pub invariant-loop-not : goal.invariant-loop-not
invariant-loop-not l = l.branch ≡ under_nots l._not l.fn.self
