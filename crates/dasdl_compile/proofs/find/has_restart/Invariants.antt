use Rattle.std.proofs.Common.{◌≡◌, drop}
use Rattle.dasdl_compile.specs.Finding.{has_restart}
use Rattle.dasdl_compile.proofs.find.has_restart.Given as goal

-- what is left gives what the whole gives
abbrev pub invariant-loop-draft : goal.invariant-loop-draft
invariant-loop-draft l = has_restart (drop l.draft-index l.drafts) ≡ has_restart l.drafts
