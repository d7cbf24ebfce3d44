use Rattle.std.proofs.Common.{◌≡◌, drop}
use Rattle.dasdl_compile.specs.Finding.{kind_of}
use Rattle.dasdl_compile.proofs.find.is_restart.Given as goal

-- what is left gives what the whole gives
abbrev pub invariant-loop-draft : goal.invariant-loop-draft
invariant-loop-draft l = kind_of l.fn.number (drop l.draft-index l.drafts) ≡ kind_of l.fn.number l.drafts
