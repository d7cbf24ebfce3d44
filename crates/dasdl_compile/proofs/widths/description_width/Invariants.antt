use Rattle.std.proofs.Common.{◌≡◌, drop}
use Rattle.dasdl_compile.specs.Widths.{structures_width}
use Rattle.dasdl_compile.proofs.widths.description_width.Given as goal

-- the bytes so far and those of what is left
abbrev pub invariant-loop-draft : goal.invariant-loop-draft
invariant-loop-draft l = structures_width l.width (drop l.draft-index l.drafts) ≡ structures_width 18 l.drafts
