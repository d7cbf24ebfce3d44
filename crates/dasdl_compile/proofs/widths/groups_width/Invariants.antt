use Rattle.std.proofs.Common.{◌≡◌, drop}
use Rattle.dasdl_compile.specs.Widths.{groups_width}
use Rattle.dasdl_compile.proofs.widths.groups_width.Given as goal

-- the bytes so far and those of what is left
abbrev pub invariant-loop-group : goal.invariant-loop-group
invariant-loop-group l = groups_width l.width (drop l.group-index l.groups) ≡ groups_width l.fn.before l.groups
