use Rattle.std.proofs.Common.{◌≡◌, drop}
use Rattle.dasdl_compile.specs.Widths.{parts_width}
use Rattle.dasdl_compile.proofs.widths.parts_width.Given as goal

-- the bytes so far and those of what is left
abbrev pub invariant-loop-part : goal.invariant-loop-part
invariant-loop-part l = parts_width l.width (drop l._part-index l.parts) ≡ parts_width l.fn.before l.parts
