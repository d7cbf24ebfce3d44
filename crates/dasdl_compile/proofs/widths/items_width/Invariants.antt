use Rattle.std.proofs.Common.{◌≡◌, drop}
use Rattle.dasdl_compile.specs.Widths.{items_width}
use Rattle.dasdl_compile.proofs.widths.items_width.Given as goal

-- the bytes so far and those of what is left
abbrev pub invariant-loop-item : goal.invariant-loop-item
invariant-loop-item l = items_width l.width (drop l.item-index l.items) ≡ items_width l.fn.before l.items
