use Rattle.std.proofs.Common.{◌≡◌, drop}
use Rattle.dasdl_compile.specs.Keys.{is_part}
use Rattle.dasdl_compile.proofs.keys.is_part.Given as goal

-- what is left gives what the whole gives
abbrev pub invariant-loop-part : goal.invariant-loop-part
invariant-loop-part l = is_part l.fn.number (drop l.part-index l.parts) ≡ is_part l.fn.number l.parts
