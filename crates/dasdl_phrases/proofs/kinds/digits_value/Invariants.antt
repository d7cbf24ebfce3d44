use Rattle.std.proofs.Common.{◌≡◌, drop}
use Rattle.dasdl_phrases.specs.Kinds.{digits_from}
use Rattle.dasdl_phrases.proofs.kinds.digits_value.Given as goal

-- the digits so far and those of the rest spell the number
abbrev pub invariant-loop-digit : goal.invariant-loop-digit
invariant-loop-digit l = digits_from l.value (drop l.digit-index l.digits) ≡ digits_from 0 l.digits
