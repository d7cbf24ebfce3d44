use Rattle.std.proofs.Common.{take, Ok}
use Rattle.dms_desc.specs.Shape.{as_described}
use Rattle.dms_removal.specs.Clears.{ClearsSlots}
use Rattle.dms_removal.proofs.clearing.clear.Given as goal

abbrev pub invariant-loop-place : goal.invariant-loop-place
invariant-loop-place g l = ClearsSlots {T = Unit {0}} (as_described l.desc) l.to l.number (take l.place-index l.places) (Ok tt) l.fn.over l.over
