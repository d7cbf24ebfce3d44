use Rattle.std.proofs.Common.{◌≡◌, ◌++◌, map, take, drop}
use Rattle.dms_desc.specs.Shape.{as_described}
use Rattle.dms_model.specs.Session.{without_current}
use Rattle.dms_paths.proofs.lost.lose_record.Given as goal

abbrev pub invariant-loop-program : goal.invariant-loop-program
invariant-loop-program l = l.programs ≡ map (without_current (as_described l.desc) l.set l.number) (take l.program-index l.initial.programs) ++ drop l.program-index l.initial.programs
