use Rattle.std.proofs.Common.{◌≡◌, ◌-◌, ◌+◌, map}
use Rattle.dms_desc.specs.Shape.{shape_of}
use Rattle.dms_desc_bytes.specs.Reading.{all_structures_at, several, structure_at}
use Rattle.dms_desc_bytes.proofs.Several.{with_front}
use Rattle.dms_desc_bytes.proofs.reading.read_structures.Given as goal

-- what is read so far, and what is left to read
abbrev pub invariant-loop-before : goal.invariant-loop-before
invariant-loop-before l = with_front (map shape_of l.structures) (several structure_at (l.before + 1) (l.count - l.before) l.input) ≡ all_structures_at l.fn.input
