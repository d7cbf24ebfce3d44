use Rattle.std.proofs.Common.{◌+◌}
use Rattle.dms_desc.specs.Shape.{as_described, shape_of}
use Rattle.dms_reorg.proofs.Reasons.{stands_there, stood_there, structure_read}
use Rattle.dms_reorg.proofs.checking.stands.Goals as goal

pub returns-in-Some : goal.returns-in-Some
returns-in-Some c =
    let h = c.in-Some.ensures.lookup in
    let place = c.args.place in
    let there = structure_read c.as_slice.result.now c.args.new.now.structures place c.in-Some.t.now c.as_slice.ensures h.3.0 h.1 in
    let new = as_described c.args.new.now in
    let s = shape_of c.args.s.now in
    let t = shape_of c.in-Some.t.now in
    (λ yes. stands_there new (place + 1) s t there (c.keeps_structure.ensures.0 yes), λ is. c.keeps_structure.ensures.1 (stood_there new (place + 1) s t there is))
