use Rattle.std.proofs.Common.{ap, ◌∙◌, map, List, ◌∷◌, [], ◌+◌}
use Rattle.std.proofs.lemmas.List.{map-append}
use Rattle.dms_desc.specs.declared.structure.Structure.{Structure}
use Rattle.dms_desc.specs.Shape.{shape_of}
use Rattle.dms_desc_bytes.specs.Reading.{all_structures_at, structure_at}
use Rattle.dms_desc_bytes.proofs.Several.{one_more, all_read}
use Rattle.dms_desc_bytes.proofs.reading.read_structures.Goals as goal

pub loop-before-preserved : goal.loop-before-preserved
loop-before-preserved c =
    let x = c.in_ok-read_structure.field-0 in
    one_more structure_at (map shape_of c.loop-before.structures) (map shape_of c.push.new.self) (shape_of x) (c.loop-before.before + 1) c.u16-count.result c.loop-before.before c.loop-before.input c.read_structure.new.input (all_structures_at c.args.input.now) c.loop-before-test.true c.loop-before.invariant c.in_ok-read_structure.ensures
    (ap (λ (l : List Structure). map shape_of l) c.in_ok-push.ensures.ok ∙ map-append shape_of c.loop-before.structures (x ∷ []))

pub returns : goal.returns
returns c = all_read structure_at (map shape_of c.loop-before.structures) (c.loop-before.before + 1) c.u16-count.result c.loop-before.before c.loop-before.input (all_structures_at c.args.input.now) c.loop-before-test.false c.loop-before.invariant
