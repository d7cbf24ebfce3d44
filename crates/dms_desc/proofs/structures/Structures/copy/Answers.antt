use Rattle.std.proofs.Common.{◌≡◌, ap, ◌∙◌, List, map, ◌++◌, ◌∷◌, [], ◌<◌, length}
use Rattle.dms_desc.specs.declared.structure.Structure.{Structure}
use Rattle.dms_desc.specs.Shape.{shape_of}
use Rattle.dms_desc.proofs.Maps.{map_taken}
use Rattle.dms_desc.proofs.structures.Structures.copy.Goals as goal

pub loop-structure-preserved : goal.loop-structure-preserved
loop-structure-preserved c =
    let low : c.loop-structure.structure-index < length c.as_slice-structure-items.result.now = c.loop-structure-test.true in
    let pushed : c.push.new.self ≡ c.loop-structure.made ++ c.in_ok-copy.field-0 ∷ [] = c.in_ok-push.ensures.ok in
    ap (λ (l : List Structure). map shape_of l) pushed
    ∙ map_taken shape_of c.as_slice-structure-items.result.now c.loop-structure.structure-index c.in_ok-copy.field-0 c.structure-item.result c.loop-structure.made low c.loop-structure.invariant
    (c.in_ok-copy.ensures ∙ ap shape_of c.structure-item.is)
