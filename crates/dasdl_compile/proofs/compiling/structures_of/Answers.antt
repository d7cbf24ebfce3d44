use Rattle.std.proofs.Common.{◌≡◌, ap, ◌∙◌, List, map, ◌++◌, ◌∷◌, [], ◌<◌, length}
use Rattle.dms_desc.specs.declared.structure.Structure.{Structure}
use Rattle.dms_desc.specs.Shape.{shape_of}
use Rattle.dasdl_compile.specs.Compile.{shape_in}
use Rattle.dasdl_compile.proofs.Maps.{map_taken}
use Rattle.dasdl_compile.proofs.compiling.structures_of.Goals as goal

pub loop-draft-preserved : goal.loop-draft-preserved
loop-draft-preserved c =
    let low : c.loop-draft.draft-index < length c.args.drafts.now = c.loop-draft-test.true in
    let pushed : c.push.new.self ≡ c.loop-draft.made ++ c.in_ok-structure_of.field-0 ∷ [] = c.in_ok-push.ensures.ok in
    ap (λ (l : List Structure). map shape_of l) pushed
    ∙ map_taken shape_of shape_in c.args.drafts.now c.loop-draft.draft-index c.in_ok-structure_of.field-0 c.draft-item.result c.loop-draft.made low c.loop-draft.invariant
    (c.in_ok-structure_of.ensures ∙ ap shape_in c.draft-item.is)
