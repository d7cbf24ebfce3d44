use Rattle.std.proofs.Common.{ap, ◌∙◌, List, map}
use Rattle.dms_desc.specs.declared.structure.Structure.{Structure}
use Rattle.dms_desc.specs.Shape.{Described, shape_of, as_described}
use Rattle.dms_desc_bytes.specs.Spelling.{spelling}
use Rattle.dms_desc_bytes.specs.WellFormed.{has_parameters, are_sound}
use Rattle.dms_desc_bytes.proofs.DescriptionLaws.{only_read, both_ways, written_so}
use Rattle.dms_desc_bytes.proofs.reading.decode.Goals as goal

pub returns-then-ne : goal.returns-then-ne
returns-then-ne c = λ d good spelled.
    let same = only_read c.args.bytes.now (as_described c.in_ok-desc.desc) d c.in_ok-desc.ensures good spelled in
    written_so c.as_slice.result.now c.args.bytes.now c.if-ne.ensures (c.as_slice.ensures ∙ c.in_ok-again.ensures ∙ ap spelling same ∙ spelled)

pub returns-then-not-has_parameters : goal.returns-then-not-has_parameters
returns-then-not-has_parameters c = λ d good spelled.
    let same = only_read c.args.bytes.now (as_described c.in_ok-desc.desc) d c.in_ok-desc.ensures good spelled in
    both_ways (has_parameters (as_described c.in_ok-desc.desc)) c.if-not-has_parameters.ensures (ap has_parameters same ∙ good.parameters)

pub returns-then-not-are_sound : goal.returns-then-not-are_sound
returns-then-not-are_sound c = λ d good spelled.
    let same = only_read c.args.bytes.now (as_described c.in_ok-desc.desc) d c.in_ok-desc.ensures good spelled in
    both_ways (are_sound (map shape_of c.as_slice-2.result.now)) c.if-not-are_sound.ensures
    (ap (λ (ss : List Structure). are_sound (map shape_of ss)) c.as_slice-2.ensures ∙ ap (λ (e : Described). are_sound e.structures) same ∙ good.structures)
