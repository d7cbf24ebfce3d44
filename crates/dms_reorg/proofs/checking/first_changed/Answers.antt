use Rattle.std.proofs.Common.{◌≤◌, ◌∙◌, List, length, sym, ap, arith, rules}
use Rattle.std.proofs.lemmas.Bool.{false≢true}
use Rattle.std.proofs.lemmas.List.{length-map}
use Rattle.dms_desc.specs.declared.structure.Structure.{Structure}
use Rattle.dms_desc.specs.Shape.{as_described, shape_of}
use Rattle.dms_reorg.specs.Refusals.{Stands}
use Rattle.dms_reorg.proofs.Reasons.{all_there, changed_first, one_more, structure_read}
use Rattle.dms_reorg.proofs.checking.first_changed.Goals as goal

pub returns-then-not-stands : goal.returns-then-not-stands
returns-then-not-stands c =
    let old = as_described c.args.old.now in
    let new = as_described c.args.new.now in
    let place = c.loop-place.place in
    let here = structure_read c.as_slice-s-items.result.now c.args.old.now.structures place c.s-item.result c.as_slice-s-items.ensures (omega arith) c.s-item.is in
    changed_first old new place (shape_of c.s-item.result) here c.loop-place.invariant (λ h. false≢true (sym c.if-not-stands.true ∙ c.stands.ensures.1 h))

pub loop-place-preserved : goal.loop-place-preserved
loop-place-preserved c =
    let old = as_described c.args.old.now in
    let new = as_described c.args.new.now in
    let place = c.loop-place.place in
    let here = structure_read c.as_slice-s-items.result.now c.args.old.now.structures place c.s-item.result c.as_slice-s-items.ensures (omega arith) c.s-item.is in
    one_more old (Stands new) place (shape_of c.s-item.result) here c.loop-place.invariant (c.stands.ensures.0 (search rules))

pub returns : goal.returns
returns c =
    let old = as_described c.args.old.now in
    let long : length old.structures ≤ c.loop-place.place = omega (arith, length-map c.args.old.now.structures shape_of, ap (λ (l : List Structure). length l) c.as_slice-s-items.ensures) in
    all_there old (Stands (as_described c.args.new.now)) c.loop-place.place long c.loop-place.invariant
