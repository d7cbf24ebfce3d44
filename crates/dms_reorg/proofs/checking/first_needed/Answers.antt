use Rattle.std.proofs.Common.{◌≡◌, ◌≤◌, ℕ, List, None, length, ap, arith}
use Rattle.std.proofs.lemmas.List.{length-map}
use Rattle.dms_desc.specs.declared.structure.Structure.{Structure}
use Rattle.dms_desc.specs.Shape.{Shape, as_described, shape_of}
use Rattle.dms_reorg.specs.Refusals.{first_lacking}
use Rattle.dms_reorg.proofs.Reasons.{all_there, lacking_first, none_lacks, one_more, structure_read}
use Rattle.dms_reorg.proofs.checking.first_needed.Goals as goal

pub returns-in-Some : goal.returns-in-Some
returns-in-Some c =
    let old = as_described c.args.old.now in
    let new = as_described c.args.new.now in
    let place = c.loop-place.place in
    let here = structure_read c.as_slice-s-items.result.now c.args.old.now.structures place c.s-item.result c.as_slice-s-items.ensures (omega arith) c.s-item.is in
    lacking_first old new place (shape_of c.s-item.result) here c.in-Some.name c.loop-place.invariant c.in-Some.ensures

pub loop-place-preserved : goal.loop-place-preserved
loop-place-preserved c =
    let old = as_described c.args.old.now in
    let new = as_described c.args.new.now in
    let place = c.loop-place.place in
    let here = structure_read c.as_slice-s-items.result.now c.args.old.now.structures place c.s-item.result c.as_slice-s-items.ensures (omega arith) c.s-item.is in
    let s = shape_of c.s-item.result in
    one_more old (λ (n : ℕ) (t : Shape). first_lacking old new n ≡ None) place s here c.loop-place.invariant (none_lacks old new place s here c.in-None.ensures)

pub returns : goal.returns
returns c =
    let old = as_described c.args.old.now in
    let long : length old.structures ≤ c.loop-place.place = omega (arith, length-map c.args.old.now.structures shape_of, ap (λ (l : List Structure). length l) c.as_slice-s-items.ensures) in
    all_there old (λ (n : ℕ) (t : Shape). first_lacking old (as_described c.args.new.now) n ≡ None) c.loop-place.place long c.loop-place.invariant
