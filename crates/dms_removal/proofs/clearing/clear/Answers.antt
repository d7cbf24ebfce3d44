use Rattle.std.proofs.Common.{◌+◌, ◌<◌, ◌≤◌, ℕ, List, sym, subst, length, get_or, take, arith, Ok}
use Rattle.std.proofs.lemmas.List.{length-take}
use Rattle.dms_desc.specs.Shape.{as_described}
use Rattle.dms_links.specs.Taking.{holds_after, sound_after}
use Rattle.dms_model.specs.Db.{Place}
use Rattle.dms_removal.specs.Clears.{ClearsSlots, clears_err, clears_none, clears_one, take_all, take_next}
use Rattle.dms_removal.proofs.clearing.clear.Goals as goal

pub loop-place-init : goal.loop-place-init
loop-place-init g c = clears_none (as_described c.args.desc.now) c.args.to c.args.number tt c.args.over.now g.met.B.Blocks.same_again c.requires.sound

pub alter_in-requires-clause-sound : goal.alter_in-requires-clause-sound
alter_in-requires-clause-sound g c = sound_after (as_described c.args.desc.now) (length (take c.loop-place.place-index c.args.places.now)) c.args.over.now c.loop-place.over c.loop-place.invariant.writes

pub alter_in-requires-clause-holds : goal.alter_in-requires-clause-holds
alter_in-requires-clause-holds g c = holds_after (as_described c.args.desc.now) (length (take c.loop-place.place-index c.args.places.now)) c.args.over.now c.loop-place.over c.loop-place.invariant.writes c.requires.holds (get_or c.args.places.now c.loop-place.place-index (0, 0)).0

pub alter_in-requires-clause-may : goal.alter_in-requires-clause-may
alter_in-requires-clause-may g c s at = tt

pub returns-in-Err : goal.returns-in-Err
returns-in-Err g c =
    let k = c.loop-place.place-index in
    let all = c.args.places.now in
    let p : Place = get_or all k (0, 0) in
    clears_err (as_described c.args.desc.now) c.args.to c.args.number (take k all) all p c.in-Err.e c.args.over.now c.loop-place.over c.alter_in.new.over g.met.B.Blocks.same_then (few all k (omega (arith, c.loop-place-test.true))) c.loop-place.invariant c.in-Err.ensures.writes c.in-Err.ensures.causes
  where
    few : (ps : List Place) (k : ℕ) → k < length ps → length (take k ps) + 1 ≤ length ps
    few ps k low = omega (arith, low, length-take k ps)

pub loop-place-preserved : goal.loop-place-preserved
loop-place-preserved g c =
    let desc = as_described c.args.desc.now in
    let k = c.loop-place.place-index in
    let all = c.args.places.now in
    let p : Place = get_or all k (0, 0) in
    let next = take_next all k (0, 0) (omega (arith, c.loop-place-test.true)) in
    subst (λ (ps : List Place). ClearsSlots {T = Unit {0}} desc c.args.to c.args.number ps (Ok tt) c.args.over.now c.alter_in.new.over) (sym next)
    (clears_one desc c.args.to c.args.number (take k all) p c.in-Ok._done c.args.over.now c.loop-place.over c.alter_in.new.over g.met.B.Blocks.same_then c.loop-place.invariant c.in-Ok.ensures.writes c.in-Ok.ensures.altered)

pub returns : goal.returns
returns g c =
    let desc = as_described c.args.desc.now in
    let all = c.args.places.now in
    subst (λ (ps : List Place). ClearsSlots {T = Unit {0}} desc c.args.to c.args.number ps (Ok tt) c.args.over.now c.loop-place.over) (take_all all c.loop-place.place-index (omega (arith, c.loop-place-test.false))) c.loop-place.invariant
