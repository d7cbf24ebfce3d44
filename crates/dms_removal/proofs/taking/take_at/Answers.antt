use Rattle.std.proofs.Common.{◌+◌, ◌*◌, Bool, subst, length, Ok}
use Rattle.dms_desc.specs.Shape.{as_described, shape_of}
use Rattle.dms_links.specs.Taking.{holds_after}
use Rattle.dms_spelling.specs.Ready.{holds_sets}
use Rattle.dms_spelling.specs.ServingLaws.{served_at}
use Rattle.dms_removal.specs.Stripping.{StripsRecord}
use Rattle.dms_removal.specs.Taking.{take_failed, take_refused, take_released}
use Rattle.dms_removal.proofs.taking.take_at.Goals as goal

pub release-requires-clause-sound : goal.release-requires-clause-sound
release-requires-clause-sound g c = c.in-Ok-true.ensures.writes.writes.looks.stays.sound

pub release-requires-clause-holds : goal.release-requires-clause-holds
release-requires-clause-holds g c =
    let desc = as_described c.args.desc.now in
    holds_after desc (44 * length desc.structures + 1) c.args.over.now c.strip.new.over c.in-Ok-true.ensures.writes (holds_sets desc c.args.over.now c.requires.ready)

pub returns-in-Err : goal.returns-in-Err
returns-in-Err g c = take_failed (as_described c.args.desc.now) c.args.s.now.number c.args.number c.args.rec.now c.args.over.now c.in-Err.e c.strip.new.over c.in-Err.ensures

pub returns-in-Ok-false : goal.returns-in-Ok-false
returns-in-Ok-false g c =
    let desc = as_described c.args.desc.now in
    take_refused desc c.args.s.now.number c.args.number c.args.rec.now c.args.over.now c.strip.new.over
    (subst (λ (z : Bool). StripsRecord desc c.args.s.now.number c.args.number c.args.rec.now (Ok z) c.args.over.now c.strip.new.over) c.in-Ok-false.field-0-test c.in-Ok-false.ensures)

pub returns-in-Ok-true : goal.returns-in-Ok-true
returns-in-Ok-true g c =
    let desc = as_described c.args.desc.now in
    let s = shape_of c.args.s.now in
    take_released desc s.number c.args.number c.args.rec.now c.args.over.now c.release.result s c.strip.new.over c.release.new.over g.met.B.Blocks.same_then c.requires.ready.served c.requires.at (served_at desc s.number s c.requires.ready.served c.requires.at).few
    (subst (λ (z : Bool). StripsRecord desc s.number c.args.number c.args.rec.now (Ok z) c.args.over.now c.strip.new.over) c.in-Ok-true.field-0-test c.in-Ok-true.ensures)
    c.release.ensures
