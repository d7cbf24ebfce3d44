use Rattle.std.proofs.Common.{◌*◌, Some, None, subst, length, arith}
use Rattle.dms_desc.specs.Shape.{as_described, shape_of}
use Rattle.dms_links.specs.AlteringIn.{slot_low, slot_most, slot_set}
use Rattle.dms_links.specs.WalkedLaws.{shapes_long}
use Rattle.dms_sets.specs.Keeping.{seen_list}
use Rattle.dms_sets.specs.Told.{KeepsListed}
use Rattle.dms_sets.specs.declared.answer.SetAnswer.{SetAnswer}
use Rattle.dms_spelling.specs.Holds.{may_enter}
use Rattle.dms_spelling.specs.Ready.{all_usable}
use Rattle.dms_spelling.specs.ServingLaws.{served_at}
use Rattle.dms_removal.specs.Stripping.{set_off}
use Rattle.dms_removal.specs.Strips.{strip_done, strip_failed, strip_refused, strip_unfreed}
use Rattle.dms_removal.proofs.taking.strip.Goals as goal

pub change-requires-clause-usable : goal.change-requires-clause-usable
change-requires-clause-usable g c k t there own = all_usable (as_described c.args.desc.now) c.args.over.now c.requires.ready k t there

pub change-requires-clause-old : goal.change-requires-clause-old
change-requires-clause-old g c = may_enter (as_described c.args.desc.now) c.args.s.now.number (shape_of c.args.s.now) (Some c.args.rec.now) c.requires.ready.served c.requires.at c.requires.fits

pub free_slot-requires-clause-few : goal.free_slot-requires-clause-few
free_slot-requires-clause-few g c = (served_at (as_described c.args.desc.now) c.args.s.now.number (shape_of c.args.s.now) c.requires.ready.served c.requires.at).few

pub free_slot-requires-clause-fits : goal.free_slot-requires-clause-fits
free_slot-requires-clause-fits g c = (served_at (as_described c.args.desc.now) c.args.s.now.number (shape_of c.args.s.now) c.requires.ready.served c.requires.at).fits

pub free_slot-requires-clause-number : goal.free_slot-requires-clause-number
free_slot-requires-clause-number g c = slot_low (shape_of c.args.s.now) c.args.number c.requires.one

pub free_slot-requires-clause-most : goal.free_slot-requires-clause-most
free_slot-requires-clause-most g c =
    omega (arith, slot_most (shape_of c.args.s.now) c.args.number c.requires.one, (served_at (as_described c.args.desc.now) c.args.s.now.number (shape_of c.args.s.now) c.requires.ready.served c.requires.at).population)

pub free_slot-requires-clause-next : goal.free_slot-requires-clause-next
free_slot-requires-clause-next g c =
    let s = shape_of c.args.s.now in
    let off = set_off (as_described c.args.desc.now) c.requires.ready.served s.number s.number s c.requires.at (slot_set s c.args.number c.requires.one) in
    omega (arith, c.requires.there, (c.in-Ok-Done.ensures.calm.others s.number off).0)

pub returns-in-Err : goal.returns-in-Err
returns-in-Err g c =
    let desc = as_described c.args.desc.now in
    let s = shape_of c.args.s.now in
    let n = 2 * length c.args.desc.now.structures in
    let long = shapes_long c.args.desc.now.structures in
    strip_failed desc s.number c.args.number s c.args.rec.now n (omega (arith, long)) c.args.over.now c.requires.ready c.requires.at c.requires.one c.in-Err.e c.change.new.lists c.in-Err.ensures.fails c.in-Err.ensures.below

pub returns-in-Ok-Duplicate : goal.returns-in-Ok-Duplicate
returns-in-Ok-Duplicate g c =
    let desc = as_described c.args.desc.now in
    let s = shape_of c.args.s.now in
    let n = 2 * length c.args.desc.now.structures in
    let long = shapes_long c.args.desc.now.structures in
    strip_refused desc s.number c.args.number s c.args.rec.now n (omega (arith, long)) c.args.over.now c.requires.ready c.requires.at c.requires.one c.change.new.lists c.in-Ok-Duplicate.ensures.calm c.in-Ok-Duplicate._set
    (subst (λ (x : SetAnswer). KeepsListed desc s.number c.args.number (Some c.args.rec.now) None (seen_list c.args.over.now) (seen_list c.change.new.lists) x) c.in-Ok-Duplicate.field-0-is c.in-Ok-Duplicate.ensures.kept)

pub returns-in-Err-free_slot : goal.returns-in-Err-free_slot
returns-in-Err-free_slot g c =
    let desc = as_described c.args.desc.now in
    let s = shape_of c.args.s.now in
    let n = 2 * length c.args.desc.now.structures in
    let long = shapes_long c.args.desc.now.structures in
    strip_unfreed desc s.number c.args.number s c.args.rec.now n (omega (arith, long)) c.args.over.now c.requires.ready c.requires.at c.requires.one c.change.new.lists c.in-Ok-Done.ensures.calm c.in-Err-free_slot.e c.free_slot.new.b g.met.B.Blocks.same_then
    c.in-Err-free_slot.ensures.writes c.in-Err-free_slot.ensures.causes

pub returns-in-Ok : goal.returns-in-Ok
returns-in-Ok g c =
    let desc = as_described c.args.desc.now in
    let s = shape_of c.args.s.now in
    let n = 2 * length c.args.desc.now.structures in
    let long = shapes_long c.args.desc.now.structures in
    strip_done desc s.number c.args.number s c.args.rec.now n (omega (arith, long)) c.args.over.now c.requires.ready c.requires.at c.requires.one c.change.new.lists c.in-Ok-Done.ensures.calm c.free_slot.new.b g.met.B.Blocks.same_then
    (g.met.B.Blocks.agrees c.args.over.now.below c.requires.ready.sound) c.requires.there c.requires.was
    (subst (λ (x : SetAnswer). KeepsListed desc s.number c.args.number (Some c.args.rec.now) None (seen_list c.args.over.now) (seen_list c.change.new.lists) x) c.in-Ok-Done.field-0-is c.in-Ok-Done.ensures.kept)
    c.in-Ok.ensures.writes c.in-Ok.ensures.causes c.in-Ok.ensures.seen
