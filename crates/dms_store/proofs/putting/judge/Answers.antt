use Rattle.std.proofs.Common.{ℕ, Option, None, Err, arith}
use Rattle.dms_block.specs.View.{overlay_content}
use Rattle.dms_desc.specs.Shape.{as_described, shape_of}
use Rattle.dms_spelling.specs.ServingLaws.{served_at}
use Rattle.dms_store.specs.Addressed.{FewLists, FewStored}
use Rattle.dms_store.specs.PuttingCalls.{few_as, few_err, few_weaker}
use Rattle.dms_store.specs.PuttingPlaced.{after_fits, full_none, none_there, refused_none}
use Rattle.dms_store.specs.PuttingSpent.{stored_new}
use Rattle.dms_store.specs.PuttingStore.{some_structure}
use Rattle.dms_store.proofs.putting.judge.Goals as goal

pub change_lists-requires-clause-small : goal.change_lists-requires-clause-small
change_lists-requires-clause-small g c =
    let s = shape_of c.args.at.now.set.now in
    omega (arith, c.requires.above, (served_at (as_described c.args.at.now.desc.now) s.number s c.requires.usable.serves.served c.requires.at).population)

pub change_lists-requires-clause-new : goal.change_lists-requires-clause-new
change_lists-requires-clause-new g c =
    let s = shape_of c.args.at.now.set.now in
    after_fits (as_described c.args.at.now.desc.now) s.number s None c.args.rec.now c.in_ok-slot.slot c.requires.at tt c.requires.new c.in_ok-slot.ensures

pub returns-in-Err-clause-below : goal.returns-in-Err-clause-below
returns-in-Err-clause-below g c db told spelt =
    let desc = as_described c.args.at.now.desc.now in
    let s = shape_of c.args.at.now.set.now in
    c.in-Err.ensures.below db told spelt
    (none_there desc c.args.over.now c.requires.usable s c.args.at.now.number c.requires.at c.requires.set c.requires.above c.in_ok-slot.slot c.args.rec.now c.in_ok-slot.ensures c.requires.new db told spelt)

pub returns-in-Ok-Some-clause-judged : goal.returns-in-Ok-Some-clause-judged
returns-in-Ok-Some-clause-judged g c db told spelt =
    let desc = as_described c.args.at.now.desc.now in
    let s = shape_of c.args.at.now.set.now in
    let a = c.args.over.now in
    let none = none_there desc a c.requires.usable s c.args.at.now.number c.requires.at c.requires.set c.requires.above c.in_ok-slot.slot c.args.rec.now c.in_ok-slot.ensures c.requires.new db told spelt in
    refused_none desc a c.requires.usable s c.args.at.now.number c.requires.at c.requires.set c.requires.above c.in_ok-slot.slot c.args.rec.now c.in_ok-slot.ensures c.requires.new db told spelt (overlay_content a) (overlay_content c.change_lists.new.over) _ c.in-Ok-Some.structure
    (c.in-Ok-Some.ensures.lists db told spelt none) c.in-Ok-Some.field-0-is

pub returns-clause-judged : goal.returns-clause-judged
returns-clause-judged g c db told spelt =
    let desc = as_described c.args.at.now.desc.now in
    let s = shape_of c.args.at.now.set.now in
    let a = c.args.over.now in
    let none = none_there desc a c.requires.usable s c.args.at.now.number c.requires.at c.requires.set c.requires.above c.in_ok-slot.slot c.args.rec.now c.in_ok-slot.ensures c.requires.new db told spelt in
    full_none desc a c.requires.usable s c.args.at.now.number c.requires.at c.requires.set c.requires.above c.in_ok-slot.slot c.args.rec.now c.in_ok-slot.ensures c.requires.new db told spelt (overlay_content a) (overlay_content c.change_lists.new.over) _
    (c.in-Ok-None.ensures.lists db told spelt none) c.in-Ok-None.field-0-is

pub returns-in-Err-clause-enters : goal.returns-in-Err-clause-enters
returns-in-Err-clause-enters g c =
    let desc = as_described c.args.at.now.desc.now in
    let s = shape_of c.args.at.now.set.now in
    let a = c.args.over.now in
    let z = c.change_lists.new.over in
    few_err {T = Option ℕ} _ c.in-Err.e a z
    (few_weaker (FewLists c.args.at.now None a) (FewStored desc s.number None a) (Err c.in-Err.e) a z
    (λ n low db told spelt.
    let none = none_there desc a c.requires.usable s c.args.at.now.number c.requires.at c.requires.set c.requires.above c.in_ok-slot.slot c.args.rec.now c.in_ok-slot.ensures c.requires.new db told spelt in
    let le = low db told spelt none in
    stored_new c.args.at.now n (some_structure desc s.number s c.requires.at) db (omega (arith, le)))
    c.in-Err.ensures.writes)

pub returns-in-Ok-Some-clause-enters : goal.returns-in-Ok-Some-clause-enters
returns-in-Ok-Some-clause-enters g c =
    let desc = as_described c.args.at.now.desc.now in
    let s = shape_of c.args.at.now.set.now in
    let a = c.args.over.now in
    let z = c.change_lists.new.over in
    few_as _ _ a z
    (few_weaker (FewLists c.args.at.now None a) (FewStored desc s.number None a) _ a z
    (λ n low db told spelt.
    let none = none_there desc a c.requires.usable s c.args.at.now.number c.requires.at c.requires.set c.requires.above c.in_ok-slot.slot c.args.rec.now c.in_ok-slot.ensures c.requires.new db told spelt in
    let le = low db told spelt none in
    stored_new c.args.at.now n (some_structure desc s.number s c.requires.at) db (omega (arith, le)))
    c.in-Ok-Some.ensures.writes)

pub returns-clause-enters : goal.returns-clause-enters
returns-clause-enters g c =
    let desc = as_described c.args.at.now.desc.now in
    let s = shape_of c.args.at.now.set.now in
    let a = c.args.over.now in
    let z = c.change_lists.new.over in
    few_as _ _ a z
    (few_weaker (FewLists c.args.at.now None a) (FewStored desc s.number None a) _ a z
    (λ n low db told spelt.
    let none = none_there desc a c.requires.usable s c.args.at.now.number c.requires.at c.requires.set c.requires.above c.in_ok-slot.slot c.args.rec.now c.in_ok-slot.ensures c.requires.new db told spelt in
    let le = low db told spelt none in
    stored_new c.args.at.now n (some_structure desc s.number s c.requires.at) db (omega (arith, le)))
    c.in-Ok-None.ensures.writes)
