use Rattle.std.proofs.Common.{◌≡◌, Bool, IsTrue, refl, subst, arith}
use Rattle.std.specs.declared.option.Option.TheVariants.{None}
use Rattle.std.specs.declared.result.Result.TheVariants.{Ok, Err}
use Rattle.dms_block.specs.View.{overlay_content, under}
use Rattle.dms_desc.specs.Shape.{as_described, shape_of}
use Rattle.dms_links.specs.Stands.{tally_of}
use Rattle.dms_links.specs.Stepping.{AreSlotFiles}
use Rattle.dms_model.specs.declared.put.Put.{Put}
use Rattle.dms_model.specs.declared.put.Put.TheVariants.{Duplicate, Full}
use Rattle.dms_chain.specs.SeenLaws.{causes_err}
use Rattle.dms_spelling.specs.Staying.{TakenStay, then_stays}
use Rattle.dms_store.specs.Addressed.{FewPlaced}
use Rattle.dms_store.specs.LiftedLaws.{serves_on}
use Rattle.dms_store.specs.Owning.{IfOwned}
use Rattle.dms_store.specs.PuttingAfter.{with_record}
use Rattle.dms_store.specs.PuttingCalls.{few_as, few_causes, few_err, few_then, few_told, few_weaker}
use Rattle.dms_store.specs.PuttingEnters.{IfStored, IsUncounted}
use Rattle.dms_store.specs.PuttingPlaced.{counted_at, may_count_at}
use Rattle.dms_store.specs.Taken.{IfStoredAs}
use Rattle.dms_store.proofs.putting.write_new.Goals as goal

pub returns-in-Err-clause-enters : goal.returns-in-Err-clause-enters
returns-in-Err-clause-enters g c =
    few_weaker (FewPlaced c.args.at.now None c.args.slot.now 1 c.args.over.now) (FewPlaced c.args.at.now None c.args.slot.now 2 c.args.over.now) (Err c.in-Err.e) c.args.over.now c.write_at.new.over (λ n low db o rec p. let le = low db o rec p in omega (arith, le)) c.in-Err.ensures.enters

pub count_owner-requires-clause-sound : goal.count_owner-requires-clause-sound
count_owner-requires-clause-sound g c = c.in-Ok-Stored.ensures.enters.writes.writes.looks.stays.sound

pub count_owner-requires-clause-serves : goal.count_owner-requires-clause-serves
count_owner-requires-clause-serves g c =
    serves_on (as_described c.args.at.now.desc.now) (under c.args.over.now) (under c.write_at.new.over) c.in-Ok-Stored.ensures.enters.writes.writes.looks.passes.lasts c.requires.place.usable.serves

pub returns-in-Ok-Duplicate-clause-enters : goal.returns-in-Ok-Duplicate-clause-enters
returns-in-Ok-Duplicate-clause-enters g c =
    few_weaker (FewPlaced c.args.at.now None c.args.slot.now 1 c.args.over.now) (FewPlaced c.args.at.now None c.args.slot.now 2 c.args.over.now) (Ok (Duplicate c.in-Ok-Duplicate.set)) c.args.over.now c.write_at.new.over (λ n low db o rec p. let le = low db o rec p in omega (arith, le))
    (few_as _ _ c.args.over.now c.write_at.new.over c.in-Ok-Duplicate.ensures.enters)

pub returns-in-Ok-Full-clause-enters : goal.returns-in-Ok-Full-clause-enters
returns-in-Ok-Full-clause-enters g c =
    few_weaker (FewPlaced c.args.at.now None c.args.slot.now 1 c.args.over.now) (FewPlaced c.args.at.now None c.args.slot.now 2 c.args.over.now) (Ok Full) c.args.over.now c.write_at.new.over (λ n low db o rec p. let le = low db o rec p in omega (arith, le))
    (few_as _ _ c.args.over.now c.write_at.new.over c.in-Ok-Full.ensures.enters)

pub returns-in-Err-count_owner-clause-enters : goal.returns-in-Err-count_owner-clause-enters
returns-in-Err-count_owner-clause-enters g c =
    few_err {T = Bool} _ c.in-Err-count_owner.e c.args.over.now c.count_owner.new.over
    (few_then (FewPlaced c.args.at.now None c.args.slot.now 1 c.args.over.now) (FewPlaced c.args.at.now None c.args.slot.now 2 c.args.over.now) 1 (Err c.in-Err-count_owner.e) c.args.over.now c.write_at.new.over c.count_owner.new.over g.met.B.Blocks.same_then
    (λ n low db o rec p. let le = low db o rec p in omega (arith, le)) c.in-Ok-Stored.ensures.enters c.in-Err-count_owner.ensures.writes)

pub returns-in-Err-count_owner-clause-below : goal.returns-in-Err-count_owner-clause-below
returns-in-Err-count_owner-clause-below g c db o rec p =
    let desc = as_described c.args.at.now.desc.now in
    let s = shape_of c.args.at.now.set.now in
    let y = c.write_at.new.over in
    let enters = c.in-Ok-Stored.ensures.enters in
    let told : IsTrue (under y).told = few_told _ c.args.over.now y enters p.told in
    let slots = subst (λ (q : Put). IfOwned s.owner (IfStored q (AreSlotFiles desc (overlay_content y)))) c.in-Ok-Stored.field-0-is (c.in-Ok-Stored.ensures.slots db o rec p) in
    causes_err Bool Put (λ f k. ⊥) (λ f k. ⊥) c.in-Err-count_owner.e (under c.args.over.now) (under c.count_owner.new.over) (λ f k h. h)
    (few_causes {U = Bool} _ (Err c.in-Err-count_owner.e) c.args.over.now y c.count_owner.new.over enters (c.in-Err-count_owner.ensures.below told slots))

pub returns-in-Ok-false-clause-enters : goal.returns-in-Ok-false-clause-enters
returns-in-Ok-false-clause-enters g c =
    few_as _ _ c.args.over.now c.count_owner.new.over
    (few_then (FewPlaced c.args.at.now None c.args.slot.now 1 c.args.over.now) (FewPlaced c.args.at.now None c.args.slot.now 2 c.args.over.now) 1 (Ok c.in-Ok-false.field-0) c.args.over.now c.write_at.new.over c.count_owner.new.over g.met.B.Blocks.same_then
    (λ n low db o rec p. let le = low db o rec p in omega (arith, le)) c.in-Ok-Stored.ensures.enters c.in-Ok-false.ensures.writes)

pub returns-in-Ok-false-clause-entered : goal.returns-in-Ok-false-clause-entered
returns-in-Ok-false-clause-entered g c db o rec p owner =
    let desc = as_described c.args.at.now.desc.now in
    let s = shape_of c.args.at.now.set.now in
    let a = c.args.over.now in
    let y = c.write_at.new.over in
    let agrees = g.met.B.Blocks.agrees a.below c.requires.place.usable.sound in
    let told : IsTrue (under y).told = few_told _ a y c.in-Ok-Stored.ensures.enters p.told in
    let u = subst (λ (q : Put). IsUncounted desc db s.number c.args.at.now.number c.args.slot.now.rec (overlay_content y) q) c.in-Ok-Stored.field-0-is (c.in-Ok-Stored.ensures.entered db o rec p owner) in
    let may = may_count_at desc a c.requires.place.usable agrees s c.args.at.now.number c.requires.place.there c.requires.place.set c.requires.place.low c.requires.place.most c.args.slot.now c.requires.new None db o rec p refl owner in
    let done = (c.in-Ok-false.ensures.counted (with_record db s.number c.args.at.now.number c.args.slot.now.rec) (tally_of desc db) told u.2 (λ apart. may)).0 in
    absurd (cc (done, c.in-Ok-false.field-0-test))

pub returns-in-Ok-true-clause-enters : goal.returns-in-Ok-true-clause-enters
returns-in-Ok-true-clause-enters g c =
    few_as _ _ c.args.over.now c.count_owner.new.over
    (few_then (FewPlaced c.args.at.now None c.args.slot.now 1 c.args.over.now) (FewPlaced c.args.at.now None c.args.slot.now 2 c.args.over.now) 1 (Ok c.in-Ok-true.field-0) c.args.over.now c.write_at.new.over c.count_owner.new.over g.met.B.Blocks.same_then
    (λ n low db o rec p. let le = low db o rec p in omega (arith, le)) c.in-Ok-Stored.ensures.enters c.in-Ok-true.ensures.writes)

pub returns-in-Ok-true-clause-entered : goal.returns-in-Ok-true-clause-entered
returns-in-Ok-true-clause-entered g c db o rec p owner =
    let desc = as_described c.args.at.now.desc.now in
    let s = shape_of c.args.at.now.set.now in
    let a = c.args.over.now in
    let y = c.write_at.new.over in
    let agrees = g.met.B.Blocks.agrees a.below c.requires.place.usable.sound in
    let told : IsTrue (under y).told = few_told _ a y c.in-Ok-Stored.ensures.enters p.told in
    let u = subst (λ (q : Put). IsUncounted desc db s.number c.args.at.now.number c.args.slot.now.rec (overlay_content y) q) c.in-Ok-Stored.field-0-is (c.in-Ok-Stored.ensures.entered db o rec p owner) in
    let may = may_count_at desc a c.requires.place.usable agrees s c.args.at.now.number c.requires.place.there c.requires.place.set c.requires.place.low c.requires.place.most c.args.slot.now c.requires.new None db o rec p refl owner in
    let counted = (c.in-Ok-true.ensures.counted (with_record db s.number c.args.at.now.number c.args.slot.now.rec) (tally_of desc db) told u.2 (λ apart. may)).1 in
    (u.0, u.1, counted_at desc a c.requires.place.usable agrees s c.args.at.now.number c.requires.place.there c.requires.place.set c.requires.place.low c.requires.place.most c.args.slot.now c.requires.new None db o rec p refl owner (overlay_content c.count_owner.new.over) counted)

pub returns-in-Ok-true-clause-taken : goal.returns-in-Ok-true-clause-taken
returns-in-Ok-true-clause-taken g c told =
    let desc = as_described c.args.at.now.desc.now in
    let a = c.args.over.now in
    let y = c.write_at.new.over in
    let z = c.count_owner.new.over in
    let told_y : IsTrue (under y).told = few_told _ a y c.in-Ok-Stored.ensures.enters told in
    let stored = subst (λ (q : Put). IfStoredAs q (λ n. (n ≡ c.args.at.now.number) × TakenStay desc (overlay_content a) (overlay_content y))) c.in-Ok-Stored.field-0-is (c.in-Ok-Stored.ensures.taken told) in
    (stored.0, then_stays desc (overlay_content a) (overlay_content y) (overlay_content z) stored.1 (c.in-Ok-true.ensures.taken told_y))
