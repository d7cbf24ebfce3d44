use Rattle.std.proofs.Common.{◌∙◌, ◌≤◌, ℕ, Bool, IsTrue, Option, refl, subst, sym, length, arith}
use Rattle.std.specs.Option.{option_copied}
use Rattle.std.specs.declared.result.Result.TheVariants.{Ok, Err}
use Rattle.dms_block.specs.HeldLaws.{causes_or_on}
use Rattle.dms_block.specs.View.{overlay_content, under}
use Rattle.dms_block.specs.ViewLaws.{counts_seen}
use Rattle.dms_desc.specs.Files.{file_of}
use Rattle.dms_desc.specs.Shape.{as_described, shape_of}
use Rattle.dms_slots.specs.Seen.{BadAt}
use Rattle.dms_slots.specs.SlotBlocks.{block_of}
use Rattle.dms_spelling.specs.Grown.{set_no_list}
use Rattle.dms_spelling.specs.Holds.{have_slots}
use Rattle.dms_spelling.specs.ServingLaws.{served_at}
use Rattle.dms_spelling.specs.Staying.{put_stays, then_stays}
use Rattle.dms_store.specs.Addressed.{FewLists, FewPlaced}
use Rattle.dms_store.specs.LiftedLaws.{file_served}
use Rattle.dms_store.specs.PuttingCalls.{few_as, few_err, few_then, few_weaker, slots_put}
use Rattle.dms_store.specs.PuttingPlaced.{few_numbers, not_bad, number_fits, old_at, refused_at, slots_at, uncounted_at, values_all}
use Rattle.dms_store.specs.TakenLaws.{lists_may, lists_stay}
use Rattle.dms_store.proofs.putting.write_at.Goals as goal

pub change_lists-requires-clause-small : goal.change_lists-requires-clause-small
change_lists-requires-clause-small g c =
    let few = few_numbers (as_described c.args.at.now.desc.now) c.args.at.now.set.now.number c.args.at.now.number (shape_of c.args.at.now.set.now) c.requires.place.usable.serves.served c.requires.place.there c.requires.place.most in
    omega (arith, few)

pub write_slot-requires-clause-sound : goal.write_slot-requires-clause-sound
write_slot-requires-clause-sound g c = c.in-Ok-None.ensures.writes.writes.writes.looks.stays.sound

pub write_slot-requires-clause-owned : goal.write_slot-requires-clause-owned
write_slot-requires-clause-owned g c =
    let s = shape_of c.args.at.now.set.now in
    subst (λ (owns : ℕ → Bool). IsTrue (owns (file_of s.number))) (sym c.in-Ok-None.ensures.writes.writes.writes.looks.passes.lasts.owns) (file_served (as_described c.args.at.now.desc.now) (under c.args.over.now) s.number s c.requires.place.usable.serves c.requires.place.there)

pub write_slot-requires-clause-few : goal.write_slot-requires-clause-few
write_slot-requires-clause-few g c = (served_at (as_described c.args.at.now.desc.now) c.args.at.now.set.now.number (shape_of c.args.at.now.set.now) c.requires.place.usable.serves.served c.requires.place.there).few

pub write_slot-requires-clause-fits : goal.write_slot-requires-clause-fits
write_slot-requires-clause-fits g c = (served_at (as_described c.args.at.now.desc.now) c.args.at.now.set.now.number (shape_of c.args.at.now.set.now) c.requires.place.usable.serves.served c.requires.place.there).fits

pub write_slot-requires-clause-most : goal.write_slot-requires-clause-most
write_slot-requires-clause-most g c = few_numbers (as_described c.args.at.now.desc.now) c.args.at.now.set.now.number c.args.at.now.number (shape_of c.args.at.now.set.now) c.requires.place.usable.serves.served c.requires.place.there c.requires.place.most

pub write_slot-requires-clause-next : goal.write_slot-requires-clause-next
write_slot-requires-clause-next g c =
    let s = shape_of c.args.at.now.set.now in
    omega (arith, c.requires.place.next, (c.in-Ok-None.ensures.stays s.number (set_no_list (as_described c.args.at.now.desc.now) s.number s c.requires.place.there c.requires.place.set)).0)

pub write_slot-requires-clause-values : goal.write_slot-requires-clause-values
write_slot-requires-clause-values g c = values_all (as_described c.args.at.now.desc.now) c.args.at.now.set.now.number (shape_of c.args.at.now.set.now) c.args.slot.now.rec c.requires.place.there c.requires.new

pub returns-in-Err-clause-enters : goal.returns-in-Err-clause-enters
returns-in-Err-clause-enters g c =
    let desc = as_described c.args.at.now.desc.now in
    let s = shape_of c.args.at.now.set.now in
    let a = c.args.over.now in
    let agrees = g.met.B.Blocks.agrees a.below c.requires.place.usable.sound in
    few_err {T = Option ℕ} _ c.in-Err.e a c.change_lists.new.over
    (few_weaker (FewLists c.args.at.now (option_copied c.args.old) a) (FewPlaced c.args.at.now (option_copied c.args.old) c.args.slot.now 1 a) (Err c.in-Err.e) a c.change_lists.new.over
    (λ n low db o rec p. let le = low db p.told p.spelt (old_at desc a c.requires.place.usable agrees s c.args.at.now.number c.requires.place.there c.requires.place.set c.requires.place.low c.requires.place.most c.args.slot.now c.requires.new (option_copied c.args.old) db o rec p) in omega (arith, le))
    c.in-Err.ensures.writes)

pub returns-in-Err-clause-below : goal.returns-in-Err-clause-below
returns-in-Err-clause-below g c db o rec p =
    let desc = as_described c.args.at.now.desc.now in
    let s = shape_of c.args.at.now.set.now in
    let agrees = g.met.B.Blocks.agrees c.args.over.now.below c.requires.place.usable.sound in
    c.in-Err.ensures.below db p.told p.spelt
    (old_at desc c.args.over.now c.requires.place.usable agrees s c.args.at.now.number c.requires.place.there c.requires.place.set c.requires.place.low c.requires.place.most c.args.slot.now c.requires.new (option_copied c.args.old) db o rec p)

pub returns-in-Ok-Some-clause-enters : goal.returns-in-Ok-Some-clause-enters
returns-in-Ok-Some-clause-enters g c =
    let desc = as_described c.args.at.now.desc.now in
    let s = shape_of c.args.at.now.set.now in
    let a = c.args.over.now in
    let agrees = g.met.B.Blocks.agrees a.below c.requires.place.usable.sound in
    few_as _ _ a c.change_lists.new.over
    (few_weaker (FewLists c.args.at.now (option_copied c.args.old) a) (FewPlaced c.args.at.now (option_copied c.args.old) c.args.slot.now 1 a) _ a c.change_lists.new.over
    (λ n low db o rec p. let le = low db p.told p.spelt (old_at desc a c.requires.place.usable agrees s c.args.at.now.number c.requires.place.there c.requires.place.set c.requires.place.low c.requires.place.most c.args.slot.now c.requires.new (option_copied c.args.old) db o rec p) in omega (arith, le))
    c.in-Ok-Some.ensures.writes)

pub returns-in-Ok-Some-clause-entered : goal.returns-in-Ok-Some-clause-entered
returns-in-Ok-Some-clause-entered g c db o rec p owner =
    let desc = as_described c.args.at.now.desc.now in
    let s = shape_of c.args.at.now.set.now in
    let agrees = g.met.B.Blocks.agrees c.args.over.now.below c.requires.place.usable.sound in
    let was = old_at desc c.args.over.now c.requires.place.usable agrees s c.args.at.now.number c.requires.place.there c.requires.place.set c.requires.place.low c.requires.place.most c.args.slot.now c.requires.new (option_copied c.args.old) db o rec p in
    refused_at desc c.args.over.now c.requires.place.usable agrees s c.args.at.now.number c.requires.place.there c.requires.place.set c.requires.place.low c.requires.place.most c.args.slot.now c.requires.new (option_copied c.args.old) db o rec p c.change_lists.new.over _ c.in-Ok-Some.structure
    (c.in-Ok-Some.ensures.lists db p.told p.spelt was) c.in-Ok-Some.field-0-is

pub returns-in-Err-write_slot-clause-enters : goal.returns-in-Err-write_slot-clause-enters
returns-in-Err-write_slot-clause-enters g c =
    let desc = as_described c.args.at.now.desc.now in
    let s = shape_of c.args.at.now.set.now in
    let a = c.args.over.now in
    let b = c.change_lists.new.over in
    let agrees = g.met.B.Blocks.agrees a.below c.requires.place.usable.sound in
    few_err {T = Unit {0}} _ c.in-Err-write_slot.e a c.write_slot.new.b
    (few_then (FewLists c.args.at.now (option_copied c.args.old) a) (FewPlaced c.args.at.now (option_copied c.args.old) c.args.slot.now 1 a) 1 (Err c.in-Err-write_slot.e) a b c.write_slot.new.b g.met.B.Blocks.same_then
    (λ n low db o rec p. let le = low db p.told p.spelt (old_at desc a c.requires.place.usable agrees s c.args.at.now.number c.requires.place.there c.requires.place.set c.requires.place.low c.requires.place.most c.args.slot.now c.requires.new (option_copied c.args.old) db o rec p) in omega (arith, le))
    c.in-Ok-None.ensures.writes (slots_put 1 (BadAt s (block_of s.items c.args.at.now.number) b) (Err c.in-Err-write_slot.e) b c.write_slot.new.b c.in-Err-write_slot.ensures.writes c.in-Err-write_slot.ensures.causes))

pub returns-in-Err-write_slot-clause-below : goal.returns-in-Err-write_slot-clause-below
returns-in-Err-write_slot-clause-below g c db o rec p =
    let desc = as_described c.args.at.now.desc.now in
    let s = shape_of c.args.at.now.set.now in
    let a = c.args.over.now in
    let b = c.change_lists.new.over in
    let agrees = g.met.B.Blocks.agrees a.below c.requires.place.usable.sound in
    let writes = c.in-Ok-None.ensures.writes.writes in
    let told : IsTrue (under b).told = writes.writes.looks.passes.lasts.told ∙ p.told in
    causes_or_on {T = Unit {0}} (BadAt s (block_of s.items c.args.at.now.number) b) (λ f k. ⊥) (Err c.in-Err-write_slot.e) (under a) (under b) (under c.write_slot.new.b)
    (λ f k bad. not_bad desc a c.requires.place.usable agrees s c.args.at.now.number c.requires.place.there c.requires.place.set c.requires.place.low c.requires.place.most c.args.slot.now c.requires.new (option_copied c.args.old) db o rec p b c.in-Ok-None.ensures.stays told (block_of s.items c.args.at.now.number) f k bad)
    writes.causes writes.writes.looks.passes.lasts writes.writes.looks.same c.in-Err-write_slot.ensures.causes

pub returns-in-Ok-clause-enters : goal.returns-in-Ok-clause-enters
returns-in-Ok-clause-enters g c =
    let desc = as_described c.args.at.now.desc.now in
    let s = shape_of c.args.at.now.set.now in
    let a = c.args.over.now in
    let b = c.change_lists.new.over in
    let agrees = g.met.B.Blocks.agrees a.below c.requires.place.usable.sound in
    few_as _ _ a c.write_slot.new.b
    (few_then (FewLists c.args.at.now (option_copied c.args.old) a) (FewPlaced c.args.at.now (option_copied c.args.old) c.args.slot.now 1 a) 1 (Ok tt) a b c.write_slot.new.b g.met.B.Blocks.same_then
    (λ n low db o rec p. let le = low db p.told p.spelt (old_at desc a c.requires.place.usable agrees s c.args.at.now.number c.requires.place.there c.requires.place.set c.requires.place.low c.requires.place.most c.args.slot.now c.requires.new (option_copied c.args.old) db o rec p) in omega (arith, le))
    c.in-Ok-None.ensures.writes (slots_put 1 (BadAt s (block_of s.items c.args.at.now.number) b) (Ok tt) b c.write_slot.new.b c.in-Ok.ensures.writes c.in-Ok.ensures.causes))

pub returns-in-Ok-clause-slots : goal.returns-in-Ok-clause-slots
returns-in-Ok-clause-slots g c db o rec p apart =
    let desc = as_described c.args.at.now.desc.now in
    let s = shape_of c.args.at.now.set.now in
    let a = c.args.over.now in
    let b = c.change_lists.new.over in
    let agrees = g.met.B.Blocks.agrees a.below c.requires.place.usable.sound in
    let told : IsTrue (under b).told = c.in-Ok-None.ensures.writes.writes.writes.looks.passes.lasts.told ∙ p.told in
    let was = old_at desc a c.requires.place.usable agrees s c.args.at.now.number c.requires.place.there c.requires.place.set c.requires.place.low c.requires.place.most c.args.slot.now c.requires.new (option_copied c.args.old) db o rec p in
    slots_at desc a c.requires.place.usable agrees s c.args.at.now.number c.requires.place.there c.requires.place.set c.requires.place.low c.requires.place.most c.args.slot.now c.requires.new (option_copied c.args.old) db o rec p b c.in-Ok-None.ensures.stays c.write_slot.new.b
    c.requires.place.next (c.in-Ok.ensures.seen told) _ (c.in-Ok-None.ensures.lists db p.told p.spelt was) c.in-Ok-None.field-0-is apart

pub returns-in-Ok-clause-entered : goal.returns-in-Ok-clause-entered
returns-in-Ok-clause-entered g c db o rec p owner =
    let desc = as_described c.args.at.now.desc.now in
    let s = shape_of c.args.at.now.set.now in
    let a = c.args.over.now in
    let b = c.change_lists.new.over in
    let agrees = g.met.B.Blocks.agrees a.below c.requires.place.usable.sound in
    let told : IsTrue (under b).told = c.in-Ok-None.ensures.writes.writes.writes.looks.passes.lasts.told ∙ p.told in
    let was = old_at desc a c.requires.place.usable agrees s c.args.at.now.number c.requires.place.there c.requires.place.set c.requires.place.low c.requires.place.most c.args.slot.now c.requires.new (option_copied c.args.old) db o rec p in
    uncounted_at desc a c.requires.place.usable agrees s c.args.at.now.number c.requires.place.there c.requires.place.set c.requires.place.low c.requires.place.most c.args.slot.now c.requires.new (option_copied c.args.old) db o rec p b c.in-Ok-None.ensures.stays c.write_slot.new.b
    c.requires.place.next (c.in-Ok.ensures.seen told) _ (c.in-Ok-None.ensures.lists db p.told p.spelt was) c.in-Ok-None.field-0-is owner

pub returns-in-Ok-clause-fits : goal.returns-in-Ok-clause-fits
returns-in-Ok-clause-fits g c = number_fits (as_described c.args.at.now.desc.now) c.args.at.now.set.now.number c.args.at.now.number (shape_of c.args.at.now.set.now) c.requires.place.there c.requires.place.low c.requires.place.most

pub returns-in-Ok-clause-taken : goal.returns-in-Ok-clause-taken
returns-in-Ok-clause-taken g c told =
    let desc = as_described c.args.at.now.desc.now in
    let s = shape_of c.args.at.now.set.now in
    let n = c.args.at.now.number in
    let a = c.args.over.now in
    let b = c.change_lists.new.over in
    let z = c.write_slot.new.b in
    let served = c.requires.place.usable.serves.served in
    let agrees = g.met.B.Blocks.agrees a.below c.requires.place.usable.sound in
    let stays = c.in-Ok-None.ensures.stays in
    let told_b : IsTrue (under b).told = c.in-Ok-None.ensures.writes.writes.writes.looks.passes.lasts.told ∙ told in
    let next : block_of s.items n ≤ length (overlay_content a (file_of s.number)) = omega (arith, c.requires.place.next, counts_seen a agrees told (file_of s.number)) in
    let may = lists_may desc served s c.requires.place.there c.requires.place.set n a b told stays c.requires.place.low next (c.requires.sound told) in
    let values = values_all desc s.number s c.args.slot.now.rec c.requires.place.there c.requires.new in (
      refl,
      then_stays desc (overlay_content a) (overlay_content b) (overlay_content z) (lists_stay desc served s c.requires.place.there c.requires.place.set n a b told stays)
          (put_stays desc s n c.args.slot.now (overlay_content b) (overlay_content z) (have_slots desc served) c.requires.place.there may values (c.in-Ok.ensures.seen told_b)),
    )
