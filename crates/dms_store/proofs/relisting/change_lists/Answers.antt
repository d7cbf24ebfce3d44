use Rattle.std.proofs.Common.{◌≡◌, ◌∙◌, ◌+◌, ◌*◌, ℕ, suc, Option, Some, None, Err, refl, sym, ap, subst, length, arith}
use Rattle.std.specs.Option.{option_copied}
use Rattle.std.specs.Prelude.{IfSome}
use Rattle.dms_block.specs.HeldLaws.{causes_or_on}
use Rattle.dms_block.specs.View.{overlay_content, under}
use Rattle.dms_desc.specs.Lookups.{structure_of}
use Rattle.dms_desc.specs.Shape.{Described, Shape, as_described, shape_of}
use Rattle.dms_desc.specs.declared.record.Record.{Record}
use Rattle.dms_links.specs.Linking.{structure_here}
use Rattle.dms_manual.specs.Following.{MayBeEntered, is_moved}
use Rattle.dms_model.specs.Fitting.{RecordFits}
use Rattle.dms_model.specs.Strict.{lesser}
use Rattle.dms_sets.specs.Changes.{has_number}
use Rattle.dms_spelling.specs.Calls.{fails_writes}
use Rattle.dms_spelling.specs.Holds.{may_be_entered, may_enter}
use Rattle.dms_spelling.specs.Serving.{IsServed}
use Rattle.dms_store.specs.LiftedLaws.{file_served}
use Rattle.dms_store.specs.PuttingCalls.{few_of}
use Rattle.dms_store.specs.PuttingLists.{ListsLeft, below_of, both_fail, both_stay, both_write, lists_left, moves_few, set_listed, set_stands}
use Rattle.dms_store.proofs.relisting.change_lists.Goals as goal

-- the record that is replaced may have an entry in each manual subset
old_entered : (desc : Described) (s : Shape) (o : Option Record) → IsServed desc → structure_of desc s.number ≡ Some s → IfSome o (RecordFits desc s.number) → IfSome o (MayBeEntered desc s.number)
old_entered desc s None served at fits = tt
old_entered desc s (Some x) served at fits = may_be_entered desc s.number s x served at fits

pub change-requires-clause-usable : goal.change-requires-clause-usable
change-requires-clause-usable g c k s at over =
    let desc = as_described c.args.at.now.desc.now in
    (c.requires.usable.sound, file_served desc (under c.args.over.now) (suc k) s c.requires.usable.serves (structure_here desc.structures k s at))

pub change-requires-clause-old : goal.change-requires-clause-old
change-requires-clause-old g c = may_enter (as_described c.args.at.now.desc.now) c.args.at.now.set.now.number (shape_of c.args.at.now.set.now) (option_copied c.args.old) c.requires.usable.serves.served c.requires.there c.requires.old

pub change-requires-clause-new : goal.change-requires-clause-new
change-requires-clause-new g c = may_enter (as_described c.args.at.now.desc.now) c.args.at.now.set.now.number (shape_of c.args.at.now.set.now) (Some c.args.new.now) c.requires.usable.serves.served c.requires.there c.requires.new

pub move_entries-requires-clause-usable : goal.move_entries-requires-clause-usable
move_entries-requires-clause-usable g c k s at own =
    let desc = as_described c.args.at.now.desc.now in
    c.in-Ok.ensures.usable s.number (c.requires.usable.sound, file_served desc (under c.args.over.now) (suc k) s c.requires.usable.serves (structure_here desc.structures k s at))

pub move_entries-requires-clause-old : goal.move_entries-requires-clause-old
move_entries-requires-clause-old g c = old_entered (as_described c.args.at.now.desc.now) (shape_of c.args.at.now.set.now) (option_copied c.args.old) c.requires.usable.serves.served c.requires.there c.requires.old

pub move_entries-requires-clause-new : goal.move_entries-requires-clause-new
move_entries-requires-clause-new g c = may_be_entered (as_described c.args.at.now.desc.now) c.args.at.now.set.now.number (shape_of c.args.at.now.set.now) c.args.new.now c.requires.usable.serves.served c.requires.there c.requires.new

pub returns-in-Err-clause-writes : goal.returns-in-Err-clause-writes
returns-in-Err-clause-writes g c =
    let desc = as_described c.args.at.now.desc.now in
    let s = shape_of c.args.at.now.set.now in
    let a = c.args.over.now in
    let b = c.change.new.lists in
    let o = option_copied c.args.old in
    let n = 2 * length c.args.at.now.desc.now.structures in
    few_of _ (22 * n) (Err c.in-Err.e) a b (λ db told spelt was. omega arith) (fails_writes {T = Option ℕ} c.in-Err.e n (22 * n) a b c.requires.usable.sound (omega arith) c.in-Err.ensures.fails)

pub returns-in-Err-clause-below : goal.returns-in-Err-clause-below
returns-in-Err-clause-below g c db told spelt was =
    let desc = as_described c.args.at.now.desc.now in
    let s = shape_of c.args.at.now.set.now in
    let a = c.args.over.now in
    let b = c.change.new.lists in
    let o = option_copied c.args.old in
    let n = 2 * length c.args.at.now.desc.now.structures in
    c.in-Err.ensures.below db (set_stands desc a c.requires.usable s c.args.at.now.number c.requires.there c.requires.small o c.args.new.now c.requires.new db told spelt was) (set_listed desc a c.requires.usable s c.args.at.now.number c.requires.there c.requires.small o c.args.new.now c.requires.new db told spelt was) c.requires.usable.sound

pub returns-in-Err-move_entries-clause-writes : goal.returns-in-Err-move_entries-clause-writes
returns-in-Err-move_entries-clause-writes g c =
    let desc = as_described c.args.at.now.desc.now in
    let s = shape_of c.args.at.now.set.now in
    let a = c.args.over.now in
    let b = c.change.new.lists in
    let o = option_copied c.args.old in
    let n = 2 * length c.args.at.now.desc.now.structures in
    let z = c.move_entries.new.over in
    let made = c.in-Err-move_entries.ensures.fails in
    few_of _ (22 * (n + made.count)) (Err c.in-Err-move_entries.e) a z (λ db told spelt was. omega (arith, moves_few desc a c.requires.usable s c.args.at.now.number c.requires.there c.requires.small o c.args.new.now c.requires.new db told spelt was b n c.in-Ok.ensures.calm made.count made.low))
    (both_fail g.met.B.Blocks.same_then c.in-Err-move_entries.e (has_number desc.structures s.number) n made.count a b z c.requires.usable.sound c.in-Ok.ensures.calm made.did)

pub returns-in-Err-move_entries-clause-below : goal.returns-in-Err-move_entries-clause-below
returns-in-Err-move_entries-clause-below g c db told spelt was =
    let desc = as_described c.args.at.now.desc.now in
    let s = shape_of c.args.at.now.set.now in
    let a = c.args.over.now in
    let b = c.change.new.lists in
    let o = option_copied c.args.old in
    let n = 2 * length c.args.at.now.desc.now.structures in
    let z = c.move_entries.new.over in
    let e = c.in-Err-move_entries.e in
    let calm = c.in-Ok.ensures.calm in
    let looks = calm.looks c.requires.usable.sound in
    causes_or_on {T = Unit {0}} (λ f k. ⊥) (λ f k. ⊥) (Err e) (under a) (under b) (under z) (λ f k h. h) calm.faults looks.passes.lasts looks.same
    (below_of desc a c.requires.usable s c.args.at.now.number c.requires.there c.requires.small o c.args.new.now c.requires.new db told spelt was b n calm o refl e z c.in-Err-move_entries.ensures.below looks.stays.sound)

pub returns-in-Ok-move_entries-clause-writes : goal.returns-in-Ok-move_entries-clause-writes
returns-in-Ok-move_entries-clause-writes g c =
    let desc = as_described c.args.at.now.desc.now in
    let s = shape_of c.args.at.now.set.now in
    let a = c.args.over.now in
    let b = c.change.new.lists in
    let o = option_copied c.args.old in
    let n = 2 * length c.args.at.now.desc.now.structures in
    let z = c.move_entries.new.over in
    let made = c.in-Ok-move_entries.ensures.calm in
    few_of _ (22 * (n + made.count)) _ a z (λ db told spelt was. omega (arith, moves_few desc a c.requires.usable s c.args.at.now.number c.requires.there c.requires.small o c.args.new.now c.requires.new db told spelt was b n c.in-Ok.ensures.calm made.count made.low))
    (both_write g.met.B.Blocks.same_then (has_number desc.structures s.number) (is_moved desc s.number) n made.count c.lesser.result a b z c.requires.usable.sound c.in-Ok.ensures.calm made.did)

pub returns-in-Ok-move_entries-clause-stays : goal.returns-in-Ok-move_entries-clause-stays
returns-in-Ok-move_entries-clause-stays g c =
    let made = c.in-Ok-move_entries.ensures.calm in
    both_stay (as_described c.args.at.now.desc.now) c.args.over.now c.change.new.lists c.move_entries.new.over c.requires.usable c.args.at.now.set.now.number (2 * length c.args.at.now.desc.now.structures) made.count c.in-Ok.ensures.calm made.did

pub returns-in-Ok-move_entries-clause-lists : goal.returns-in-Ok-move_entries-clause-lists
returns-in-Ok-move_entries-clause-lists g c db told spelt was =
    let desc = as_described c.args.at.now.desc.now in
    let s = shape_of c.args.at.now.set.now in
    let a = c.args.over.now in
    let b = c.change.new.lists in
    let o = option_copied c.args.old in
    let n = 2 * length c.args.at.now.desc.now.structures in
    let z = c.move_entries.new.over in
    let made = c.in-Ok-move_entries.ensures.calm in
    let second = c.in-Ok-move_entries.second in
    let kept = c.in-Ok.ensures.kept db (set_stands desc a c.requires.usable s c.args.at.now.number c.requires.there c.requires.small o c.args.new.now c.requires.new db told spelt was) (set_listed desc a c.requires.usable s c.args.at.now.number c.requires.there c.requires.small o c.args.new.now c.requires.new db told spelt was) in
    subst (λ (x : Option ℕ). ListsLeft desc db s.number c.args.at.now.number c.args.new.now (overlay_content a) (overlay_content z) x) (sym (c.lesser.ensures ∙ ap (λ (x : Option ℕ). lesser x second) c.set_refusal.ensures))
    (lists_left desc a c.requires.usable s c.args.at.now.number c.requires.there c.requires.small o c.args.new.now c.requires.new db told spelt was b n c.in-Ok.ensures.calm c.in-Ok.answer kept z made.count made.did second c.in-Ok-move_entries.ensures.moved)
