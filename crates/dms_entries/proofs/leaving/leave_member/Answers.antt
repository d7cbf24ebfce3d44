use Rattle.std.proofs.Common.{◌≡◌, ◌==◌, ◌∙◌, Bool, ap, subst}
use Rattle.std.specs.declared.result.Result.TheVariants.{Ok}
use Rattle.dms_desc.specs.Shape.{as_described, shape_of}
use Rattle.dms_sets.specs.Entries.{kinds_of}
use Rattle.dms_sets.specs.Sets.{kinds_over}
use Rattle.dms_spelling.specs.Ready.{holds_sets}
use Rattle.dms_entries.specs.Calls.{ready_calm}
use Rattle.dms_entries.specs.EnterCalls.{entry_fits, kinds_are}
use Rattle.dms_entries.specs.LeaveCalls.{leave_counted, leave_failed, leave_off, leave_stopped}
use Rattle.dms_entries.specs.Promises.{ChangesEntries, LeavesMember}
use Rattle.dms_entries.proofs.leaving.leave_member.Goals as goal

pub leave-requires-clause-fits : goal.leave-requires-clause-fits
leave-requires-clause-fits g c =
    let desc = as_described c.args.desc.now in
    let s = shape_of c.args.s.now in
    entry_fits desc s c.as_slice.result.now c.args.rec.now c.requires.ready.served c.requires.there c.requires.kind (c.as_slice.ensures.value ∙ c.in-Ok.ensures ∙ ap kinds_of c.items_of.ensures) c.requires.fits

pub returns-in-Err-leave : goal.returns-in-Err-leave
returns-in-Err-leave g c =
    let desc = as_described c.args.desc.now in
    let s = shape_of c.args.s.now in
    let ks = c.as_slice.result.now in
    let kinds : ks ≡ kinds_over desc s = c.as_slice.ensures.value ∙ c.in-Ok.ensures ∙ ap kinds_of c.items_of.ensures ∙ kinds_are desc s c.requires.kind in
    leave_failed desc s c.requires.there c.requires.kind c.args.over.now c.requires.ready ks kinds c.args.number c.args.rec.now c.in-Err-leave.e c.leave.new.lists c.in-Err-leave.ensures.fails c.in-Err-leave.ensures.below

pub returns-in-Ok-false : goal.returns-in-Ok-false
returns-in-Ok-false g c =
    let desc = as_described c.args.desc.now in
    let s = shape_of c.args.s.now in
    let ks = c.as_slice.result.now in
    let kinds : ks ≡ kinds_over desc s = c.as_slice.ensures.value ∙ c.in-Ok.ensures ∙ ap kinds_of c.items_of.ensures ∙ kinds_are desc s c.requires.kind in
    let was = c.in-Ok-false.field-0 in
    subst (λ (b : Bool). ChangesEntries desc 23 (LeavesMember desc s c.args.number c.args.rec.now) (Ok b) c.args.over.now c.leave.new.lists) c.in-Ok-false.field-0-test
    (leave_off desc s c.requires.there c.requires.kind c.args.over.now c.requires.ready ks kinds c.args.number c.args.rec.now c.leave.new.lists c.in-Ok-false.ensures.calm was c.in-Ok-false.ensures.taken c.in-Ok-false.field-0-test)

pub count_owner-requires-clause-holds : goal.count_owner-requires-clause-holds
count_owner-requires-clause-holds g c =
    let desc = as_described c.args.desc.now in
    let s = shape_of c.args.s.now in
    holds_sets desc c.leave.new.lists (ready_calm desc c.args.over.now c.requires.ready (λ m. m == s.number) 1 c.leave.new.lists c.in-Ok-true.ensures.calm)

pub returns-in-Err-count_owner : goal.returns-in-Err-count_owner
returns-in-Err-count_owner g c =
    let desc = as_described c.args.desc.now in
    let s = shape_of c.args.s.now in
    let ks = c.as_slice.result.now in
    let kinds : ks ≡ kinds_over desc s = c.as_slice.ensures.value ∙ c.in-Ok.ensures ∙ ap kinds_of c.items_of.ensures ∙ kinds_are desc s c.requires.kind in
    leave_stopped desc s c.requires.there c.requires.kind c.args.over.now c.requires.ready ks kinds c.args.number c.args.rec.now c.leave.new.lists c.in-Ok-true.ensures.calm c.in-Ok-true.field-0 c.in-Ok-true.ensures.taken c.in-Ok-true.field-0-test c.in-Ok-true.ensures.others
    c.count_owner.new.over g.met.B.Blocks.same_then c.in-Err-count_owner.e c.in-Err-count_owner.ensures

pub returns : goal.returns
returns g c =
    let desc = as_described c.args.desc.now in
    let s = shape_of c.args.s.now in
    let ks = c.as_slice.result.now in
    let kinds : ks ≡ kinds_over desc s = c.as_slice.ensures.value ∙ c.in-Ok.ensures ∙ ap kinds_of c.items_of.ensures ∙ kinds_are desc s c.requires.kind in
    leave_counted desc s c.requires.there c.requires.kind c.args.over.now c.requires.ready ks kinds c.args.number c.args.rec.now c.leave.new.lists c.in-Ok-true.ensures.calm c.in-Ok-true.field-0 c.in-Ok-true.ensures.taken c.in-Ok-true.field-0-test c.in-Ok-true.ensures.others
    c.count_owner.new.over g.met.B.Blocks.same_then c.in-Ok-count_owner.done c.in-Ok-count_owner.ensures
