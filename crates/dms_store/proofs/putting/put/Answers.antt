use Rattle.std.proofs.Common.{◌≡◌, ℕ, IsTrue, length, refl, sym, subst}
use Rattle.std.specs.declared.result.Result.TheVariants.{Ok, Err}
use Rattle.dms_block.specs.Faults.{IfFull}
use Rattle.dms_block.specs.Held.{AuditPace}
use Rattle.dms_block.specs.FaultLaws.{full_err, full_none, full_weaker}
use Rattle.dms_block.specs.View.{overlay_changes, overlay_content, under}
use Rattle.dms_desc.specs.Shape.{as_described}
use Rattle.dms_model.specs.Fitting.{IsStored}
use Rattle.dms_model.specs.declared.put.Put.{Put}
use Rattle.dms_model.specs.declared.put.Put.TheVariants.{Stored}
use Rattle.dms_store.specs.Addressed.{FewStored}
use Rattle.dms_store.specs.PuttingCalls.{few_told, hands_few, hands_few_as, hands_few_err}
use Rattle.dms_store.specs.Taken.{StoresNext}
use Rattle.dms_store.specs.TakenLaws.{dropped_stays, handed_stays, next_below}
use Rattle.dms_store.proofs.putting.put.Goals as goal

pub returns-in-Err-finish-clause-hands_down : goal.returns-in-Err-finish-clause-hands_down
returns-in-Err-finish-clause-hands_down g c =
    let b = c.enter.new.over in
    hands_few_err {T = Unit {0}} _ c.in-Err-finish.e c.args.over.now c.finish.new.self
    (hands_few (FewStored (as_described c.args.desc.now) c.args.set c.args.number c.args.over.now) (length (overlay_changes b)) (Err c.in-Err-finish.e) c.args.over.now b c.finish.new.self g.met.B.Blocks.same_then c.in-Ok-Stored.ensures.enters c.requires.usable.none refl
    c.in-Err-finish.ensures.alters c.in-Err-finish.ensures.causes c.in-Err-finish.ensures.silent c.in-Err-finish.ensures.same)

pub returns-in-Ok-clause-hands_down : goal.returns-in-Ok-clause-hands_down
returns-in-Ok-clause-hands_down g c =
    let b = c.enter.new.over in
    hands_few_as _ _ c.args.over.now c.finish.new.self
    (hands_few (FewStored (as_described c.args.desc.now) c.args.set c.args.number c.args.over.now) (length (overlay_changes b)) (Ok tt) c.args.over.now b c.finish.new.self g.met.B.Blocks.same_then c.in-Ok-Stored.ensures.enters c.requires.usable.none refl
    c.in-Ok.ensures.alters c.in-Ok.ensures.causes c.in-Ok.ensures.silent c.in-Ok.ensures.same)

is_stored : {n : ℕ} (a : Put) → a ≡ Stored n → IsStored a
is_stored a is = subst IsStored (sym is) tt

pub returns-in-Err-clause-full : goal.returns-in-Err-clause-full
returns-in-Err-clause-full g c = full_none {T = Put} (Err c.in-Err.e) _ c.in-Err.ensures.enters.writes.writes.looks.not_full

pub returns-in-Err-clause-stored : goal.returns-in-Err-clause-stored
returns-in-Err-clause-stored g c told db is may = full_none {T = Put} (Err c.in-Err.e) _ c.in-Err.ensures.enters.writes.writes.looks.not_full

pub returns-in-Err-finish-clause-full : goal.returns-in-Err-finish-clause-full
returns-in-Err-finish-clause-full g c =
    let same = g.met.B.Blocks.same_pace c.args.over.now.below c.enter.new.over.below c.in-Ok-Stored.ensures.enters.writes.writes.same in
    full_err (Unit {0}) Put c.in-Err-finish.e _ (subst (λ (p : AuditPace). IfFull {T = Unit {0}} (Err c.in-Err-finish.e) (λ f. f ≡ p.last)) same c.in-Err-finish.ensures.full)

pub returns-in-Err-finish-clause-stored : goal.returns-in-Err-finish-clause-stored
returns-in-Err-finish-clause-stored g c told db is may =
    let answer = c.in-Ok-Stored.ensures.answers told db is may in
    full_err (Unit {0}) Put c.in-Err-finish.e _ (full_weaker {T = Unit {0}} (Err c.in-Err-finish.e) _ _ (λ f at. subst IsStored answer.0 (is_stored _ c.in-Ok-Stored.field-0-is)) c.in-Err-finish.ensures.full)

pub returns-in-Ok-clause-next : goal.returns-in-Ok-clause-next
returns-in-Ok-clause-next g c told =
    let desc = as_described c.args.desc.now in
    let a = c.args.over.now in
    let stored = subst (λ (q : Put). StoresNext desc c.args.set c.args.number (overlay_content a) (overlay_content c.enter.new.over) q) c.in-Ok-Stored.field-0-is (c.in-Ok-Stored.ensures.taken told) in
    next_below desc c.args.set c.args.number a _ c.requires.usable.none stored.0

pub returns-in-Ok-clause-taken : goal.returns-in-Ok-clause-taken
returns-in-Ok-clause-taken g c told =
    let desc = as_described c.args.desc.now in
    let a = c.args.over.now in
    let b = c.enter.new.over in
    let told_b : IsTrue (under b).told = few_told _ a b c.in-Ok-Stored.ensures.enters told in
    let stored = subst (λ (q : Put). StoresNext desc c.args.set c.args.number (overlay_content a) (overlay_content b) q) c.in-Ok-Stored.field-0-is (c.in-Ok-Stored.ensures.taken told) in
    handed_stays desc a b c.finish.new.self told c.requires.usable.none stored.1 (c.in-Ok.ensures.content told_b)

pub returns-in-Ok-Duplicate-clause-taken : goal.returns-in-Ok-Duplicate-clause-taken
returns-in-Ok-Duplicate-clause-taken g c told =
    dropped_stays (as_described c.args.desc.now) c.args.over.now c.enter.new.over c.forget-in-Ok-Duplicate.new.self told c.in-Ok-Duplicate.ensures.enters.writes.writes.looks.same c.forget-in-Ok-Duplicate.ensures.below

pub returns-in-Ok-Full-clause-taken : goal.returns-in-Ok-Full-clause-taken
returns-in-Ok-Full-clause-taken g c told =
    dropped_stays (as_described c.args.desc.now) c.args.over.now c.enter.new.over c.forget-in-Ok-Full.new.self told c.in-Ok-Full.ensures.enters.writes.writes.looks.same c.forget-in-Ok-Full.ensures.below
