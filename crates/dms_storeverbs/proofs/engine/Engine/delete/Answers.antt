use Rattle.std.proofs.Common.{◌≡◌, ◌∙◌, ℕ, List, Some, false, refl, sym, ap, subst, arith, rules, inl}
use Rattle.std.specs.Prelude.{slice_get}
use Rattle.std.proofs.lemmas.Grind.{common_steps}
use Rattle.std.proofs.lemmas.Option.{gets}
use Rattle.dms_base.specs.declared.category.Category.TheVariants.{Deadlock, InUse}
use Rattle.dms_block.specs.FaultLaws.{full_weaker}
use Rattle.dms_block.specs.Faults.{IfFull, Undamaged}
use Rattle.dms_block.specs.Held.{AuditPace}
use Rattle.dms_desc.specs.Lookups.{name_of, structure_of}
use Rattle.dms_desc.specs.Shape.{Described, as_described}
use Rattle.dms_laws.specs.Premises.{current_stands}
use Rattle.dms_model.specs.declared.reply.Reply.TheVariants.{Exception, Waits}
use Rattle.dms_model.specs.declared.verb.Verb.TheVariants.{Delete}
use Rattle.dms_model.specs.Fitting.{HasRecord, IsNumber}
use Rattle.dms_model.specs.Programs.{Program}
use Rattle.dms_model.specs.Session.{delete_step, deleted}
use Rattle.dms_model.specs.Uses.{in_use}
use Rattle.dms_storeverbs.specs.Costs.{IsFullFor}
use Rattle.dms_storeverbs.specs.declared.deleting.Deletion.TheVariants.{InUse as Used, Deadlocks as Circles, Waits as Held, Goes as Free}
use Rattle.dms_storeverbs.specs.Judging.{DeletionIs, HasLocked}
use Rattle.dms_storeverbs.proofs.AtHand.{one_fits}
use Rattle.dms_storeverbs.proofs.Calls.{did_from, failed, silently, then_did, unchanged}
use Rattle.dms_storeverbs.proofs.Related.{delete_deadlocks, delete_goes, delete_used, delete_waits}
use Rattle.dms_storeverbs.proofs.Rooms.{full_from}
use Rattle.dms_storeverbs.proofs.Stored.{current_number}
use Rattle.dms_storeverbs.proofs.engine.Engine.delete.Goals as goal

pub returns-in-Err-clause-step : goal.returns-in-Err-clause-step
returns-in-Err-clause-step g c = λ p at s stands may.
    let d = as_described c.args.self.now.desc in
    let p_is : c.index.result.now ≡ p = grind (arith, common_steps, gets) in
    let is = ap (λ (q : Program). delete_step d c.args.i q s c.args.set) (sym p_is) ∙ c.in-Err.ensures.refused c.args.i s in
    did_from is (unchanged refl c.refuse.ensures.sync (record { reply = c.refuse.ensures.reply; sync = c.refuse.ensures.sync; session = stands }))

pub judge_users-requires-clause-number : goal.judge_users-requires-clause-number
judge_users-requires-clause-number g c =
    let d = as_described c.args.self.now.desc in
    current_number d c.index.result.now c.args.set c.in-Ok.number c.requires.set (one_fits d c.args.self.now.programs.items c.args.i c.index.result.now c.requires.place c.index.ensures c.args.self.now.fit) c.in-Ok.ensures.ready.current

pub remove_record-requires-clause-number : goal.remove_record-requires-clause-number
remove_record-requires-clause-number g c =
    let d = as_described c.args.self.now.desc in
    let number = current_number d c.index.result.now c.args.set c.in-Ok.number c.requires.set (one_fits d c.args.self.now.programs.items c.args.i c.index.result.now c.requires.place c.index.ensures c.args.self.now.fit) c.in-Ok.ensures.ready.current in
    subst (λ (e : Described). IsNumber e c.args.set c.in-Ok.number) (ap as_described (sym c.judge_users.ensures.lasts.description)) number

pub returns-in_err-judge_users-clause-step : goal.returns-in_err-judge_users-clause-step
returns-in_err-judge_users-clause-step g c = λ p at s stands may. failed c.from_residual.ensures.0 (let u : Undamaged c.judge_users.result = c.judge_users.ensures.undamaged s.db stands.db in search rules) c.judge_users.ensures.silent s stands.next may.room

pub returns-in-InUse-clause-step : goal.returns-in-InUse-clause-step
returns-in-InUse-clause-step g c = λ p at s stands may.
    let d = as_described c.args.self.now.desc in
    let set = c.args.set in
    let n = c.in-Ok.number in
    let p_is : c.index.result.now ≡ p = grind (arith, common_steps, gets) in
    let has : HasLocked p set n = subst (λ (q : Program). HasLocked q set n) p_is c.in-Ok.ensures.ready in
    let at' : slice_get s.programs c.args.i ≡ Some p = subst (λ (ps : List Program). slice_get ps c.args.i ≡ Some p) stands.programs at in
    let stand : HasRecord s.db set n = current_stands d s may.coherent c.args.i p at' set n c.requires.set has.current in
    let k : DeletionIs Used d p s set n = rw c.in-InUse.is at (c.in_ok-judge_users.ensures.judged p at s stands stand) in
    let d_is : as_described c.judge_users.new.self.desc ≡ d = ap as_described c.judge_users.ensures.lasts.description in
    let name' = c.name_of.ensures ∙ ap (λ (e : Described). name_of (structure_of e set)) d_is in
    let said = c.refuse-in-InUse.ensures in
    did_from (delete_used d c.args.i p s set n has k)
    (silently c.judge_users.ensures.silent c.in_ok-judge_users.ensures.points s stands.next may.room refl said.sync (record { reply = said.reply ∙ ap (λ (x : List ℕ). Exception InUse x) name'; sync = said.sync; session = c.in_ok-judge_users.ensures.stands s stands }))

pub returns-in-Deadlocks-clause-step : goal.returns-in-Deadlocks-clause-step
returns-in-Deadlocks-clause-step g c = λ p at s stands may.
    let d = as_described c.args.self.now.desc in
    let set = c.args.set in
    let n = c.in-Ok.number in
    let p_is : c.index.result.now ≡ p = grind (arith, common_steps, gets) in
    let has : HasLocked p set n = subst (λ (q : Program). HasLocked q set n) p_is c.in-Ok.ensures.ready in
    let at' : slice_get s.programs c.args.i ≡ Some p = subst (λ (ps : List Program). slice_get ps c.args.i ≡ Some p) stands.programs at in
    let stand : HasRecord s.db set n = current_stands d s may.coherent c.args.i p at' set n c.requires.set has.current in
    let k : DeletionIs Circles d p s set n = rw c.in-Deadlocks.is at (c.in_ok-judge_users.ensures.judged p at s stands stand) in
    let d_is : as_described c.judge_users.new.self.desc ≡ d = ap as_described c.judge_users.ensures.lasts.description in
    let name' = c.name_of-in-Deadlocks.ensures ∙ ap (λ (e : Described). name_of (structure_of e set)) d_is in
    let said = c.refuse-in-Deadlocks.ensures in
    did_from (delete_deadlocks d c.args.i p s set n has k.0 k.1)
    (silently c.judge_users.ensures.silent c.in_ok-judge_users.ensures.points s stands.next may.room refl said.sync (record { reply = said.reply ∙ ap (λ (x : List ℕ). Exception Deadlock x) name'; sync = said.sync; session = c.in_ok-judge_users.ensures.stands s stands }))

pub returns-in-Waits-clause-step : goal.returns-in-Waits-clause-step
returns-in-Waits-clause-step g c = λ p at s stands may.
    let d = as_described c.args.self.now.desc in
    let set = c.args.set in
    let n = c.in-Ok.number in
    let p_is : c.index.result.now ≡ p = grind (arith, common_steps, gets) in
    let has : HasLocked p set n = subst (λ (q : Program). HasLocked q set n) p_is c.in-Ok.ensures.ready in
    let at' : slice_get s.programs c.args.i ≡ Some p = subst (λ (ps : List Program). slice_get ps c.args.i ≡ Some p) stands.programs at in
    let stand : HasRecord s.db set n = current_stands d s may.coherent c.args.i p at' set n c.requires.set has.current in
    let k : DeletionIs (Held c.in-Waits.who) d p s set n = rw c.in-Waits.is at (c.in_ok-judge_users.ensures.judged p at s stands stand) in
    let said = c.wait_for.ensures in
    did_from (delete_waits d c.args.i p s set n has k.0 k.1)
    (silently c.judge_users.ensures.silent c.in_ok-judge_users.ensures.points s stands.next may.room refl said.sync (record { reply = said.reply ∙ ap (λ (ns : List (List ℕ)). Waits ns) k.2; sync = said.sync; session = c.in_ok-judge_users.ensures.stands s stands }))

pub returns-clause-step : goal.returns-clause-step
returns-clause-step g c = λ p at s stands may.
    let d = as_described c.args.self.now.desc in
    let set = c.args.set in
    let n = c.in-Ok.number in
    let p_is : c.index.result.now ≡ p = grind (arith, common_steps, gets) in
    let has : HasLocked p set n = subst (λ (q : Program). HasLocked q set n) p_is c.in-Ok.ensures.ready in
    let at' : slice_get s.programs c.args.i ≡ Some p = subst (λ (ps : List Program). slice_get ps c.args.i ≡ Some p) stands.programs at in
    let stand : HasRecord s.db set n = current_stands d s may.coherent c.args.i p at' set n c.requires.set has.current in
    let k : DeletionIs Free d p s set n = rw c.in-Goes.is at (c.in_ok-judge_users.ensures.judged p at s stands stand) in
    let d_is : as_described c.judge_users.new.self.desc ≡ d = ap as_described c.judge_users.ensures.lasts.description in
    let unused : in_use (as_described c.judge_users.new.self.desc) s.db set n ≡ false = subst (λ (e : Described). in_use e s.db set n ≡ false) (sym d_is) k.0 in
    let mid : slice_get c.judge_users.new.self.programs.items c.args.i ≡ Some p = subst (λ (ps : List Program). slice_get ps c.args.i ≡ Some p) (sym c.judge_users.ensures.programs) at in
    let did = c.remove_record.ensures.step p mid s (c.in_ok-judge_users.ensures.stands s stands) (record { room = may.room; stands = stand; unused = unused }) in
    did_from (delete_goes d c.args.i p s set n has k.0 k.1 ∙ ap (λ (e : Described). deleted e c.args.i p s set n) (sym d_is))
    (then_did c.judge_users.ensures.lasts.causes.whole c.judge_users.ensures.silent c.in_ok-judge_users.ensures.points s stands.next may.room c.judge_users.ensures.lasts.causes.tells did)

pub returns-clause-full : goal.returns-clause-full
returns-clause-full g c = λ p at s stands may.
    let d = as_described c.args.self.now.desc in
    let set = c.args.set in
    let n = c.in-Ok.number in
    let last = (g.St.Store.seen c.args.self.now.store).pace.last in
    let p_is : c.index.result.now ≡ p = grind (arith, common_steps, gets) in
    let has : HasLocked p set n = subst (λ (q : Program). HasLocked q set n) p_is c.in-Ok.ensures.ready in
    let at' : slice_get s.programs c.args.i ≡ Some p = subst (λ (ps : List Program). slice_get ps c.args.i ≡ Some p) stands.programs at in
    let stand : HasRecord s.db set n = current_stands d s may.coherent c.args.i p at' set n c.requires.set has.current in
    let k : DeletionIs Free d p s set n = rw c.in-Goes.is at (c.in_ok-judge_users.ensures.judged p at s stands stand) in
    let due : IfFull c.remove_record.result (IsFullFor last (Delete set) (deleted d c.args.i p s set n)) = full_weaker c.remove_record.result _ _ (λ f is. inl (refl, is ∙ ap (λ (x : AuditPace). x.last) c.judge_users.ensures.lasts.causes.pace)) c.remove_record.ensures.file in
    full_from c.remove_record.result last (Delete set) _ _ (delete_goes d c.args.i p s set n has k.0 k.1) due
