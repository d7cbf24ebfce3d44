use Rattle.std.proofs.Common.{◌≡◌, ◌∙◌, ℕ, List, Some, None, refl, sym, ap, subst, arith, rules, inl}
use Rattle.std.specs.Prelude.{slice_get, slice_set}
use Rattle.std.proofs.lemmas.Grind.{common_steps}
use Rattle.std.proofs.lemmas.Option.{gets}
use Rattle.dms_block.specs.Faults.{IfFull, Undamaged}
use Rattle.dms_desc.specs.Shape.{Described, as_described}
use Rattle.dms_model.specs.Areas.{WorksFit}
use Rattle.dms_model.specs.Fitting.{IsNumber}
use Rattle.dms_model.specs.Programs.{Program}
use Rattle.dms_storeverbs.specs.Costs.{IsFullFor, appends}
use Rattle.dms_storeverbs.proofs.AtHand.{one_changed, one_fits}
use Rattle.dms_storeverbs.proofs.Calls.{did_from, failed, silently, unchanged}
use Rattle.std.specs.Prelude.{IfSome, ◌<◌, ◌^◌}
use Rattle.std.specs.declared.option.Option.{Option}
use Rattle.dms_block.specs.FaultLaws.{full_weaker}
use Rattle.dms_laws.specs.Premises.{current_stands, may_link}
use Rattle.dms_model.specs.Changing.{Links}
use Rattle.dms_model.specs.declared.verb.Verb.TheVariants.{Assign}
use Rattle.dms_model.specs.Session.{Outcome, activate, assign_step, assigned}
use Rattle.dms_storeverbs.specs.Judging.{HasLocked, missing_target}
use Rattle.dms_storeverbs.proofs.Asked.{target_low}
use Rattle.dms_storeverbs.proofs.Changed.{linked_db}
use Rattle.dms_storeverbs.proofs.Related.{assign_goes}
use Rattle.dms_storeverbs.proofs.Stored.{current_number}
use Rattle.dms_storeverbs.proofs.engine.Engine.assign.Goals as goal

pub returns-in-Err-clause-step : goal.returns-in-Err-clause-step
returns-in-Err-clause-step g c = λ p at s stands may.
    let d = as_described c.args.self.now.desc in
    let p_is : c.index.result.now ≡ p = grind (arith, common_steps, gets) in
    let is = ap (λ (q : Program). assign_step d c.args.i q s c.args.to c.args.set c.args.item) (sym p_is) ∙ c.in-Err.ensures.refused c.args.i s in
    did_from is (unchanged refl c.refuse.ensures.sync (record { reply = c.refuse.ensures.reply; sync = c.refuse.ensures.sync; session = stands }))

pub link-requires-clause-number : goal.link-requires-clause-number
link-requires-clause-number g c =
    let d = as_described c.args.self.now.desc in
    let fit = one_fits d c.args.self.now.programs.items c.args.i c.index.result.now c.requires.place c.index.ensures c.args.self.now.fit in
    subst (λ (e : Described). IsNumber e c.args.set c.in-Ok.number) (sym c.args.self.now.under) (current_number d c.index.result.now c.args.set c.in-Ok.number c.requires.link.data_set fit c.in-Ok.ensures.ready.current)

pub link-requires-clause-to : goal.link-requires-clause-to
link-requires-clause-to g c =
    let d = as_described c.args.self.now.desc in
    let fit = one_fits d c.args.self.now.programs.items c.args.i c.index-2.result.now c.requires.place c.index-2.ensures c.args.self.now.fit in
    subst (λ (o : Option ℕ). IfSome o (λ n. n < 2 ^ 32)) (sym c.assigned-target.ensures) (target_low d c.index-2.result.now c.args.to c.args.set c.args.item c.args.self.now.formed fit c.requires.target)

pub returns-in_err-link-clause-step : goal.returns-in_err-link-clause-step
returns-in_err-link-clause-step g c = λ p at s stands may. failed c.from_residual.ensures.0 (let u : Undamaged c.link.result = c.link.ensures.undamaged s.db stands.db in search rules) c.link.ensures.silent s stands.next may.room

pub returns-in_err-link-clause-full : goal.returns-in_err-link-clause-full
returns-in_err-link-clause-full g c = λ p at s stands may.
    let d = as_described c.args.self.now.desc in
    let last = (g.St.Store.seen c.args.self.now.store).pace.last in
    let verb = Assign c.args.to c.args.set c.args.item in
    let n = c.in-Ok.number in
    let p_is : c.index.result.now ≡ p = grind (arith, common_steps, gets) in
    let has : HasLocked p c.args.set n = subst (λ (q : Program). HasLocked q c.args.set n) p_is c.in-Ok.ensures.ready in
    let there : missing_target c.args.to p ≡ None = subst (λ (q : Program). missing_target c.args.to q ≡ None) p_is c.in-Ok.ensures.refers in
    let goes = assign_goes d c.args.i p s c.args.set c.args.to c.args.item n has there in
    let u : IfFull c.link.result (IsFullFor last verb (assign_step d c.args.i p s c.args.to c.args.set c.args.item)) = full_weaker c.link.result _ _ (λ f is. inl (ap (λ (o : Outcome). appends verb o) goes, is)) c.link.ensures.full in
    search rules

pub invariant_of-self-2 : goal.invariant_of-self-2
invariant_of-self-2 g c =
    let d = as_described c.args.self.now.desc in
    record {
      under = c.link.ensures.causes.desc ∙ c.args.self.now.under;
      formed = c.args.self.now.formed;
      fit = one_changed d c.args.self.now.programs.items c.args.i c.index_mut.result.now c.carry.new.program c.requires.place c.index_mut.ensures.value (λ x. subst (WorksFit d) (sym c.carry.ensures) x) c.args.self.now.fit;
    }

pub returns-clause-step : goal.returns-clause-step
returns-clause-step g c = λ p at s stands may.
    let d = as_described c.args.self.now.desc in
    let set = c.args.set in
    let item = c.args.item in
    let n = c.in-Ok.number in
    let p_is : c.index.result.now ≡ p = grind (arith, common_steps, gets) in
    let q_is : c.index-2.result.now ≡ p = grind (arith, common_steps, gets) in
    let x_is : c.index_mut.result.now ≡ p = grind (arith, common_steps, gets) in
    let has : HasLocked p set n = subst (λ (q : Program). HasLocked q set n) p_is c.in-Ok.ensures.ready in
    let there : missing_target c.args.to p ≡ None = subst (λ (q : Program). missing_target c.args.to q ≡ None) p_is c.in-Ok.ensures.refers in
    let at' : slice_get s.programs c.args.i ≡ Some p = subst (λ (ps : List Program). slice_get ps c.args.i ≡ Some p) stands.programs at in
    let stand = current_stands d s may.coherent c.args.i p at' set n c.requires.link.data_set has.current in
    let target = may_link d s may.coherent c.args.i p at' c.args.to set item c.requires.target in
    let to_is : c.assigned-target.result ≡ assigned c.args.to p = c.assigned-target.ensures ∙ ap (assigned c.args.to) q_is in
    let old = g.St.Store.seen c.args.self.now.store in
    let links = subst (λ (o : Option ℕ). Links old.db (g.St.Store.seen c.link.new.self).db old.desc set n item o) to_is c.in_ok-link.ensures.linked in
    let y_is = c.carry.ensures ∙ ap activate x_is in
    did_from (assign_goes d c.args.i p s set c.args.to item n has there)
    (silently c.link.ensures.silent c.in_ok-link.ensures.keeps.points s stands.next may.room refl c.succeed.ensures.sync (record {
      reply = c.succeed.ensures.reply;
      sync = c.succeed.ensures.sync;
      session = record { db = linked_db _ _ s.db d _ c.args.self.now.under stands.db set n item (assigned c.args.to p) links stand target; mark = c.in_ok-link.ensures.keeps.mark ∙ stands.mark; next = c.link.ensures.silent.next ∙ stands.next; programs = (λ j. slice_set (stands.programs j) c.args.i (y_is j)); pending = stands.pending; since = stands.since; waits = stands.waits };
    }))
