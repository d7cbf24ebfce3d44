use Rattle.std.proofs.Common.{◌≡◌, ◌∙◌, ℕ, List, Some, refl, sym, ap, subst, arith, rules, inl}
use Rattle.std.specs.Prelude.{slice_get, slice_set}
use Rattle.std.proofs.lemmas.Grind.{common_steps}
use Rattle.std.proofs.lemmas.Option.{gets}
use Rattle.dms_block.specs.Faults.{IfFull, Undamaged}
use Rattle.dms_desc.specs.Shape.{as_described}
use Rattle.dms_model.specs.Areas.{WorksFit}
use Rattle.dms_model.specs.Programs.{Program}
use Rattle.dms_storeverbs.specs.Costs.{IsFullFor, appends}
use Rattle.dms_storeverbs.proofs.AtHand.{one_changed, one_fits}
use Rattle.dms_storeverbs.proofs.Calls.{did_from, failed, silently, unchanged}
use Rattle.dms_base.specs.declared.category.Category.TheVariants.{Duplicates, LimitError}
use Rattle.dms_model.specs.declared.put.Put.TheVariants.{Stored, Duplicate, Full}
use Rattle.dms_model.specs.declared.reply.Reply.TheVariants.{Exception}
use Rattle.dms_model.specs.declared.verb.Verb.TheVariants.{Insert}
use Rattle.dms_model.specs.Session.{Outcome, activate, insert_step}
use Rattle.dms_model.specs.Uses.{enter_answer}
use Rattle.dms_storeverbs.specs.Judging.{HasEntry}
use Rattle.dms_storeverbs.proofs.Asked.{entry_may, entry_number, entry_owner, insert_appends}
use Rattle.dms_storeverbs.proofs.Changed.{entered_is, full_entered}
use Rattle.dms_storeverbs.proofs.Related.{insert_answered}
use Rattle.dms_storeverbs.proofs.Rooms.{full_two}
use Rattle.dms_storeverbs.proofs.engine.Engine.insert.Goals as goal

pub returns-in-Err-clause-step : goal.returns-in-Err-clause-step
returns-in-Err-clause-step g c = λ p at s stands may.
    let d = as_described c.args.self.now.desc in
    let p_is : c.index.result.now ≡ p = grind (arith, common_steps, gets) in
    let is = ap (λ (q : Program). insert_step d c.args.i q s c.args.set c.args.subset) (sym p_is) ∙ c.in-Err.ensures.refused.insert c.args.i s in
    did_from is (unchanged refl c.refuse.ensures.sync (record { reply = c.refuse.ensures.reply; sync = c.refuse.ensures.sync; session = stands }))

pub enter-requires-clause-owner : goal.enter-requires-clause-owner
enter-requires-clause-owner g c =
    let d = as_described c.args.self.now.desc in
    let fit = one_fits d c.args.self.now.programs.items c.args.i c.index.result.now c.requires.place c.index.ensures c.args.self.now.fit in
    entry_owner d c.index.result.now c.args.set c.args.subset c.in-Ok.entry.owner c.in-Ok.entry.number c.args.self.now.formed fit c.in-Ok.ensures.ready

pub enter-requires-clause-number : goal.enter-requires-clause-number
enter-requires-clause-number g c =
    let d = as_described c.args.self.now.desc in
    let fit = one_fits d c.args.self.now.programs.items c.args.i c.index.result.now c.requires.place c.index.ensures c.args.self.now.fit in
    entry_number d (g.St.Store.seen c.args.self.now.store).desc c.index.result.now c.args.set c.args.subset c.in-Ok.entry.owner c.in-Ok.entry.number c.args.self.now.under c.requires.subset fit c.in-Ok.ensures.ready

pub returns-in_err-enter-clause-step : goal.returns-in_err-enter-clause-step
returns-in_err-enter-clause-step g c = λ p at s stands may. failed c.from_residual.ensures.0 (let u : Undamaged c.enter.result = c.enter.ensures.undamaged s.db stands.db in search rules) c.enter.ensures.silent s stands.next may.room

pub returns-in_err-enter-clause-full : goal.returns-in_err-enter-clause-full
returns-in_err-enter-clause-full g c = λ p at s stands may.
    let d = as_described c.args.self.now.desc in
    let set = c.args.set in
    let subset = c.args.subset in
    let owner = c.in-Ok.entry.owner in
    let n = c.in-Ok.entry.number in
    let last = (g.St.Store.seen c.args.self.now.store).pace.last in
    let p_is : c.index.result.now ≡ p = grind (arith, common_steps, gets) in
    let has : HasEntry d p set subset owner n = subst (λ (q : Program). HasEntry d q set subset owner n) p_is c.in-Ok.ensures.ready in
    let at' : slice_get s.programs c.args.i ≡ Some p = subst (λ (ps : List Program). slice_get ps c.args.i ≡ Some p) stands.programs at in
    let may' = entry_may d s c.args.i p set subset owner n may.coherent at' c.requires.subset has in
    let stored = full_entered _ s.db d _ c.args.self.now.under stands.db subset owner n c.enter.result c.enter.ensures.stands may' in
    let u : IfFull c.enter.result (IsFullFor last (Insert set subset) (insert_step d c.args.i p s set subset)) = full_two c.enter.result _ _ _
    (λ f kept is. inl (ap (λ (o : Outcome). appends (Insert set subset) o) (insert_answered d c.args.i p s set subset owner n has (enter_answer d s.db subset owner n) refl) ∙ insert_appends d c.args.i p s set subset owner n has (enter_answer d s.db subset owner n) kept, is)) stored c.enter.ensures.full in
    search rules

pub returns-in-Duplicate-clause-step : goal.returns-in-Duplicate-clause-step
returns-in-Duplicate-clause-step g c = λ p at s stands may.
    let d = as_described c.args.self.now.desc in
    let set = c.args.set in
    let subset = c.args.subset in
    let owner = c.in-Ok.entry.owner in
    let n = c.in-Ok.entry.number in
    let p_is : c.index.result.now ≡ p = grind (arith, common_steps, gets) in
    let has : HasEntry d p set subset owner n = subst (λ (q : Program). HasEntry d q set subset owner n) p_is c.in-Ok.ensures.ready in
    let at' : slice_get s.programs c.args.i ≡ Some p = subst (λ (ps : List Program). slice_get ps c.args.i ≡ Some p) stands.programs at in
    let may' = entry_may d s c.args.i p set subset owner n may.coherent at' c.requires.subset has in
    let a = Duplicate c.in-Duplicate.field-0 in
    let both = entered_is _ _ s.db d _ c.args.self.now.under stands.db subset owner n a (rw c.in-Duplicate.is at c.in_ok-enter.ensures.entered) may' in
    let said = c.refuse-in-Duplicate.ensures in
    did_from (insert_answered d c.args.i p s set subset owner n has a both.0)
    (silently c.enter.ensures.silent c.in_ok-enter.ensures.keeps.points s stands.next may.room refl said.sync (record {
      reply = said.reply ∙ ap (λ (x : List ℕ). Exception Duplicates x) c.name_of.ensures;
      sync = said.sync;
      session = record { db = both.1; mark = c.in_ok-enter.ensures.keeps.mark ∙ stands.mark; next = c.enter.ensures.silent.next ∙ stands.next; programs = stands.programs; pending = stands.pending; since = stands.since; waits = stands.waits };
    }))

pub returns-in-Full-clause-step : goal.returns-in-Full-clause-step
returns-in-Full-clause-step g c = λ p at s stands may.
    let d = as_described c.args.self.now.desc in
    let set = c.args.set in
    let subset = c.args.subset in
    let owner = c.in-Ok.entry.owner in
    let n = c.in-Ok.entry.number in
    let p_is : c.index.result.now ≡ p = grind (arith, common_steps, gets) in
    let has : HasEntry d p set subset owner n = subst (λ (q : Program). HasEntry d q set subset owner n) p_is c.in-Ok.ensures.ready in
    let at' : slice_get s.programs c.args.i ≡ Some p = subst (λ (ps : List Program). slice_get ps c.args.i ≡ Some p) stands.programs at in
    let may' = entry_may d s c.args.i p set subset owner n may.coherent at' c.requires.subset has in
    let both = entered_is _ _ s.db d _ c.args.self.now.under stands.db subset owner n Full (rw c.in-Full.is at c.in_ok-enter.ensures.entered) may' in
    let said = c.refuse-in-Full.ensures in
    did_from (insert_answered d c.args.i p s set subset owner n has Full both.0)
    (silently c.enter.ensures.silent c.in_ok-enter.ensures.keeps.points s stands.next may.room refl said.sync (record {
      reply = said.reply ∙ ap (λ (x : List ℕ). Exception LimitError x) c.name_of-in-Full.ensures;
      sync = said.sync;
      session = record { db = both.1; mark = c.in_ok-enter.ensures.keeps.mark ∙ stands.mark; next = c.enter.ensures.silent.next ∙ stands.next; programs = stands.programs; pending = stands.pending; since = stands.since; waits = stands.waits };
    }))

pub invariant_of-self-2 : goal.invariant_of-self-2
invariant_of-self-2 g c =
    let d = as_described c.args.self.now.desc in
    record {
      under = c.enter.ensures.causes.desc ∙ c.args.self.now.under;
      formed = c.args.self.now.formed;
      fit = one_changed d c.args.self.now.programs.items c.args.i c.index_mut.result.now c.carry.new.program c.requires.place c.index_mut.ensures.value (λ x. subst (WorksFit d) (sym c.carry.ensures) x) c.args.self.now.fit;
    }

pub returns-clause-step : goal.returns-clause-step
returns-clause-step g c = λ p at s stands may.
    let d = as_described c.args.self.now.desc in
    let set = c.args.set in
    let subset = c.args.subset in
    let owner = c.in-Ok.entry.owner in
    let n = c.in-Ok.entry.number in
    let p_is : c.index.result.now ≡ p = grind (arith, common_steps, gets) in
    let has : HasEntry d p set subset owner n = subst (λ (q : Program). HasEntry d q set subset owner n) p_is c.in-Ok.ensures.ready in
    let at' : slice_get s.programs c.args.i ≡ Some p = subst (λ (ps : List Program). slice_get ps c.args.i ≡ Some p) stands.programs at in
    let may' = entry_may d s c.args.i p set subset owner n may.coherent at' c.requires.subset has in
    let a = Stored c.in-Stored.field-0 in
    let both = entered_is _ _ s.db d _ c.args.self.now.under stands.db subset owner n a (rw c.in-Stored.is at c.in_ok-enter.ensures.entered) may' in
    let x_is : c.index_mut.result.now ≡ p = grind (arith, common_steps, gets) in
    let y_is = c.carry.ensures ∙ ap activate x_is in
    did_from (insert_answered d c.args.i p s set subset owner n has a both.0)
    (silently c.enter.ensures.silent c.in_ok-enter.ensures.keeps.points s stands.next may.room refl c.succeed.ensures.sync (record {
      reply = c.succeed.ensures.reply;
      sync = c.succeed.ensures.sync;
      session = record { db = both.1; mark = c.in_ok-enter.ensures.keeps.mark ∙ stands.mark; next = c.enter.ensures.silent.next ∙ stands.next; programs = (λ j. slice_set (stands.programs j) c.args.i (y_is j)); pending = stands.pending; since = stands.since; waits = stands.waits };
    }))
