use Rattle.std.proofs.Common.{◌≡◌, ◌∙◌, List, refl, ap, arith, length, map, rules}
use Rattle.std.specs.Prelude.{slice_set}
use Rattle.std.proofs.lemmas.Grind.{common_steps}
use Rattle.std.proofs.lemmas.List.{with_items_is, length-map}
use Rattle.std.proofs.lemmas.Option.{gets}
use Rattle.std.specs.Vec.{with_item}
use Rattle.dms_block.specs.Faults.{Undamaged}
use Rattle.dms_desc.specs.Shape.{as_described}
use Rattle.dms_locks.specs.Locks.{without_lock}
use Rattle.dms_model.specs.Programs.{Program}
use Rattle.dms_model.specs.Session.{activate, without_current}
use Rattle.dms_storeverbs.proofs.AtHand.{few_of, gone_fit, one_changed, unlocked_as}
use Rattle.dms_storeverbs.proofs.Calls.{failed, silently}
use Rattle.dms_storeverbs.proofs.Changed.{removed_db}
use Rattle.dms_storeverbs.proofs.engine.Engine.remove_record.Goals as goal

pub returns-in_err-remove-clause-step : goal.returns-in_err-remove-clause-step
returns-in_err-remove-clause-step g c = λ p at s stands may. failed c.from_residual.ensures.0 (let u : Undamaged c.remove.result = c.remove.ensures.undamaged s.db stands.db in search rules) c.remove.ensures.silent s stands.next may.room

pub lose_record-requires-clause-few : goal.lose_record-requires-clause-few
lose_record-requires-clause-few g c = few_of c.args.self.now.desc c.args.self.now.formed

pub invariant_of-self-2 : goal.invariant_of-self-2
invariant_of-self-2 g c =
    let d = as_described c.args.self.now.desc in
    let gone = without_current d c.args.set c.args.number in
    let back = with_items_is (with_item c.args.self.now.programs c.args.i c.unlock.new.program) c.lose_record.new.programs (ap length c.lose_record.ensures ∙ length-map c.as_mut_slice.result.now gone ∙ c.as_mut_slice.ensures.len) in
    let programs_is = back ∙ c.lose_record.ensures ∙ ap (λ (ps : List Program). map gone ps) c.as_mut_slice.ensures.value in
    let one = one_changed d c.args.self.now.programs.items c.args.i c.index_mut.result.now c.unlock.new.program c.requires.place c.index_mut.ensures.value (unlocked_as d c.index_mut.result.now c.unlock.new.program _ c.unlock.ensures) c.args.self.now.fit in
    record {
      under = c.remove.ensures.causes.desc ∙ c.args.self.now.under;
      formed = c.args.self.now.formed;
      fit = gone_fit d (slice_set c.args.self.now.programs.items c.args.i c.unlock.new.program) _ c.args.set c.args.number programs_is c.requires.set one;
    }

pub returns-clause-step : goal.returns-clause-step
returns-clause-step g c = λ p at s stands may.
    let d = as_described c.args.self.now.desc in
    let set = c.args.set in
    let number = c.args.number in
    let gone = without_current d set number in
    let back = with_items_is (with_item c.args.self.now.programs c.args.i c.unlock.new.program) c.lose_record.new.programs (ap length c.lose_record.ensures ∙ length-map c.as_mut_slice.result.now gone ∙ c.as_mut_slice.ensures.len) in
    let programs_is = back ∙ c.lose_record.ensures ∙ ap (λ (ps : List Program). map gone ps) c.as_mut_slice.ensures.value in
    let x_is : c.index_mut.result.now ≡ p = grind (arith, common_steps, gets) in
    let y_is : c.unlock.new.program ≡ activate (record p { locks = without_lock p.locks (set, number) }) = c.unlock.ensures ∙ ap (λ (q : Program). activate (record q { locks = without_lock q.locks (set, number) })) x_is in
    silently c.remove.ensures.silent c.in_ok-remove.ensures.keeps.points s stands.next may.room refl c.succeed.ensures.sync (record {
      reply = c.succeed.ensures.reply;
      sync = c.succeed.ensures.sync;
      session = record {
        db = removed_db _ _ s.db d _ c.args.self.now.under stands.db set number _ c.in_ok-remove.ensures.removed may.stands may.unused;
        mark = c.in_ok-remove.ensures.keeps.mark ∙ stands.mark;
        next = c.remove.ensures.silent.next ∙ stands.next;
        programs = programs_is ∙ (λ j. map gone (slice_set (stands.programs j) c.args.i (y_is j)));
        pending = stands.pending;
        since = stands.since;
        waits = stands.waits;
      };
    })
