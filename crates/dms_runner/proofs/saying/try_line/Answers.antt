use Rattle.dms_storeverbs.specs.View.{engine_view}
use Rattle.std.proofs.Common.{◌∙◌, ◌+◌, ◌<◌, ◌^◌, [], ◌∷◌, ap, not, arith}
use Rattle.dms_model.specs.declared.reply.Reply.{Reply}
use Rattle.dms_model.specs.Counting.{counts_of}
use Rattle.dms_model.specs.Session.{step, is_waits}
use Rattle.dms_model.proofs.Rises.{step_small}
use Rattle.dms_desc.specs.Shape.{as_described}
use Rattle.dms_runner.specs.Events.{calls}
use Rattle.dms_storeverbs.specs.Costs.{IsFullFor}
use Rattle.dms_runner.proofs.Happening.{step_numbers, ran_calls, ran_on, ran_as, part_calls, part_of_first, part_on_said, part_as, part_err, full_call}
use Rattle.dms_runner.proofs.Tried.{says_tried}
use Rattle.dms_runner.proofs.saying.try_line.Goals as goal

pub returns-in_err-answer-clause-part : goal.returns-in_err-answer-clause-part
returns-in_err-answer-clause-part g c = λ s stands may.
    let o = step (as_described c.args.engine.now.desc) s c.args.waiting.now.program c.args.waiting.now.verb in
    let count = counts_of (as_described c.args.engine.now.desc) s c.args.waiting.now.program c.args.waiting.now.verb in
    part_of_first _ _ (calls count c.args.waiting.now.verb o ∷ []) _ (part_calls _ _ _ count c.args.waiting.now.verb o (full_call c.from_residual.result _ (IsFullFor _ c.args.waiting.now.verb o) c.from_residual.ensures.1 (c.in_err-answer.ensures.full s stands may)) c.call.ensures.costs (c.call.ensures.spends s stands) c.call.ensures.lasts.causes.cause c.call.ensures.mute (c.call.ensures.step s stands may))

pub returns-in_err-say_tried-clause-part : goal.returns-in_err-say_tried-clause-part
returns-in_err-say_tried-clause-part g c = λ s stands may.
    let o = step (as_described c.args.engine.now.desc) s c.args.waiting.now.program c.args.waiting.now.verb in
    let count = counts_of (as_described c.args.engine.now.desc) s c.args.waiting.now.program c.args.waiting.now.verb in
    let did = c.in_ok-answer.ensures.step s stands may in
    let is = did.answers in
    let room' : (engine_view c.call.new.self).next + 1 < 2 ^ 64 = omega (arith, is.session.next, (step_small (as_described c.args.engine.now.desc) s c.args.waiting.now.program c.args.waiting.now.verb).high, may.room) in
    let called = ran_calls _ _ count c.args.waiting.now.verb o c.in_ok-answer.answer c.call.ensures.lasts.causes.tells c.call.ensures.lasts.causes.whole c.call.ensures.lasts.causes.desc c.call.ensures.lasts.causes.pace c.in_ok-answer.ensures.costs (c.call.ensures.spends s stands) c.in_ok-answer.ensures.idle c.in_ok-answer.ensures.lasts.causes.cause c.call.ensures.mute (omega (arith, stands.next, is.session.next, step_numbers (as_described c.args.engine.now.desc) s c.args.waiting.now.program c.args.waiting.now.verb)) did in
    part_on_said _ _ _ (calls count c.args.waiting.now.verb o ∷ []) _ called c.say_tried.ensures.effort c.say_tried.ensures.number (part_as _ _ _ _ (says_tried c.args.waiting.now o _ _ is.reply is.sync) (part_err (Unit {0}) c.from_residual-in_err-say_tried.result _ _ _ _ c.from_residual-in_err-say_tried.ensures.1 (c.in_err-say_tried.ensures.part room')))

pub returns-clause-tried : goal.returns-clause-tried
returns-clause-tried g c = λ s stands may.
    let o = step (as_described c.args.engine.now.desc) s c.args.waiting.now.program c.args.waiting.now.verb in
    let count = counts_of (as_described c.args.engine.now.desc) s c.args.waiting.now.program c.args.waiting.now.verb in
    let did = c.in_ok-answer.ensures.step s stands may in
    let is = did.answers in
    let room' : (engine_view c.call.new.self).next + 1 < 2 ^ 64 = omega (arith, is.session.next, (step_small (as_described c.args.engine.now.desc) s c.args.waiting.now.program c.args.waiting.now.verb).high, may.room) in
    let called = ran_calls _ _ count c.args.waiting.now.verb o c.in_ok-answer.answer c.call.ensures.lasts.causes.tells c.call.ensures.lasts.causes.whole c.call.ensures.lasts.causes.desc c.call.ensures.lasts.causes.pace c.in_ok-answer.ensures.costs (c.call.ensures.spends s stands) c.in_ok-answer.ensures.idle c.in_ok-answer.ensures.lasts.causes.cause c.call.ensures.mute (omega (arith, stands.next, is.session.next, step_numbers (as_described c.args.engine.now.desc) s c.args.waiting.now.program c.args.waiting.now.verb)) did in
    record {
      answers = ap not (c.is_waits.ensures ∙ ap (λ (r : Reply). is_waits r) is.reply);
      session = c.in_ok-say_tried.ensures.stands o.session is.session;
      ran = ran_on _ _ _ (calls count c.args.waiting.now.verb o ∷ []) _ called (ran_as _ _ _ _ (says_tried c.args.waiting.now o _ _ is.reply is.sync) (c.in_ok-say_tried.ensures.ran room'));
    }

pub returns-clause-part : goal.returns-clause-part
returns-clause-part g c = λ s stands may.
    let o = step (as_described c.args.engine.now.desc) s c.args.waiting.now.program c.args.waiting.now.verb in
    let count = counts_of (as_described c.args.engine.now.desc) s c.args.waiting.now.program c.args.waiting.now.verb in
    let did = c.in_ok-answer.ensures.step s stands may in
    let is = did.answers in
    let room' : (engine_view c.call.new.self).next + 1 < 2 ^ 64 = omega (arith, is.session.next, (step_small (as_described c.args.engine.now.desc) s c.args.waiting.now.program c.args.waiting.now.verb).high, may.room) in
    let called = ran_calls _ _ count c.args.waiting.now.verb o c.in_ok-answer.answer c.call.ensures.lasts.causes.tells c.call.ensures.lasts.causes.whole c.call.ensures.lasts.causes.desc c.call.ensures.lasts.causes.pace c.in_ok-answer.ensures.costs (c.call.ensures.spends s stands) c.in_ok-answer.ensures.idle c.in_ok-answer.ensures.lasts.causes.cause c.call.ensures.mute (omega (arith, stands.next, is.session.next, step_numbers (as_described c.args.engine.now.desc) s c.args.waiting.now.program c.args.waiting.now.verb)) did in
    part_on_said _ _ _ (calls count c.args.waiting.now.verb o ∷ []) _ called c.say_tried.ensures.effort c.say_tried.ensures.number (part_as _ _ _ _ (says_tried c.args.waiting.now o _ _ is.reply is.sync) (c.in_ok-say_tried.ensures.part room'))
