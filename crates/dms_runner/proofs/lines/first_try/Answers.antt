use Rattle.dms_storeverbs.specs.View.{engine_view}
use Rattle.dms_block.specs.declared.block_fault.BlockFault.TheVariants.{Memory}
use Rattle.std.proofs.Common.{◌∙◌, ◌+◌, ◌<◌, ◌^◌, [], ◌∷◌, ◌++◌, ℕ, List, true, sym, ap, arith, length}
use Rattle.dms_desc.specs.Shape.{as_described}
use Rattle.dms_model.specs.Counting.{counts_of}
use Rattle.dms_model.specs.Session.{step, is_waits}
use Rattle.dms_model.proofs.Rises.{step_small}
use Rattle.dms_runner.specs.declared.waiting.WaitingLine.{WaitingLine as LineWaiting}
use Rattle.dms_runner.specs.Waiting.{answer_text}
use Rattle.dms_runner.specs.Answers.{LineEffect, first_line}
use Rattle.dms_runner.specs.Events.{calls, says}
use Rattle.dms_runner.proofs.InOrder.{may_step, order_under, step_in_order}
use Rattle.dms_runner.proofs.Verbs.{held_more, held_under}
use Rattle.dms_runner.proofs.Answered.{says_nothing_more}
use Rattle.dms_storeverbs.specs.Costs.{IsFullFor}
use Rattle.dms_runner.proofs.Happening.{step_numbers, ran_calls, ran_on, ran_as, part_calls, part_of_first, part_on, part_on_said, part_all, part_as, part_err, had_room, full_call}
use Rattle.dms_runner.proofs.Lining.{lined_as, goes_retried, retries_from, retries_part_from, goes_waiting, goes_full, tried_starts, tried_waits, tried_answered, says_answer, waiting_events, full_events}
use Rattle.dms_runner.specs.Firsts.{lines_of}
use Rattle.dms_runner.proofs.lines.first_try.Goals as goal

pub retry_all-requires-clause-verbs : goal.retry_all-requires-clause-verbs
retry_all-requires-clause-verbs g c = held_under _ (ap as_described (sym (c.say_answer.ensures.lasts.description ∙ c.call.ensures.lasts.description))) c.requires.verbs

pub returns-then-not-is_waits-clause-verbs : goal.returns-then-not-is_waits-clause-verbs
returns-then-not-is_waits-clause-verbs g c = held_under _ (ap as_described (c.say_answer.ensures.lasts.description ∙ c.call.ensures.lasts.description)) c.in_ok-retry_all.ensures.verbs

pub returns-clause-verbs : goal.returns-clause-verbs
returns-clause-verbs g c = held_more (as_described c.args.engine.now.desc) c.args.waiting.now c.hold.new.waiting _ c.in_ok-hold.ensures.lines c.in_ok-hold.ensures.firsts c.requires.verb c.requires.verbs

pub returns-in_err-answer-clause-part : goal.returns-in_err-answer-clause-part
returns-in_err-answer-clause-part g c = λ now stands same line may.
    let o = step (as_described c.args.engine.now.desc) now.session c.args.name c.args.verb in
    let count = counts_of (as_described c.args.engine.now.desc) now.session c.args.name c.args.verb in
    let starts = tried_starts (as_described c.args.engine.now.desc) now c.args.name c.args.verb count o in
    part_as _ _ _ _ (sym starts.1) (part_of_first _ _ (calls count c.args.verb o ∷ []) starts.0 (part_calls _ _ _ count c.args.verb o (full_call c.from_residual.result _ (IsFullFor _ c.args.verb o) c.from_residual.ensures.1 (c.in_err-answer.ensures.full now.session stands (may_step may))) c.call.ensures.costs (c.call.ensures.spends now.session stands) c.call.ensures.lasts.causes.cause c.call.ensures.mute (c.call.ensures.step now.session stands (may_step may))))

pub returns-in_err-say_answer-clause-part : goal.returns-in_err-say_answer-clause-part
returns-in_err-say_answer-clause-part g c = λ now stands same line may.
    let o = step (as_described c.args.engine.now.desc) now.session c.args.name c.args.verb in
    let count = counts_of (as_described c.args.engine.now.desc) now.session c.args.name c.args.verb in
    let did = c.in_ok-answer.ensures.step now.session stands (may_step may) in
    let is = did.answers in
    let room' : (engine_view c.call.new.self).next + 1 < 2 ^ 64 = omega (arith, is.session.next, (step_small (as_described c.args.engine.now.desc) now.session c.args.name c.args.verb).high, may.room) in
    let called = ran_calls _ _ count c.args.verb o c.in_ok-answer.answer c.call.ensures.lasts.causes.tells c.call.ensures.lasts.causes.whole c.call.ensures.lasts.causes.desc c.call.ensures.lasts.causes.pace c.in_ok-answer.ensures.costs (c.call.ensures.spends now.session stands) c.in_ok-answer.ensures.idle c.in_ok-answer.ensures.lasts.causes.cause c.call.ensures.mute (omega (arith, stands.next, is.session.next, step_numbers (as_described c.args.engine.now.desc) now.session c.args.name c.args.verb)) did in
    let text = says_answer c.args.line now.line c.args.name c.in_ok-answer.answer.reply o.reply c.in_ok-answer.answer.sync o.sync (sym line) is.reply is.sync in
    let e = tried_answered (as_described c.args.engine.now.desc) now c.args.name c.args.verb count o (ap is_waits (sym is.reply) ∙ sym c.is_waits.ensures ∙ c.if-not-is_waits.true) in
    part_as _ _ _ _ (sym (ap (λ (l : LineEffect). l.events) e)) (part_of_first _ _ (calls count c.args.verb o ∷ says (answer_text now.line c.args.name o.reply o.sync) ∷ []) _ (part_on_said _ _ _ (calls count c.args.verb o ∷ []) _ called c.say_answer.ensures.effort c.say_answer.ensures.number (part_as _ _ _ _ text (part_err (Unit {0}) c.from_residual-in_err-say_answer.result _ _ _ _ c.from_residual-in_err-say_answer.ensures.1 (c.in_err-say_answer.ensures.part room')))))

pub returns-in_err-retry_all-clause-part : goal.returns-in_err-retry_all-clause-part
returns-in_err-retry_all-clause-part g c = λ now stands same line may.
    let o = step (as_described c.args.engine.now.desc) now.session c.args.name c.args.verb in
    let count = counts_of (as_described c.args.engine.now.desc) now.session c.args.name c.args.verb in
    let did = c.in_ok-answer.ensures.step now.session stands (may_step may) in
    let is = did.answers in
    let room' : (engine_view c.call.new.self).next + 1 < 2 ^ 64 = omega (arith, is.session.next, (step_small (as_described c.args.engine.now.desc) now.session c.args.name c.args.verb).high, may.room) in
    let called = ran_calls _ _ count c.args.verb o c.in_ok-answer.answer c.call.ensures.lasts.causes.tells c.call.ensures.lasts.causes.whole c.call.ensures.lasts.causes.desc c.call.ensures.lasts.causes.pace c.in_ok-answer.ensures.costs (c.call.ensures.spends now.session stands) c.in_ok-answer.ensures.idle c.in_ok-answer.ensures.lasts.causes.cause c.call.ensures.mute (omega (arith, stands.next, is.session.next, step_numbers (as_described c.args.engine.now.desc) now.session c.args.name c.args.verb)) did in
    let text = says_answer c.args.line now.line c.args.name c.in_ok-answer.answer.reply o.reply c.in_ok-answer.answer.sync o.sync (sym line) is.reply is.sync in
    let e = tried_answered (as_described c.args.engine.now.desc) now c.args.name c.args.verb count o (ap is_waits (sym is.reply) ∙ sym c.is_waits.ensures ∙ c.if-not-is_waits.true) in
    part_as _ _ _ _ (sym (ap (λ (l : LineEffect). l.events) e)) (part_on _ _ _ (calls count c.args.verb o ∷ says (answer_text now.line c.args.name o.reply o.sync) ∷ []) _ (ran_on _ _ _ (calls count c.args.verb o ∷ []) (says (answer_text now.line c.args.name o.reply o.sync) ∷ []) called (ran_as _ _ _ _ text (c.in_ok-say_answer.ensures.ran room'))) (says_nothing_more _)
    (retries_part_from _ _ o.session _ _ _ _ (ap as_described (c.say_answer.ensures.lasts.description ∙ c.call.ensures.lasts.description)) (sym same) (part_err (Unit {0}) c.from_residual-in_err-retry_all.result _ _ _ _ c.from_residual-in_err-retry_all.ensures.1 (c.in_err-retry_all.ensures.part o.session (c.in_ok-say_answer.ensures.stands o.session is.session) (omega (arith, may.room, ap length same, (step_small (as_described c.args.engine.now.desc) now.session c.args.name c.args.verb).high)) (order_under (ap as_described (sym (c.say_answer.ensures.lasts.description ∙ c.call.ensures.lasts.description))) (step_in_order (as_described c.args.engine.now.desc) now.session c.args.name c.args.verb c.requires.verb may.order))))))

pub returns-then-not-is_waits-clause-lined : goal.returns-then-not-is_waits-clause-lined
returns-then-not-is_waits-clause-lined g c = λ now stands same line may.
    let o = step (as_described c.args.engine.now.desc) now.session c.args.name c.args.verb in
    let count = counts_of (as_described c.args.engine.now.desc) now.session c.args.name c.args.verb in
    let did = c.in_ok-answer.ensures.step now.session stands (may_step may) in
    let is = did.answers in
    let room' : (engine_view c.call.new.self).next + 1 < 2 ^ 64 = omega (arith, is.session.next, (step_small (as_described c.args.engine.now.desc) now.session c.args.name c.args.verb).high, may.room) in
    let called = ran_calls _ _ count c.args.verb o c.in_ok-answer.answer c.call.ensures.lasts.causes.tells c.call.ensures.lasts.causes.whole c.call.ensures.lasts.causes.desc c.call.ensures.lasts.causes.pace c.in_ok-answer.ensures.costs (c.call.ensures.spends now.session stands) c.in_ok-answer.ensures.idle c.in_ok-answer.ensures.lasts.causes.cause c.call.ensures.mute (omega (arith, stands.next, is.session.next, step_numbers (as_described c.args.engine.now.desc) now.session c.args.name c.args.verb)) did in
    let text = says_answer c.args.line now.line c.args.name c.in_ok-answer.answer.reply o.reply c.in_ok-answer.answer.sync o.sync (sym line) is.reply is.sync in
    let e = tried_answered (as_described c.args.engine.now.desc) now c.args.name c.args.verb count o (ap is_waits (sym is.reply) ∙ sym c.is_waits.ensures ∙ c.if-not-is_waits.true) in
    lined_as _ _ _ _ _ _ _ (sym e) (goes_retried _ now o.session (calls count c.args.verb o ∷ says (answer_text now.line c.args.name o.reply o.sync) ∷ []) _ _ _ _ _ (ran_on _ _ _ (calls count c.args.verb o ∷ []) (says (answer_text now.line c.args.name o.reply o.sync) ∷ []) called (ran_as _ _ _ _ text (c.in_ok-say_answer.ensures.ran room')))
    (retries_from _ _ o.session _ _ _ _ _ _ (ap as_described (c.say_answer.ensures.lasts.description ∙ c.call.ensures.lasts.description)) (sym same) (c.in_ok-retry_all.ensures.retries o.session (c.in_ok-say_answer.ensures.stands o.session is.session) (omega (arith, may.room, ap length same, (step_small (as_described c.args.engine.now.desc) now.session c.args.name c.args.verb).high)) (order_under (ap as_described (sym (c.say_answer.ensures.lasts.description ∙ c.call.ensures.lasts.description))) (step_in_order (as_described c.args.engine.now.desc) now.session c.args.name c.args.verb c.requires.verb may.order)))))

pub returns-then-not-is_waits-clause-part : goal.returns-then-not-is_waits-clause-part
returns-then-not-is_waits-clause-part g c = λ now stands same line may.
    let o = step (as_described c.args.engine.now.desc) now.session c.args.name c.args.verb in
    let count = counts_of (as_described c.args.engine.now.desc) now.session c.args.name c.args.verb in
    let did = c.in_ok-answer.ensures.step now.session stands (may_step may) in
    let is = did.answers in
    let room' : (engine_view c.call.new.self).next + 1 < 2 ^ 64 = omega (arith, is.session.next, (step_small (as_described c.args.engine.now.desc) now.session c.args.name c.args.verb).high, may.room) in
    let called = ran_calls _ _ count c.args.verb o c.in_ok-answer.answer c.call.ensures.lasts.causes.tells c.call.ensures.lasts.causes.whole c.call.ensures.lasts.causes.desc c.call.ensures.lasts.causes.pace c.in_ok-answer.ensures.costs (c.call.ensures.spends now.session stands) c.in_ok-answer.ensures.idle c.in_ok-answer.ensures.lasts.causes.cause c.call.ensures.mute (omega (arith, stands.next, is.session.next, step_numbers (as_described c.args.engine.now.desc) now.session c.args.name c.args.verb)) did in
    let text = says_answer c.args.line now.line c.args.name c.in_ok-answer.answer.reply o.reply c.in_ok-answer.answer.sync o.sync (sym line) is.reply is.sync in
    let e = tried_answered (as_described c.args.engine.now.desc) now c.args.name c.args.verb count o (ap is_waits (sym is.reply) ∙ sym c.is_waits.ensures ∙ c.if-not-is_waits.true) in
    part_as _ _ _ _ (sym (ap (λ (l : LineEffect). l.events) e)) (part_on _ _ _ (calls count c.args.verb o ∷ says (answer_text now.line c.args.name o.reply o.sync) ∷ []) _ (ran_on _ _ _ (calls count c.args.verb o ∷ []) (says (answer_text now.line c.args.name o.reply o.sync) ∷ []) called (ran_as _ _ _ _ text (c.in_ok-say_answer.ensures.ran room'))) (says_nothing_more _)
    (retries_part_from _ _ o.session _ _ _ _ (ap as_described (c.say_answer.ensures.lasts.description ∙ c.call.ensures.lasts.description)) (sym same) (c.in_ok-retry_all.ensures.part o.session (c.in_ok-say_answer.ensures.stands o.session is.session) (omega (arith, may.room, ap length same, (step_small (as_described c.args.engine.now.desc) now.session c.args.name c.args.verb).high)) (order_under (ap as_described (sym (c.say_answer.ensures.lasts.description ∙ c.call.ensures.lasts.description))) (step_in_order (as_described c.args.engine.now.desc) now.session c.args.name c.args.verb c.requires.verb may.order)))))

pub returns-then-waiting-ge-WAITING_LINES-clause-lined : goal.returns-then-waiting-ge-WAITING_LINES-clause-lined
returns-then-waiting-ge-WAITING_LINES-clause-lined g c = λ now stands same line may.
    let o = step (as_described c.args.engine.now.desc) now.session c.args.name c.args.verb in
    let count = counts_of (as_described c.args.engine.now.desc) now.session c.args.name c.args.verb in
    let did = c.in_ok-answer.ensures.step now.session stands (may_step may) in
    let is = did.answers in
    let room' : (engine_view c.call.new.self).next + 1 < 2 ^ 64 = omega (arith, is.session.next, (step_small (as_described c.args.engine.now.desc) now.session c.args.name c.args.verb).high, may.room) in
    let called = ran_calls _ _ count c.args.verb o c.in_ok-answer.answer c.call.ensures.lasts.causes.tells c.call.ensures.lasts.causes.whole c.call.ensures.lasts.causes.desc c.call.ensures.lasts.causes.pace c.in_ok-answer.ensures.costs (c.call.ensures.spends now.session stands) c.in_ok-answer.ensures.idle c.in_ok-answer.ensures.lasts.causes.cause c.call.ensures.mute (omega (arith, stands.next, is.session.next, step_numbers (as_described c.args.engine.now.desc) now.session c.args.name c.args.verb)) did in
    let text = says_answer c.args.line now.line c.args.name c.in_ok-answer.answer.reply o.reply c.in_ok-answer.answer.sync o.sync (sym line) is.reply is.sync in
    let e = tried_waits (as_described c.args.engine.now.desc) now c.args.name c.args.verb count o (ap is_waits (sym is.reply) ∙ sym c.is_waits.ensures ∙ c.if-not-is_waits.false) in
    lined_as _ _ _ _ _ _ _ (sym e) (goes_full now o.session (first_line now.line c.args.name c.args.verb true) (calls count c.args.verb o ∷ []) _ _ _ _ _ (omega (arith, ap length same, c.if-waiting-ge-WAITING_LINES.true, c.requires.verbs.firsts.count)) is.session (sym same) called)

pub returns-then-waiting-ge-WAITING_LINES-clause-part : goal.returns-then-waiting-ge-WAITING_LINES-clause-part
returns-then-waiting-ge-WAITING_LINES-clause-part g c = λ now stands same line may.
    let o = step (as_described c.args.engine.now.desc) now.session c.args.name c.args.verb in
    let count = counts_of (as_described c.args.engine.now.desc) now.session c.args.name c.args.verb in
    let did = c.in_ok-answer.ensures.step now.session stands (may_step may) in
    let is = did.answers in
    let room' : (engine_view c.call.new.self).next + 1 < 2 ^ 64 = omega (arith, is.session.next, (step_small (as_described c.args.engine.now.desc) now.session c.args.name c.args.verb).high, may.room) in
    let called = ran_calls _ _ count c.args.verb o c.in_ok-answer.answer c.call.ensures.lasts.causes.tells c.call.ensures.lasts.causes.whole c.call.ensures.lasts.causes.desc c.call.ensures.lasts.causes.pace c.in_ok-answer.ensures.costs (c.call.ensures.spends now.session stands) c.in_ok-answer.ensures.idle c.in_ok-answer.ensures.lasts.causes.cause c.call.ensures.mute (omega (arith, stands.next, is.session.next, step_numbers (as_described c.args.engine.now.desc) now.session c.args.name c.args.verb)) did in
    let text = says_answer c.args.line now.line c.args.name c.in_ok-answer.answer.reply o.reply c.in_ok-answer.answer.sync o.sync (sym line) is.reply is.sync in
    let e = tried_waits (as_described c.args.engine.now.desc) now c.args.name c.args.verb count o (ap is_waits (sym is.reply) ∙ sym c.is_waits.ensures ∙ c.if-not-is_waits.false) in
    part_as _ _ _ _ (sym (ap (λ (l : LineEffect). l.events) e ∙ full_events now o.session _ _ _ (omega (arith, ap length same, c.if-waiting-ge-WAITING_LINES.true, c.requires.verbs.firsts.count)))) (part_all (λ n none. none) _ _ _ called)

pub returns-in_err-say_answer-2-clause-part : goal.returns-in_err-say_answer-2-clause-part
returns-in_err-say_answer-2-clause-part g c = λ now stands same line may.
    let o = step (as_described c.args.engine.now.desc) now.session c.args.name c.args.verb in
    let count = counts_of (as_described c.args.engine.now.desc) now.session c.args.name c.args.verb in
    let did = c.in_ok-answer.ensures.step now.session stands (may_step may) in
    let is = did.answers in
    let room' : (engine_view c.call.new.self).next + 1 < 2 ^ 64 = omega (arith, is.session.next, (step_small (as_described c.args.engine.now.desc) now.session c.args.name c.args.verb).high, may.room) in
    let called = ran_calls _ _ count c.args.verb o c.in_ok-answer.answer c.call.ensures.lasts.causes.tells c.call.ensures.lasts.causes.whole c.call.ensures.lasts.causes.desc c.call.ensures.lasts.causes.pace c.in_ok-answer.ensures.costs (c.call.ensures.spends now.session stands) c.in_ok-answer.ensures.idle c.in_ok-answer.ensures.lasts.causes.cause c.call.ensures.mute (omega (arith, stands.next, is.session.next, step_numbers (as_described c.args.engine.now.desc) now.session c.args.name c.args.verb)) did in
    let text = says_answer c.args.line now.line c.args.name c.in_ok-answer.answer.reply o.reply c.in_ok-answer.answer.sync o.sync (sym line) is.reply is.sync in
    let e = tried_waits (as_described c.args.engine.now.desc) now c.args.name c.args.verb count o (ap is_waits (sym is.reply) ∙ sym c.is_waits.ensures ∙ c.if-not-is_waits.false) in
    let few : length now.waiting < 10000 = omega (arith, ap length same, c.if-waiting-ge-WAITING_LINES.false, c.requires.verbs.firsts.count) in
    part_as _ _ _ _ (sym (ap (λ (l : LineEffect). l.events) e ∙ waiting_events now o.session _ _ _ few)) (part_on_said _ _ _ (calls count c.args.verb o ∷ []) _ called c.say_answer-2.ensures.effort c.say_answer-2.ensures.number (part_as _ _ _ _ text (part_err (Unit {0}) c.from_residual-in_err-say_answer-2.result _ _ _ _ c.from_residual-in_err-say_answer-2.ensures.1 (c.in_err-say_answer-2.ensures.part room'))))

pub returns-in_err-hold-clause-part : goal.returns-in_err-hold-clause-part
returns-in_err-hold-clause-part g c = λ now stands same line may.
    let o = step (as_described c.args.engine.now.desc) now.session c.args.name c.args.verb in
    let count = counts_of (as_described c.args.engine.now.desc) now.session c.args.name c.args.verb in
    let did = c.in_ok-answer.ensures.step now.session stands (may_step may) in
    let is = did.answers in
    let room' : (engine_view c.call.new.self).next + 1 < 2 ^ 64 = omega (arith, is.session.next, (step_small (as_described c.args.engine.now.desc) now.session c.args.name c.args.verb).high, may.room) in
    let called = ran_calls _ _ count c.args.verb o c.in_ok-answer.answer c.call.ensures.lasts.causes.tells c.call.ensures.lasts.causes.whole c.call.ensures.lasts.causes.desc c.call.ensures.lasts.causes.pace c.in_ok-answer.ensures.costs (c.call.ensures.spends now.session stands) c.in_ok-answer.ensures.idle c.in_ok-answer.ensures.lasts.causes.cause c.call.ensures.mute (omega (arith, stands.next, is.session.next, step_numbers (as_described c.args.engine.now.desc) now.session c.args.name c.args.verb)) did in
    let text = says_answer c.args.line now.line c.args.name c.in_ok-answer.answer.reply o.reply c.in_ok-answer.answer.sync o.sync (sym line) is.reply is.sync in
    let e = tried_waits (as_described c.args.engine.now.desc) now c.args.name c.args.verb count o (ap is_waits (sym is.reply) ∙ sym c.is_waits.ensures ∙ c.if-not-is_waits.false) in
    let few : length now.waiting < 10000 = omega (arith, ap length same, c.if-waiting-ge-WAITING_LINES.false, c.requires.verbs.firsts.count) in
    part_as _ _ _ _ (sym (ap (λ (l : LineEffect). l.events) e ∙ waiting_events now o.session _ _ _ few)) (part_all (had_room c.from_residual-in_err-hold.result Memory c.from_residual-in_err-hold.ensures.1 tt) _ _ _ (ran_on _ _ _ (calls count c.args.verb o ∷ []) (says (answer_text now.line c.args.name o.reply o.sync) ∷ []) called (ran_as _ _ _ _ text (c.in_ok-say_answer-2.ensures.ran room'))))

pub returns-clause-lined : goal.returns-clause-lined
returns-clause-lined g c = λ now stands same line may.
    let o = step (as_described c.args.engine.now.desc) now.session c.args.name c.args.verb in
    let count = counts_of (as_described c.args.engine.now.desc) now.session c.args.name c.args.verb in
    let did = c.in_ok-answer.ensures.step now.session stands (may_step may) in
    let is = did.answers in
    let room' : (engine_view c.call.new.self).next + 1 < 2 ^ 64 = omega (arith, is.session.next, (step_small (as_described c.args.engine.now.desc) now.session c.args.name c.args.verb).high, may.room) in
    let called = ran_calls _ _ count c.args.verb o c.in_ok-answer.answer c.call.ensures.lasts.causes.tells c.call.ensures.lasts.causes.whole c.call.ensures.lasts.causes.desc c.call.ensures.lasts.causes.pace c.in_ok-answer.ensures.costs (c.call.ensures.spends now.session stands) c.in_ok-answer.ensures.idle c.in_ok-answer.ensures.lasts.causes.cause c.call.ensures.mute (omega (arith, stands.next, is.session.next, step_numbers (as_described c.args.engine.now.desc) now.session c.args.name c.args.verb)) did in
    let text = says_answer c.args.line now.line c.args.name c.in_ok-answer.answer.reply o.reply c.in_ok-answer.answer.sync o.sync (sym line) is.reply is.sync in
    let e = tried_waits (as_described c.args.engine.now.desc) now c.args.name c.args.verb count o (ap is_waits (sym is.reply) ∙ sym c.is_waits.ensures ∙ c.if-not-is_waits.false) in
    let few : length now.waiting < 10000 = omega (arith, ap length same, c.if-waiting-ge-WAITING_LINES.false, c.requires.verbs.firsts.count) in
    lined_as _ _ _ _ _ _ _ (sym e) (goes_waiting now o.session (first_line now.line c.args.name c.args.verb true) (calls count c.args.verb o ∷ []) _ _ _ _ _ few (c.in_ok-say_answer-2.ensures.stands o.session is.session)
    (c.in_ok-hold.ensures.lines ∙ ap (λ (n : ℕ). (lines_of c.args.waiting.now) ++ first_line n c.args.name c.args.verb true ∷ []) (sym line) ∙ ap (λ (l : List LineWaiting). l ++ first_line now.line c.args.name c.args.verb true ∷ []) (sym same)) (ran_on _ _ _ (calls count c.args.verb o ∷ []) (says (answer_text now.line c.args.name o.reply o.sync) ∷ []) called (ran_as _ _ _ _ text (c.in_ok-say_answer-2.ensures.ran room'))))

pub returns-clause-part : goal.returns-clause-part
returns-clause-part g c = λ now stands same line may.
    let o = step (as_described c.args.engine.now.desc) now.session c.args.name c.args.verb in
    let count = counts_of (as_described c.args.engine.now.desc) now.session c.args.name c.args.verb in
    let did = c.in_ok-answer.ensures.step now.session stands (may_step may) in
    let is = did.answers in
    let room' : (engine_view c.call.new.self).next + 1 < 2 ^ 64 = omega (arith, is.session.next, (step_small (as_described c.args.engine.now.desc) now.session c.args.name c.args.verb).high, may.room) in
    let called = ran_calls _ _ count c.args.verb o c.in_ok-answer.answer c.call.ensures.lasts.causes.tells c.call.ensures.lasts.causes.whole c.call.ensures.lasts.causes.desc c.call.ensures.lasts.causes.pace c.in_ok-answer.ensures.costs (c.call.ensures.spends now.session stands) c.in_ok-answer.ensures.idle c.in_ok-answer.ensures.lasts.causes.cause c.call.ensures.mute (omega (arith, stands.next, is.session.next, step_numbers (as_described c.args.engine.now.desc) now.session c.args.name c.args.verb)) did in
    let text = says_answer c.args.line now.line c.args.name c.in_ok-answer.answer.reply o.reply c.in_ok-answer.answer.sync o.sync (sym line) is.reply is.sync in
    let e = tried_waits (as_described c.args.engine.now.desc) now c.args.name c.args.verb count o (ap is_waits (sym is.reply) ∙ sym c.is_waits.ensures ∙ c.if-not-is_waits.false) in
    let few : length now.waiting < 10000 = omega (arith, ap length same, c.if-waiting-ge-WAITING_LINES.false, c.requires.verbs.firsts.count) in
    part_as _ _ _ _ (sym (ap (λ (l : LineEffect). l.events) e ∙ waiting_events now o.session _ _ _ few)) (part_all (λ n none. none) _ _ _ (ran_on _ _ _ (calls count c.args.verb o ∷ []) (says (answer_text now.line c.args.name o.reply o.sync) ∷ []) called (ran_as _ _ _ _ text (c.in_ok-say_answer-2.ensures.ran room'))))
