use Rattle.dms_storeverbs.specs.View.{engine_view}
use Rattle.dms_block.specs.declared.block_fault.BlockFault.TheVariants.{Memory}
use Rattle.std.proofs.Common.{◌≡◌, ◌∙◌, ◌+◌, ◌<◌, ◌^◌, [], ◌∷◌, ℕ, sym, ap, arith, length}
use Rattle.dms_desc.specs.Shape.{as_described}
use Rattle.dms_script.specs.Replies.{bad_text}
use Rattle.dms_runner.specs.Events.{says}
use Rattle.dms_runner.proofs.Verbs.{held_under}
use Rattle.dms_runner.proofs.Answered.{says_nothing_more}
use Rattle.dms_runner.proofs.InOrder.{order_under}
use Rattle.dms_runner.proofs.Happening.{undamaged_by, ran_says, part_none, part_says, part_of_first, part_on, part_err, cut_as, had_room, say_failed}
use Rattle.dms_runner.proofs.Lining.{goes_retried, retries_from, retries_part_from}
use Rattle.dms_runner.proofs.lines.bad_line.Goals as goal

pub retry_all-requires-clause-verbs : goal.retry_all-requires-clause-verbs
retry_all-requires-clause-verbs g c = held_under _ (ap as_described (sym c.say.ensures.lasts.description)) c.requires.verbs

pub returns-clause-verbs : goal.returns-clause-verbs
returns-clause-verbs g c = held_under _ (ap as_described c.say.ensures.lasts.description) c.in_ok-retry_all.ensures.verbs

pub returns-in_err-text-clause-part : goal.returns-in_err-text-clause-part
returns-in_err-text-clause-part g c = λ now stands same line may. part_none (had_room c.from_residual.result Memory c.from_residual.ensures.1 tt) _ _

pub returns-in_err-say-clause-part : goal.returns-in_err-say-clause-part
returns-in_err-say-clause-part g c = λ now stands same line may.
    let room' : (engine_view c.args.engine.now).next + 1 < 2 ^ 64 = omega (arith, stands.next, may.room) in
    let text : c.as_slice.result.now ≡ bad_text now.line c.args.place = c.as_slice.ensures ∙ c.in_ok-text.ensures ∙ ap (λ (n : ℕ). bad_text n c.args.place) (sym line) in
    part_of_first _ _ (says (bad_text now.line c.args.place) ∷ []) _ (part_says (say_failed c.from_residual-in_err-say.result _ c.from_residual-in_err-say.ensures.1 c.in_err-say.ensures.fault) _ _ _ _ text c.say.ensures.effort (undamaged_by _ (engine_view c.say.new.self) c.say.result c.say.ensures.undamaged c.say.ensures.lasts.causes.cause) c.say.ensures.part (λ uncut. absurd (uncut (cut_as _ _ c.from_residual-in_err-say.ensures.1 c.in_err-say.ensures.fault))) room')

pub returns-in_err-retry_all-clause-part : goal.returns-in_err-retry_all-clause-part
returns-in_err-retry_all-clause-part g c = λ now stands same line may.
    let room' : (engine_view c.args.engine.now).next + 1 < 2 ^ 64 = omega (arith, stands.next, may.room) in
    let text : c.as_slice.result.now ≡ bad_text now.line c.args.place = c.as_slice.ensures ∙ c.in_ok-text.ensures ∙ ap (λ (n : ℕ). bad_text n c.args.place) (sym line) in
    let said = ran_says _ _ _ _ text c.say.ensures.lasts.causes.tells c.say.ensures.lasts.causes.whole c.say.ensures.lasts.causes.desc c.say.ensures.lasts.causes.pace c.say.ensures.effort (undamaged_by _ (engine_view c.say.new.self) c.say.result c.say.ensures.undamaged c.say.ensures.lasts.causes.cause) c.in_ok-say.ensures.text c.say.ensures.part c.in_ok-say.ensures.keeps room' in
    part_on _ _ _ (says (bad_text now.line c.args.place) ∷ []) _ said (says_nothing_more _)
    (retries_part_from _ _ now.session _ _ _ _ (ap as_described c.say.ensures.lasts.description) (sym same) (part_err (Unit {0}) c.from_residual-in_err-retry_all.result _ _ _ _ c.from_residual-in_err-retry_all.ensures.1 (c.in_err-retry_all.ensures.part now.session (c.in_ok-say.ensures.stands now.session stands) (omega (arith, may.room, ap length same)) (order_under (ap as_described (sym c.say.ensures.lasts.description)) may.order))))

pub returns-clause-lined : goal.returns-clause-lined
returns-clause-lined g c = λ now stands same line may.
    let room' : (engine_view c.args.engine.now).next + 1 < 2 ^ 64 = omega (arith, stands.next, may.room) in
    let text : c.as_slice.result.now ≡ bad_text now.line c.args.place = c.as_slice.ensures ∙ c.in_ok-text.ensures ∙ ap (λ (n : ℕ). bad_text n c.args.place) (sym line) in
    let said = ran_says _ _ _ _ text c.say.ensures.lasts.causes.tells c.say.ensures.lasts.causes.whole c.say.ensures.lasts.causes.desc c.say.ensures.lasts.causes.pace c.say.ensures.effort (undamaged_by _ (engine_view c.say.new.self) c.say.result c.say.ensures.undamaged c.say.ensures.lasts.causes.cause) c.in_ok-say.ensures.text c.say.ensures.part c.in_ok-say.ensures.keeps room' in
    goes_retried _ now now.session (says (bad_text now.line c.args.place) ∷ []) _ _ _ _ _ said
    (retries_from _ _ now.session _ _ _ _ _ _ (ap as_described c.say.ensures.lasts.description) (sym same) (c.in_ok-retry_all.ensures.retries now.session (c.in_ok-say.ensures.stands now.session stands) (omega (arith, may.room, ap length same)) (order_under (ap as_described (sym c.say.ensures.lasts.description)) may.order)))

pub returns-clause-part : goal.returns-clause-part
returns-clause-part g c = λ now stands same line may.
    let room' : (engine_view c.args.engine.now).next + 1 < 2 ^ 64 = omega (arith, stands.next, may.room) in
    let text : c.as_slice.result.now ≡ bad_text now.line c.args.place = c.as_slice.ensures ∙ c.in_ok-text.ensures ∙ ap (λ (n : ℕ). bad_text n c.args.place) (sym line) in
    let said = ran_says _ _ _ _ text c.say.ensures.lasts.causes.tells c.say.ensures.lasts.causes.whole c.say.ensures.lasts.causes.desc c.say.ensures.lasts.causes.pace c.say.ensures.effort (undamaged_by _ (engine_view c.say.new.self) c.say.result c.say.ensures.undamaged c.say.ensures.lasts.causes.cause) c.in_ok-say.ensures.text c.say.ensures.part c.in_ok-say.ensures.keeps room' in
    part_on _ _ _ (says (bad_text now.line c.args.place) ∷ []) _ said (says_nothing_more _)
    (retries_part_from _ _ now.session _ _ _ _ (ap as_described c.say.ensures.lasts.description) (sym same) (c.in_ok-retry_all.ensures.part now.session (c.in_ok-say.ensures.stands now.session stands) (omega (arith, may.room, ap length same)) (order_under (ap as_described (sym c.say.ensures.lasts.description)) may.order)))
