use Rattle.dms_storeverbs.proofs.Lasting.{lasts_none, lasts_on}
use Rattle.dms_storeverbs.specs.View.{engine_view}
use Rattle.dms_block.specs.declared.block_fault.BlockFault.TheVariants.{Memory}
use Rattle.std.proofs.Common.{ℕ, List, subst}
use Rattle.dms_block.specs.Texts.{Prints, PrintsPrefix}
use Rattle.dms_runner.specs.Events.{text_of}
use Rattle.dms_runner.proofs.Texts.{prints_none, prints_on, front_all, front_on, front_of_first}
use Rattle.dms_runner.proofs.Unanswered.{text_more, text_rest, text_split}
use Rattle.std.proofs.Common.{◌≡◌, ◌∙◌, ◌+◌, ◌<◌, ◌^◌, refl, sym, ap, arith, take}
use Rattle.dms_runner.proofs.Answered.{held_answered}
use Rattle.dms_runner.proofs.Happening.{undamaged_by, ran_none, ran_says, ran_on, ran_as, part_says, part_all, part_on, part_of_first, part_as, cut_as, had_room, say_failed}
use Rattle.dms_runner.proofs.Unanswered.{unanswered_all, unanswered_split, unanswered_more, unanswered_rest, line_text}
use Rattle.dms_runner.proofs.run.say_waiting.Goals as goal

pub loop-line-init : goal.loop-line-init
loop-line-init g c = record {
  lasts = lasts_none g.met.St.Store.same_again _ c.requires.sound;
  stands = λ s stands. stands;
  next = refl;
  programs = refl;
  text = prints_none _ _ refl;
  ran = λ room. ran_none _;
}

pub returns-in_err-text-clause-part : goal.returns-in_err-text-clause-part
returns-in_err-text-clause-part g c = λ room.
    part_as _ _ _ _ (sym (unanswered_split c.args.waiting.now c.loop-line.line-index)) (part_of_first _ _ _ _ (part_all (had_room c.from_residual.result Memory c.from_residual.ensures.1 tt) _ _ _ (c.loop-line.invariant.ran room)))

pub returns-in_err-say-clause-part : goal.returns-in_err-say-clause-part
returns-in_err-say-clause-part g c = λ room.
    let text : c.as_slice.result.now ≡ line_text c.line-item.result = c.as_slice.ensures ∙ c.in_ok-text.ensures in
    let room' : (engine_view c.loop-line.engine).next + 1 < 2 ^ 64 = omega (arith, c.loop-line.invariant.next, room) in
    part_as _ _ _ _ (sym (unanswered_rest c.args.waiting.now c.loop-line.line-index c.line-item.result c.loop-line-test.true (sym c.line-item.is)))
    (part_on _ _ _ _ _ (c.loop-line.invariant.ran room) (held_answered (take c.loop-line.line-index c.args.waiting.now)) (part_of_first _ _ _ _ (part_says (say_failed c.from_residual-in_err-say.result _ c.from_residual-in_err-say.ensures.1 c.in_err-say.ensures.fault) _ _ _ _ text c.say.ensures.effort (undamaged_by _ (engine_view c.say.new.self) c.say.result c.say.ensures.undamaged c.say.ensures.lasts.causes.cause) c.say.ensures.part (λ uncut. absurd (uncut (cut_as _ _ c.from_residual-in_err-say.ensures.1 c.in_err-say.ensures.fault))) room')))

pub loop-line-preserved : goal.loop-line-preserved
loop-line-preserved g c = record {
  lasts = lasts_on g.met.St.Store.same_then c.loop-line.invariant.lasts c.in_ok-say.ensures.lasts;
  stands = λ s stands. c.in_ok-say.ensures.stands s (c.loop-line.invariant.stands s stands);
  next = c.say.ensures.part.next ∙ c.loop-line.invariant.next;
  programs = c.say.ensures.programs ∙ c.loop-line.invariant.programs;
  text = subst (λ (t : List ℕ). Prints (engine_view c.args.engine.now).said (engine_view c.say.new.self).said t) (sym (text_more c.args.waiting.now c.loop-line.line-index c.line-item.result c.loop-line-test.true (sym c.line-item.is)))
      (prints_on _ _ _ _ _ c.loop-line.invariant.text (subst (λ (t : List ℕ). Prints (engine_view c.loop-line.engine).said (engine_view c.say.new.self).said t) (c.as_slice.ensures ∙ c.in_ok-text.ensures) c.in_ok-say.ensures.text));
  ran = λ room.
      let text : c.as_slice.result.now ≡ line_text c.line-item.result = c.as_slice.ensures ∙ c.in_ok-text.ensures in
      let room' : (engine_view c.loop-line.engine).next + 1 < 2 ^ 64 = omega (arith, c.loop-line.invariant.next, room) in
      ran_as _ _ _ _ (sym (unanswered_more c.args.waiting.now c.loop-line.line-index c.line-item.result c.loop-line-test.true (sym c.line-item.is)))
      (ran_on _ _ _ _ _ (c.loop-line.invariant.ran room) (ran_says _ _ _ _ text c.say.ensures.lasts.causes.tells c.say.ensures.lasts.causes.whole c.say.ensures.lasts.causes.desc c.say.ensures.lasts.causes.pace c.say.ensures.effort (undamaged_by _ (engine_view c.say.new.self) c.say.result c.say.ensures.undamaged c.say.ensures.lasts.causes.cause) c.in_ok-say.ensures.text c.say.ensures.part c.in_ok-say.ensures.keeps room'));
}

pub returns-clause-ran : goal.returns-clause-ran
returns-clause-ran g c = λ room. ran_as _ _ _ _ (unanswered_all c.args.waiting.now c.loop-line.line-index (omega (arith, c.loop-line-test.false))) (c.loop-line.invariant.ran room)

pub returns-clause-part : goal.returns-clause-part
returns-clause-part g c = λ room.
    part_as _ _ _ _ (sym (unanswered_split c.args.waiting.now c.loop-line.line-index)) (part_of_first _ _ _ _ (part_all (λ n none. none) _ _ _ (c.loop-line.invariant.ran room)))

pub returns-in_err-text-clause-front : goal.returns-in_err-text-clause-front
returns-in_err-text-clause-front g c =
    subst (λ (t : List ℕ). PrintsPrefix (engine_view c.args.engine.now).said (engine_view c.loop-line.engine).said t) (sym (text_split c.args.waiting.now c.loop-line.line-index)) (front_of_first _ _ _ _ (front_all _ _ _ c.loop-line.invariant.text))

pub returns-in_err-say-clause-front : goal.returns-in_err-say-clause-front
returns-in_err-say-clause-front g c =
    let text : c.as_slice.result.now ≡ line_text c.line-item.result = c.as_slice.ensures ∙ c.in_ok-text.ensures in
    subst (λ (t : List ℕ). PrintsPrefix (engine_view c.args.engine.now).said (engine_view c.say.new.self).said t) (sym (text_rest c.args.waiting.now c.loop-line.line-index c.line-item.result c.loop-line-test.true (sym c.line-item.is)))
    (front_on _ _ _ _ _ c.loop-line.invariant.text (front_of_first _ _ _ _ (subst (λ (t : List ℕ). PrintsPrefix (engine_view c.loop-line.engine).said (engine_view c.say.new.self).said t) text c.say.ensures.part.part)))

pub returns-clause-text : goal.returns-clause-text
returns-clause-text g c = subst (λ (t : List ℕ). Prints (engine_view c.args.engine.now).said (engine_view c.loop-line.engine).said t) (ap text_of (unanswered_all c.args.waiting.now c.loop-line.line-index (omega (arith, c.loop-line-test.false)))) c.loop-line.invariant.text

pub returns-clause-front : goal.returns-clause-front
returns-clause-front g c =
    subst (λ (t : List ℕ). PrintsPrefix (engine_view c.args.engine.now).said (engine_view c.loop-line.engine).said t) (sym (text_split c.args.waiting.now c.loop-line.line-index)) (front_of_first _ _ _ _ (front_all _ _ _ c.loop-line.invariant.text))
