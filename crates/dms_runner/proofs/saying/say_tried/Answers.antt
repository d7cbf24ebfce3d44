use Rattle.std.proofs.Common.{◌∙◌, sym}
use Rattle.dms_runner.proofs.Always.{then_on}
use Rattle.dms_runner.proofs.Happening.{ran_silent, part_all, ran_as, part_as}
use Rattle.dms_runner.proofs.Tried.{silent_is, told_is}
use Rattle.dms_runner.proofs.saying.say_tried.Goals as goal

pub returns-then-is_silent-clause-ran : goal.returns-then-is_silent-clause-ran
returns-then-is_silent-clause-ran g c = λ room. ran_silent _ _ (silent_is c.args.waiting.now c.args.answer.now.reply c.args.answer.now.sync (sym c.is_silent.ensures ∙ c.if-is_silent.true))

pub returns-then-is_silent-clause-part : goal.returns-then-is_silent-clause-part
returns-then-is_silent-clause-part g c = λ room. part_all (λ n none. none) _ _ _ (ran_silent _ _ (silent_is c.args.waiting.now c.args.answer.now.reply c.args.answer.now.sync (sym c.is_silent.ensures ∙ c.if-is_silent.true)))

pub returns-clause-ran : goal.returns-clause-ran
returns-clause-ran g c = then_on c.say_answer.result _ _ (λ ran room. ran_as _ _ _ _ (told_is c.args.waiting.now c.args.answer.now.reply c.args.answer.now.sync (sym c.is_silent.ensures ∙ c.if-is_silent.false)) (ran room)) c.say_answer.ensures.ran

pub returns-clause-part : goal.returns-clause-part
returns-clause-part g c = λ room. part_as _ _ _ _ (told_is c.args.waiting.now c.args.answer.now.reply c.args.answer.now.sync (sym c.is_silent.ensures ∙ c.if-is_silent.false)) (c.say_answer.ensures.part room)

pub returns-clause-front : goal.returns-clause-front
returns-clause-front g c = rw (sym c.is_silent.ensures ∙ c.if-is_silent.false) c.say_answer.ensures.front
