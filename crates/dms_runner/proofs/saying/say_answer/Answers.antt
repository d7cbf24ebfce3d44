use Rattle.dms_storeverbs.specs.View.{engine_view}
use Rattle.dms_block.specs.declared.block_fault.BlockFault.TheVariants.{Memory}
use Rattle.std.proofs.Common.{◌∙◌}
use Rattle.dms_runner.proofs.Always.{then_both}
use Rattle.dms_runner.proofs.Happening.{undamaged_by, ran_says, part_none, part_says, unless_cut, had_room, says_room}
use Rattle.dms_runner.proofs.saying.say_answer.Goals as goal

pub returns-in_err-text-clause-part : goal.returns-in_err-text-clause-part
returns-in_err-text-clause-part g c = λ room. part_none (had_room c.from_residual.result Memory c.from_residual.ensures.1 tt) _ _

pub returns-clause-number : goal.returns-clause-number
returns-clause-number g c = c.say.ensures.part.next

pub returns-clause-ran : goal.returns-clause-ran
returns-clause-ran g c = then_both c.say.result _ _ _ (λ text keeps room. ran_says _ _ _ _ (c.as_slice.ensures ∙ c.in_ok-text.ensures) c.say.ensures.lasts.causes.tells c.say.ensures.lasts.causes.whole c.say.ensures.lasts.causes.desc c.say.ensures.lasts.causes.pace c.say.ensures.effort (undamaged_by _ (engine_view c.say.new.self) c.say.result c.say.ensures.undamaged c.say.ensures.lasts.causes.cause) text c.say.ensures.part keeps room) c.say.ensures.text c.say.ensures.keeps

pub returns-clause-part : goal.returns-clause-part
returns-clause-part g c = λ room. part_says (says_room c.say.result c.say.ensures.fault) _ _ _ _ (c.as_slice.ensures ∙ c.in_ok-text.ensures) c.say.ensures.effort (undamaged_by _ (engine_view c.say.new.self) c.say.result c.say.ensures.undamaged c.say.ensures.lasts.causes.cause) c.say.ensures.part (unless_cut c.say.result _ c.say.ensures.fault c.say.ensures.text) room
