use Rattle.dms_storeverbs.proofs.Lasting.{lasts_none}
use Rattle.std.proofs.Common.{refl}
use Rattle.dms_runner.proofs.Blames.{none_lasts}
use Rattle.dms_runner.proofs.Happening.{part_none}
use Rattle.dms_runner.proofs.Texts.{front_none}
use Rattle.dms_runner.proofs.run.end_lines.Goals as goal

pub returns-in-Err-clause-front : goal.returns-in-Err-clause-front
returns-in-Err-clause-front g c = front_none _ _ _ refl

pub returns-in-Err-clause-part : goal.returns-in-Err-clause-part
returns-in-Err-clause-part g c = λ room. part_none (λ n none. none) _ _

pub returns-in-Err-clause-lasts : goal.returns-in-Err-clause-lasts
returns-in-Err-clause-lasts g c = none_lasts _ (λ f is. cc) (lasts_none g.met.St.Store.same_again _ c.requires.sound)
