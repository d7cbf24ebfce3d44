use Rattle.std.proofs.Common.{refl}
use Rattle.dms_runner.proofs.Always.{then_on}
use Rattle.dms_runner.proofs.Stopping.{ends_run, ends_answers, ends_carry}
use Rattle.dms_runner.proofs.run.run_lines.Goals as goal

pub returns-in-Err-clause-carried : goal.returns-in-Err-clause-carried
returns-in-Err-clause-carried g c = c.in-Err.ensures.stops refl

pub returns-in-Ok-clause-answers : goal.returns-in-Ok-clause-answers
returns-in-Ok-clause-answers g c = then_on c.end_lines.result _ _ (λ ran. λ db first all stands small remains.
    let t = c.in-Ok.ensures.all db first all stands small remains in
    ends_answers c.args.engine.now c.take_lines.new.engine c.end_lines.new.engine db first all _ _ refl t (ran t.room)) c.end_lines.ensures.ran

pub returns-in-Ok-clause-ran : goal.returns-in-Ok-clause-ran
returns-in-Ok-clause-ran g c = then_on c.end_lines.result _ _ (λ ran. λ db first all stands small remains.
    let t = c.in-Ok.ensures.all db first all stands small remains in
    ends_run c.args.engine.now c.take_lines.new.engine c.end_lines.new.engine db first all _ _ refl t (ran t.room)) c.end_lines.ensures.ran

pub returns-in-Ok-clause-ended : goal.returns-in-Ok-clause-ended
returns-in-Ok-clause-ended g c = then_on c.end_lines.result _ _ (λ ends. λ db first all stands small remains.
    let t = c.in-Ok.ensures.all db first all stands small remains in
    ends _ t.stands) c.end_lines.ensures.ended

pub returns-in-Ok-clause-carried : goal.returns-in-Ok-clause-carried
returns-in-Ok-clause-carried g c = λ db first all stands small remains.
    let t = c.in-Ok.ensures.all db first all stands small remains in
    ends_carry c.args.engine.now c.take_lines.new.engine c.end_lines.new.engine db first all _ _ refl t c.end_lines.result _ (c.end_lines.ensures.part t.room) c.end_lines.ensures.limits c.end_lines.ensures.input
