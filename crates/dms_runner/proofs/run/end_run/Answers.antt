use Rattle.dms_storeverbs.specs.View.{engine_view}
use Rattle.std.proofs.Common.{◌≡◌, ◌+◌, ◌<◌, ◌^◌, ◌∙◌, Vec, Global, ap, arith}
use Rattle.dms_model.specs.Programs.{Program}
use Rattle.dms_model.specs.Session.{someone_works}
use Rattle.dms_runner.proofs.Answered.{held_answered}
use Rattle.dms_runner.proofs.Happening.{back_takes, told_ended, undamaged_by, ran_back, ran_on, part_back, part_on, part_of_first, part_run, full_back}
use Rattle.dms_runner.proofs.run.end_run.Goals as goal

pub returns-in-Err-clause-part : goal.returns-in-Err-clause-part
returns-in-Err-clause-part g c = λ room. part_of_first _ _ _ _ (part_run (Unit {0}) _ _ _ _ (c.in-Err.ensures.part room))

pub returns-in-Err-end-clause-part : goal.returns-in-Err-end-clause-part
returns-in-Err-end-clause-part g c = λ room.
    let room' : (engine_view c.say_waiting.new.engine).next + 1 < 2 ^ 64 = omega (arith, c.say_waiting.ensures.number, room) in
    let works : someone_works c.say_waiting.new.engine.programs.items ≡ someone_works c.args.engine.now.programs.items = ap (λ (v : Vec Program Global). someone_works v.items) c.say_waiting.ensures.programs in
    part_on _ _ _ _ _ (c.in-Ok.ensures.ran room) (held_answered c.args.waiting.now) (part_back _ _ _ (full_back c.in-Err-end.fault _ (λ none. c.in-Err-end.ensures.room (works ∙ none)) c.in-Err-end.ensures.file) (back_takes c.end.result (someone_works c.args.engine.now.programs.items) _ (λ some. c.end.ensures.goes_back (works ∙ some)) (λ none. c.end.ensures.stays (works ∙ none))) (undamaged_by _ (engine_view c.end.new.self) c.end.result c.end.ensures.undamaged c.end.ensures.lasts.causes.cause) c.end.ensures.silent room')

pub returns-in-Ok-end-clause-ran : goal.returns-in-Ok-end-clause-ran
returns-in-Ok-end-clause-ran g c = λ room.
    let room' : (engine_view c.say_waiting.new.engine).next + 1 < 2 ^ 64 = omega (arith, c.say_waiting.ensures.number, room) in
    let works : someone_works c.say_waiting.new.engine.programs.items ≡ someone_works c.args.engine.now.programs.items = ap (λ (v : Vec Program Global). someone_works v.items) c.say_waiting.ensures.programs in
    ran_on _ _ _ _ _ (c.in-Ok.ensures.ran room) (ran_back _ _ _ c.end.ensures.lasts.causes.tells c.end.ensures.lasts.causes.whole c.end.ensures.lasts.causes.desc c.end.ensures.lasts.causes.pace (back_takes c.end.result (someone_works c.args.engine.now.programs.items) _ (λ some. c.end.ensures.goes_back (works ∙ some)) (λ none. c.end.ensures.stays (works ∙ none))) (told_ended c.in-Ok-end.ensures.ended) (undamaged_by _ (engine_view c.end.new.self) c.end.result c.end.ensures.undamaged c.end.ensures.lasts.causes.cause) c.end.ensures.silent c.in-Ok-end.ensures.points room')

pub returns-in-Ok-end-clause-part : goal.returns-in-Ok-end-clause-part
returns-in-Ok-end-clause-part g c = λ room.
    let room' : (engine_view c.say_waiting.new.engine).next + 1 < 2 ^ 64 = omega (arith, c.say_waiting.ensures.number, room) in
    let works : someone_works c.say_waiting.new.engine.programs.items ≡ someone_works c.args.engine.now.programs.items = ap (λ (v : Vec Program Global). someone_works v.items) c.say_waiting.ensures.programs in
    part_on _ _ _ _ _ (c.in-Ok.ensures.ran room) (held_answered c.args.waiting.now) (part_back _ _ _ (λ f full. absurd full) (back_takes c.end.result (someone_works c.args.engine.now.programs.items) _ (λ some. c.end.ensures.goes_back (works ∙ some)) (λ none. c.end.ensures.stays (works ∙ none))) (undamaged_by _ (engine_view c.end.new.self) c.end.result c.end.ensures.undamaged c.end.ensures.lasts.causes.cause) c.end.ensures.silent room')

pub returns-in-Ok-end-clause-ended : goal.returns-in-Ok-end-clause-ended
returns-in-Ok-end-clause-ended g c = λ s stands. c.in-Ok-end.ensures.ended s (c.in-Ok.ensures.stands s stands)
