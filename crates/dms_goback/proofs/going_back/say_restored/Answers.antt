use Rattle.std.proofs.Common.{◌≡◌, rules}
use Rattle.dms_dumping.specs.Writing.{point_line}
use Rattle.dms_moments.specs.MomentLaws.{steps_weaken}
use Rattle.dms_goback.proofs.Backs.{same_none}
use Rattle.dms_goback.proofs.RestoreStatuses.{made_of, said_line}
use Rattle.dms_goback.proofs.going_back.say_restored.Goals as goal

pub returns-in-Ok-clause-says : goal.returns-in-Ok-clause-says
returns-in-Ok-clause-says g c = λ tells.
    let line : c.as_slice.result.now ≡ point_line c.args.words.now c.args.recovered.point = search rules in
    said_line c.say_done.result.status _ (point_line c.args.words.now c.args.recovered.point) _ _ line (c.say_done.ensures.says tells)

pub returns-in-Ok-clause-statuses : goal.returns-in-Ok-clause-statuses
returns-in-Ok-clause-statuses g c = made_of c.say_done.result.status c.say_done.ensures.statuses

pub returns-in-Ok-clause-moments : goal.returns-in-Ok-clause-moments
returns-in-Ok-clause-moments g c = steps_weaken c.say_done.ensures.moments (λ x y now p. p.files)

pub returns-in-Err-clause-moments : goal.returns-in-Err-clause-moments
returns-in-Err-clause-moments g c = same_none g.S.Site c.args.recovered.site
