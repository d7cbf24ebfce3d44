use Rattle.std.proofs.Common.{arith}
use Rattle.dms_guard.specs.GuardLaws.{guarded_looked}
use Rattle.dms_goback.proofs.looking.guarded.Goals as goal

pub returns-clause-looked : goal.returns-clause-looked
returns-clause-looked g c = λ wanted rows from l. record {
  starts = l.starts;
  trail = l.trail;
  plans = l.plans;
  stays = record {
    files = l.stays.files;
    moments = l.stays.moments;
    said = l.stays.said;
    say_faults = l.stays.say_faults;
    same = guarded_looked _ from c.args.planned.log.site l.stays.same l.stays.files l.stays.moments (omega (arith, l.clean));
  };
  clean = omega (arith, l.clean);
}
