use Rattle.dms_moments.specs.MomentLaws.{steps_weaken}
use Rattle.dms_descfile.proofs.Created.{becoming_on, same_becomes, creates_none, creates_stable}
use Rattle.dms_descfile.proofs.writing.write_stable.Goals as goal

pub returns-in_err-sync-clause-moments : goal.returns-in_err-sync-clause-moments
returns-in_err-sync-clause-moments g c tells = steps_weaken c.sync.ensures.moments (λ y x now same. same_becomes _ y x same)

pub returns-in_err-sync-clause-creates : goal.returns-in_err-sync-clause-creates
returns-in_err-sync-clause-creates g c tells = creates_none _ _ c.sync.ensures.moments

pub returns-clause-moments : goal.returns-clause-moments
returns-clause-moments g c tells =
    becoming_on _ (steps_weaken c.sync.ensures.moments (λ y x now same. same_becomes _ y x same)) (c.write_file.ensures.moments tells)

pub returns-clause-creates : goal.returns-clause-creates
returns-clause-creates g c tells = creates_stable _ _ c.sync.ensures.moments (c.in_ok-sync.ensures.durable tells) (c.write_file.ensures.moments tells)
