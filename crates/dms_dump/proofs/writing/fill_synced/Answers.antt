use Rattle.std.proofs.Common.{◌∙◌, ap}
use Rattle.dms_moments.specs.MomentLaws.{steps_weaken}
use Rattle.dms_site.specs.Files.{Files}
use Rattle.dms_dump.proofs.Gates.{keeps_shut, becomes_on, same_becomes}
use Rattle.dms_dump.proofs.writing.fill_synced.Goals as goal

pub returns-in-Err-clause-moments : goal.returns-in-Err-clause-moments
returns-in-Err-clause-moments g c made tells =
    steps_weaken c.fill.ensures.moments (λ z x now step. keeps_shut c.args.file made z x (ap (λ (l : Files). l c.args.file) (c.requires.settled tells z now) ∙ c.requires.shut tells) step)

pub returns-in-Ok-sync-clause-moments : goal.returns-in-Ok-sync-clause-moments
returns-in-Ok-sync-clause-moments g c made tells =
    becomes_on c.args.file made
    (steps_weaken c.fill.ensures.moments (λ z x now step. keeps_shut c.args.file made z x (ap (λ (l : Files). l c.args.file) (c.requires.settled tells z now) ∙ c.requires.shut tells) step))
    (same_becomes c.args.file made c.sync.ensures.moments)

pub returns-in-Err-sync-clause-moments : goal.returns-in-Err-sync-clause-moments
returns-in-Err-sync-clause-moments g c made tells =
    becomes_on c.args.file made
    (steps_weaken c.fill.ensures.moments (λ z x now step. keeps_shut c.args.file made z x (ap (λ (l : Files). l c.args.file) (c.requires.settled tells z now) ∙ c.requires.shut tells) step))
    (same_becomes c.args.file made c.sync.ensures.moments)

pub returns-in-Ok-sync-clause-filled : goal.returns-in-Ok-sync-clause-filled
returns-in-Ok-sync-clause-filled g c tells = ap (λ (l : Files). l c.args.file) (c.sync.ensures.files tells) ∙ c.in-Ok.ensures.filled tells (c.requires.shut tells)
