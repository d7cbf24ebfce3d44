use Rattle.std.proofs.Common.{◌∙◌, ap}
use Rattle.std.proofs.lemmas.Result.{on_ok_weaker}
use Rattle.dms_moments.specs.MomentLaws.{steps_weaken}
use Rattle.dms_site.specs.Files.{Files}
use Rattle.dms_descfile.proofs.Created.{cut_becomes, shuts_becomes, becoming_on, gate_becomes, gate_written}
use Rattle.dms_descfile.proofs.writing.write_file.Goals as goal

pub returns-in_err-empty_file-clause-moments : goal.returns-in_err-empty_file-clause-moments
returns-in_err-empty_file-clause-moments g c tells = steps_weaken c.empty_file.ensures.moments (λ z x now step. cut_becomes _ z x step)

pub returns-in_err-fill_file-clause-moments : goal.returns-in_err-fill_file-clause-moments
returns-in_err-fill_file-clause-moments g c tells =
    becoming_on _ (steps_weaken c.empty_file.ensures.moments (λ z x now step. cut_becomes _ z x step))
    (steps_weaken (c.fill_file.ensures.moments tells) (λ z x now step. shuts_becomes _ z x step))

pub returns-clause-written : goal.returns-clause-written
returns-clause-written g c =
    on_ok_weaker c.write_synced.result (λ written tells. gate_written _ _ c.args.rest.now (written tells) (c.in_ok-fill_file.ensures.filled tells)) c.write_synced.ensures.written

pub returns-clause-moments : goal.returns-clause-moments
returns-clause-moments g c tells =
    becoming_on _
    (becoming_on _ (steps_weaken c.empty_file.ensures.moments (λ z x now step. cut_becomes _ z x step))
    (steps_weaken (c.fill_file.ensures.moments tells) (λ z x now step. shuts_becomes _ z x step)))
    (steps_weaken c.write_synced.ensures.moments (λ z x now step.
    gate_becomes c.args.rest.now z x (ap (λ (l : Files). l 1) (c.in_ok-fill_file.ensures.durable tells z now) ∙ c.in_ok-fill_file.ensures.filled tells) step))
