use Rattle.std.proofs.Common.{◌∙◌, ap}
use Rattle.std.proofs.lemmas.Result.{on_ok_weaker}
use Rattle.dms_moments.specs.MomentLaws.{steps_on, steps_weaken}
use Rattle.dms_site.specs.Files.{Files}
use Rattle.dms_descfile.proofs.Created.{gates_shut, rest_shut, shuts_after, gates_written, rest_written}
use Rattle.dms_descfile.proofs.writing.fill_file.Goals as goal

pub returns-in_err-write_synced-clause-moments : goal.returns-in_err-write_synced-clause-moments
returns-in_err-write_synced-clause-moments g c tells =
    steps_weaken c.write_synced.ensures.moments (λ z x now step. gates_shut z x (c.requires.settled tells z now ∙ c.requires.empty tells) step)

pub returns-clause-filled : goal.returns-clause-filled
returns-clause-filled g c =
    on_ok_weaker c.write_synced-2.result (λ written tells.
    rest_written _ _ c.args.rest.now (written tells) (gates_written _ _ (c.in_ok-write_synced.ensures.written tells) (c.requires.empty tells))) c.write_synced-2.ensures.written

pub returns-clause-moments : goal.returns-clause-moments
returns-clause-moments g c tells =
    steps_on c.write_synced.ensures.moments c.write_synced-2.ensures.moments
    (λ z y x was now r s. shuts_after z y x r (rest_shut _ y x
    (ap (λ (l : Files). l 1) (c.in_ok-write_synced.ensures.durable tells y now) ∙ gates_written _ _ (c.in_ok-write_synced.ensures.written tells) (c.requires.empty tells)) s))
    (λ z y was r. gates_shut z y (c.requires.settled tells z was ∙ c.requires.empty tells) r)
