use Rattle.dms_moments.specs.SeenLaws.{runs_looking}
use Rattle.dms_runtop.proofs.Grows.{grows_looked, grows_none}
use Rattle.dms_runtop.proofs.Looked.{runs_looked, runs_undone, stands_looked, undone_description}
use Rattle.dms_runtop.proofs.Taking.{takes_none}
use Rattle.dms_runtop.proofs.command.run_opened.Goals as goal

pub run_described-requires-clause-known : goal.run_described-requires-clause-known
run_described-requires-clause-known g c = λ tells. stands_looked g.S.Site c.args.opened c.describe.new.site (c.describe.ensures.files tells) c.describe.ensures.moments (c.requires.known tells)

pub returns-in-Ok-clause-same : goal.returns-in-Ok-clause-same
returns-in-Ok-clause-same g c = g.met.S.Site.same_then c.args.opened.log.site c.describe.new.site c.run_described.result.site c.describe.ensures.same_site c.run_described.ensures.same

pub returns-in-Ok-clause-ran : goal.returns-in-Ok-clause-ran
returns-in-Ok-clause-ran g c =
    runs_looked g.S.Site g.met.S.Site.counts_now c.args.opened c.describe.new.site c.run_described.result.site (g.I.Source.left c.args.source.now) (g.I.Source.left c.run_described.new.source) c.run_described.result.status
    c.describe.ensures.files c.describe.ensures.said c.describe.ensures.moments c.run_described.ensures.ran

pub returns-in-Err-clause-ran : goal.returns-in-Err-clause-ran
returns-in-Err-clause-ran g c =
    runs_undone g.S.Site c.args.opened c.describe.new.site (g.I.Source.left c.args.source.now) (g.I.Source.left c.args.source.now) c.status_of_description.result
    (undone_description c.in-Err.fault c.status_of_description.result c.status_of_description.ensures.disk.1 c.status_of_description.ensures.memory)
    c.describe.ensures.files
    (λ P. runs_looking (g.met.S.Site.counts_now c.args.opened.log.site) c.describe.ensures.moments) c.describe.ensures.said

pub returns-in-Ok-clause-grown : goal.returns-in-Ok-clause-grown
returns-in-Ok-clause-grown g c = grows_looked g.S.Site c.args.opened c.describe.new.site c.run_described.result.site c.describe.ensures.files c.describe.ensures.moments c.run_described.ensures.grown

pub returns-in-Err-clause-grown : goal.returns-in-Err-clause-grown
returns-in-Err-clause-grown g c = grows_none g.S.Site c.args.opened c.describe.new.site c.describe.ensures.files c.describe.ensures.moments

pub returns-in-Err-clause-takes : goal.returns-in-Err-clause-takes
returns-in-Err-clause-takes g c =
    takes_none g.I.Source g.met.I.Source.same_again c.args.source.now c.status_of_description.result
    (undone_description c.in-Err.fault c.status_of_description.result c.status_of_description.ensures.disk.1 c.status_of_description.ensures.memory)
