use Rattle.std.proofs.Common.{refl}
use Rattle.dms_restore.proofs.Results.{both_ok}
use Rattle.dms_restore.proofs.Sizes.{range_size}
use Rattle.dms_restore.proofs.Logs.{full_seals, range_leave, range_goes, range_logs, entry_silent}
use Rattle.dms_restore.specs.Logging.{view}
use Rattle.dms_restore.specs.Views.{view_of}
use Rattle.dms_restore.proofs.Grows.{runs_takes, append_grows}
use Rattle.dms_restore.proofs.log.Log.range.Goals as goal

pub returns-clause-moments : goal.returns-clause-moments
returns-clause-moments g c tells =
    range_leave _ (c.requires.runs tells) (g.met.S.Site.may_stay c.args.self.now.site tells) c.args.file c.args.block c.args.place c.args.bytes.now (c.requires.imaged tells) c.requires.fits.1 _
    (λ first waiting plain ends. c.append.ensures.moments first waiting tells plain ends)

pub returns-clause-runs : goal.returns-clause-runs
returns-clause-runs g c = both_ok c.append.result c.append.ensures.appends c.append.ensures.behind (λ appends behind tells.
    range_goes _ (c.requires.runs tells) (g.met.S.Site.may_stay c.args.self.now.site tells) c.args.file c.args.block c.args.place c.args.bytes.now (c.requires.imaged tells) c.requires.fits.1 _ c.append.ensures.kind.0 refl
    (λ first waiting plain ends. c.append.ensures.moments first waiting tells plain ends) (λ first waiting plain ends. appends first waiting tells plain ends) (behind tells))

pub returns-clause-logs : goal.returns-clause-logs
returns-clause-logs g c = both_ok c.append.result c.append.ensures.appends c.append.ensures.behind (λ appends behind tells.
    range_logs _ (c.requires.runs tells) (g.met.S.Site.may_stay c.args.self.now.site tells) c.args.file c.args.block c.args.place c.args.bytes.now (c.requires.imaged tells) c.requires.fits.1 _ c.append.ensures.kind.0 refl
    (λ first waiting plain ends. c.append.ensures.moments first waiting tells plain ends) (λ first waiting plain ends. appends first waiting tells plain ends) (behind tells))

pub append-requires-clause-entry : goal.append-requires-clause-entry
append-requires-clause-entry g c = record { low = c.requires.file.0; high = c.requires.file.1; block = c.requires.block; some = c.requires.fits.0; within = c.requires.fits.1 }

pub append-requires-clause-size : goal.append-requires-clause-size
append-requires-clause-size g c = range_size c.args.file c.args.block c.args.place c.args.bytes.now c.requires.fits.1

pub returns-clause-silent : goal.returns-clause-silent
returns-clause-silent g c tells = entry_silent _ (c.requires.runs tells) (g.met.S.Site.may_stay c.args.self.now.site tells) _ _ (λ first waiting plain ends. c.append.ensures.moments first waiting tells plain ends)

pub returns-clause-kept : goal.returns-clause-kept
returns-clause-kept g c full tells =
    full_seals _ (c.requires.runs tells) (g.met.S.Site.may_stay c.args.self.now.site tells) _ c.append.ensures.kind.0 refl _
    (λ first waiting plain ends. c.append.ensures.moments first waiting tells plain ends) (λ first waiting ends. c.append.ensures.kept full first waiting tells ends) (g.met.S.Site.may_stay c.append.new.site tells)

pub returns-clause-grown : goal.returns-clause-grown
returns-clause-grown g c tells =
    append_grows (view_of g.S.Site c.args.self.now) (view c.append.new.self c.args.self.now.first (g.S.Site.files c.append.new.site) (g.S.Site.clock c.append.new.site)) _ (runs_takes _ (c.requires.runs tells)) (g.met.S.Site.may_stay c.append.new.site tells)
    (λ first waiting plain ends. c.append.ensures.moments first waiting tells plain ends)
