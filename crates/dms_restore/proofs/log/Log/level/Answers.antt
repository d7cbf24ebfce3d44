use Rattle.std.proofs.Common.{[], refl}
use Rattle.dms_restore.proofs.Results.{one_ok}
use Rattle.dms_restore.proofs.Sealed.{ends_of}
use Rattle.dms_restore.proofs.Endings.{plan_blocks}
use Rattle.dms_restore.proofs.Levelled.{level_starts, level_leave, level_done}
use Rattle.dms_restore.proofs.Grows.{runs_takes}
use Rattle.dms_restore.proofs.log.Log.level.Goals as goal

pub returns-clause-moments : goal.returns-clause-moments
returns-clause-moments g c tells =
    let read = g.met.S.Site.may_stay c.args.self.now.site tells in
    level_leave _ (c.requires.runs tells) read c.args.description.now c.requires.some c.args.number c.requires.room c.args.counts.now (c.requires.by tells) _
    (c.seal_control.ensures.moments c.args.self.now.first tells (level_starts _ (c.requires.runs tells) read c.args.description.now c.requires.some c.args.number c.requires.room c.args.counts.now (c.requires.by tells)))

pub returns-clause-levelled : goal.returns-clause-levelled
returns-clause-levelled g c = one_ok c.seal_control.result c.seal_control.ensures.sealed (λ sealed tells.
    let read = g.met.S.Site.may_stay c.args.self.now.site tells in
    level_done _ (c.requires.runs tells) read c.args.description.now c.requires.some c.args.number c.requires.room c.args.counts.now (c.requires.by tells) _ c.seal_control.ensures.kind.0 refl
    (sealed c.args.self.now.first tells (level_starts _ (c.requires.runs tells) read c.args.description.now c.requires.some c.args.number c.requires.room c.args.counts.now (c.requires.by tells))))

pub returns-clause-blocks : goal.returns-clause-blocks
returns-clause-blocks g c tells = plan_blocks _ _ _ _ _ (c.seal_control.ensures.moments c.args.self.now.first tells (level_starts _ (c.requires.runs tells) (g.met.S.Site.may_stay c.args.self.now.site tells) c.args.description.now c.requires.some c.args.number c.requires.room c.args.counts.now (c.requires.by tells)))

pub returns-clause-silent : goal.returns-clause-silent
returns-clause-silent g c tells = c.seal_control.ensures.silent c.args.self.now.first tells (level_starts _ (c.requires.runs tells) (g.met.S.Site.may_stay c.args.self.now.site tells) c.args.description.now c.requires.some c.args.number c.requires.room c.args.counts.now (c.requires.by tells))

pub returns-clause-ends : goal.returns-clause-ends
returns-clause-ends g c full tells =
    ends_of c.seal_control.new.end c.args.self.now.first _ _ (c.seal_control.ensures.ends full c.args.self.now.first tells (level_starts _ (c.requires.runs tells) (g.met.S.Site.may_stay c.args.self.now.site tells) c.args.description.now c.requires.some c.args.number c.requires.room c.args.counts.now (c.requires.by tells)))

pub returns-clause-grown : goal.returns-clause-grown
returns-clause-grown g c tells = c.seal_control.ensures.grown c.args.self.now.first tells (runs_takes _ (c.requires.runs tells))
