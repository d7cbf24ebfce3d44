use Rattle.std.proofs.Common.{arith}
use Rattle.dms_restore.proofs.Results.{one_ok}
use Rattle.dms_restore.specs.GrowLaws.{log_grows_more}
use Rattle.dms_restore.specs.Views.{view_of}
use Rattle.dms_wal.specs.Database.{running_held}
use Rattle.dms_wal.specs.LevelPoints.{level_of}
use Rattle.dms_wal.specs.PaceLaws.{trail_then}
use Rattle.dms_wal.proofs.LevelSteps.{leaves_before, leaves_level, makes_level_on}
use Rattle.dms_wal.proofs.running.Running.level.Goals as goal

pub returns-in-Err-clause-leaves : goal.returns-in-Err-clause-leaves
returns-in-Err-clause-leaves g c =
    let a = running_held g.S.Site c.args.self.now in
    leaves_before a (running_held g.S.Site c.settle-settled.new.self) (level_of a c.args.schema.now) c.settle-settled.ensures.looks.passes

pub returns-in-Err-clause-grown : goal.returns-in-Err-clause-grown
returns-in-Err-clause-grown g c = λ tells. log_grows_more 0 18 (view_of g.S.Site c.args.self.now.log) (view_of g.S.Site c.settle-settled.new.self.log) (omega arith) (c.settle-settled.ensures.grown tells)

pub returns-clause-level : goal.returns-clause-level
returns-clause-level g c = one_ok c.seal_level.result c.seal_level.ensures.level (λ made t.
    let k = c.settle-settled.ensures.kept in
    makes_level_on (view_of g.S.Site c.args.self.now.log) (view_of g.S.Site c.settle-settled.new.self.log) (view_of g.S.Site c.seal_level.new.self.log) c.args.schema.now c.args.self.now.counts.items c.settle-settled.new.self.counts.items (λ i. (k.counts i).items) (c.in-Ok.ensures.tells t) (made t))

pub returns-clause-leaves : goal.returns-clause-leaves
returns-clause-leaves g c =
    let l = c.in-Ok.ensures.looks in
    leaves_level g.S.Site c.args.self.now c.settle-settled.new.self c.seal_level.new.self c.args.schema.now l.passes l.stays l.same c.seal_level.ensures.leaves

pub returns-clause-grown : goal.returns-clause-grown
returns-clause-grown g c = trail_then g.S.Site 18 c.args.self.now c.settle-settled.new.self c.seal_level.new.self c.settle-settled.ensures.kept.pace (λ t. (c.in-Ok.ensures.tells t).entries_same) c.settle-settled.ensures.grown c.seal_level.ensures.grown
