use Rattle.std.proofs.Common.{sym, ◌∙◌}
use Rattle.dms_restore.specs.Views.{view_of}
use Rattle.dms_wal.proofs.Passes.{passes_none}
use Rattle.dms_wal.proofs.Roomed.{no_image_waits, none_waits, nothing_none}
use Rattle.dms_wal.proofs.room.seal_image.Goals as goal

pub returns-then-not-waits_image-clause-logged :
    goal.returns-then-not-waits_image-clause-logged
returns-then-not-waits_image-clause-logged g c t =
    let v = view_of g.S.Site c.args.log.now in
    no_image_waits v v (c.requires.runs t) (g.met.S.Site.may_stay c.args.log.now.site t) (nothing_none v) c.args.id.file c.args.id.block (sym c.waits_image.ensures ∙ c.if-not-waits_image.true) (c.requires.changed t)

pub returns-then-not-waits_image-clause-passes :
    goal.returns-then-not-waits_image-clause-passes
returns-then-not-waits_image-clause-passes g c = passes_none g.S.Site g.met.S.Site.same_again c.args.log.now

pub returns-in-Ok-clause-logged : goal.returns-in-Ok-clause-logged
returns-in-Ok-clause-logged g c t =
    let m = view_of g.S.Site c.sync.new.self in
    no_image_waits (view_of g.S.Site c.args.log.now) m (c.in-Ok.ensures.runs t) (g.met.S.Site.may_stay c.sync.new.self.site t) (c.in-Ok.ensures.same t) c.args.id.file c.args.id.block
    (none_waits m c.args.id.file c.args.id.block (c.in-Ok.ensures.waits t)) (c.requires.changed t)

pub returns-in-Ok-clause-newest : goal.returns-in-Ok-clause-newest
returns-in-Ok-clause-newest g c t = none_waits (view_of g.S.Site c.sync.new.self) c.args.id.file c.args.id.block (c.in-Ok.ensures.waits t)
