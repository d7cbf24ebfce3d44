use Rattle.std.proofs.Common.{ℕ, ◌∙◌, sym, ap, arith}
use Rattle.std.proofs.lemmas.Result.{on_ok_weaker}
use Rattle.dms_block.specs.Held.{HasNextNumber}
use Rattle.dms_wal.specs.Database.{running_held}
use Rattle.dms_online.specs.OnlineLaws.{dump_then}
use Rattle.dms_online.specs.contracts.dump_site.DumpSiteSite as contracts
use Rattle.dms_online.proofs.Besides.{beside_on}
use Rattle.dms_online.proofs.Finished.{finished, mark_quiet}
use Rattle.dms_online.proofs.ending.finish.Goals as goal

pub write_head-requires-clause-sound : goal.write_head-requires-clause-sound
write_head-requires-clause-sound g c = c.in-Ok.ensures.beside.stays.sound

pub write_head-requires-clause-above : goal.write_head-requires-clause-above
write_head-requires-clause-above g c = omega (arith, c.requires.copied.above, c.copy_until.ensures.dump.file)

pub write_head-requires-clause-below : goal.write_head-requires-clause-below
write_head-requires-clause-below g c = omega (arith, c.requires.copied.below, c.copy_until.ensures.dump.file)

pub write_head-requires-clause-plan : goal.write_head-requires-clause-plan
write_head-requires-clause-plan g c =
    let d = contracts.TheImpl.ghosts g.row.S g.S.Site g.S.Site-dict in
    (c.in-Ok.ensures.copied (λ tells room. mark_quiet (running_held d c.args.running.now) c.args.copy.now.point (c.requires.copied.reached tells room) (c.requires.at_mark tells))).plan

pub returns-clause-beside : goal.returns-clause-beside
returns-clause-beside g c =
    let d = contracts.TheImpl.ghosts g.row.S g.S.Site g.S.Site-dict in
    beside_on d c.write_head.result c.args.running.now c.copy_until.new.running c.write_head.new.running c.in-Ok.ensures.beside c.write_head.ensures.beside

pub returns-clause-dump : goal.returns-clause-dump
returns-clause-dump g c = dump_then g.S.Site g.met.S.Site.same_then c.args.running.now.log.site c.copy_until.new.running.log.site c.write_head.new.running.log.site c.copy_until.ensures.dump c.write_head.ensures.dump

pub returns-clause-all : goal.returns-clause-all
returns-clause-all g c =
    let d = contracts.TheImpl.ghosts g.row.S g.S.Site g.S.Site-dict in
    let a = running_held d c.args.running.now in
    let b = running_held d c.copy_until.new.running in
    let copy = c.args.copy.now in
    let e = c.in-Ok.ensures in
    let k = e.copied (λ tells room. mark_quiet a copy.point (c.requires.copied.reached tells room) (c.requires.at_mark tells)) in
    on_ok_weaker c.write_head.result (λ wrote tells room.
    let later : HasNextNumber b = omega (arith, e.beside.passes.next, room) in
    finished a b copy c.copy_until.new.copy.done c.args.running.now.point c.copy_until.new.running.point _ _ (e.beside.stays.points tells room).0 (e.done ∙ c.requires.copied.plan.total) e.beside.kept.point c.copy_until.new.copy e.plan (k.goes tells later)
    (ap (λ (f : ℕ). g.S.Site.files c.write_head.new.running.log.site.site f) (sym c.copy_until.ensures.dump.file) ∙ wrote tells)) c.write_head.ensures.written
