use Rattle.std.proofs.Common.{◌+◌, ◌*◌, refl, arith}
use Rattle.dms_wal.specs.AgreeLaws.{agrees}
use Rattle.dms_wal.specs.Database.{running_held}
use Rattle.dms_online.specs.OnlineLaws.{dump_again}
use Rattle.dms_online.specs.contracts.dump_site.DumpSiteSite as contracts
use Rattle.dms_online.proofs.Besides.{beside_none}
use Rattle.dms_online.proofs.Onward.{goes_next}
use Rattle.dms_online.proofs.Tears.{four_ok}
use Rattle.dms_online.proofs.next_block.copy_next.Goals as goal

pub returns-then-id-there-clause-goes : goal.returns-then-id-there-clause-goes
returns-then-id-there-clause-goes g c =
    let d = contracts.TheImpl.ghosts g.row.S g.S.Site g.S.Site-dict in
    let e = c.copy_one.ensures in
    four_ok c.copy_one.result _ _ _ _ _
    (λ stays same wrote size tells room f k low head is quiet goes.
    goes_next (running_held d c.args.running.now) (running_held d c.copy_one.new.running)
    (g.S.Site.files c.args.running.now.log.site.site c.args.running.now.log.site.file) (g.S.Site.files c.copy_one.new.running.log.site.site c.args.running.now.log.site.file) c.args.front low c.args.counts.now c.args.n head
    c.in-Some.id.file c.in-Some.id.block (c.args.front + 1024 * c.args.n) tells tells room stays same e.beside.passes.next refl (wrote tells) (size tells) c.in-Some.ensures.found quiet goes)
    e.beside.stays e.beside.unchanged e.written e.size

pub returns-else-id-there-clause-beside : goal.returns-else-id-there-clause-beside
returns-else-id-there-clause-beside g c = beside_none (contracts.TheImpl.ghosts g.row.S g.S.Site g.S.Site-dict) tt c.args.running.now c.requires.sound

pub returns-else-id-there-clause-dump : goal.returns-else-id-there-clause-dump
returns-else-id-there-clause-dump g c = dump_again g.S.Site g.met.S.Site.same_again c.args.running.now.log.site

pub returns-else-id-there-clause-goes : goal.returns-else-id-there-clause-goes
returns-else-id-there-clause-goes g c tells room f k low head is quiet goes =
    let m = g.met.S.Site in
    let agree = agrees {g = (contracts.TheImpl.ghosts g.row.S g.S.Site g.S.Site-dict)} (λ s tells. m.may_stay s.site tells) (λ s x tells now. m.now_said s.site x tells now) c.args.running.now c.requires.sound in
    absurd (omega (arith, goes.copying.there c.args.n c.in-Some.id.file c.in-Some.id.block c.in-Some.ensures.found, agree.counted tells c.in-Some.id.file, c.count-there.ensures, c.if-id-there.false))

pub returns-in-None-clause-beside : goal.returns-in-None-clause-beside
returns-in-None-clause-beside g c = beside_none (contracts.TheImpl.ghosts g.row.S g.S.Site g.S.Site-dict) tt c.args.running.now c.requires.sound

pub returns-in-None-clause-dump : goal.returns-in-None-clause-dump
returns-in-None-clause-dump g c = dump_again g.S.Site g.met.S.Site.same_again c.args.running.now.log.site
