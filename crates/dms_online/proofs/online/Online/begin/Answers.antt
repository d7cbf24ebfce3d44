use Rattle.dms_online.specs.contracts.dump_site.DumpSiteSite as contracts
use Rattle.dms_online.proofs.Planned.{begun_copied, begun_up}
use Rattle.dms_online.proofs.online.Online.begin.Goals as goal

pub returns-in-Ok-clause-sound : goal.returns-in-Ok-clause-sound
returns-in-Ok-clause-sound g c mark =
    let d = contracts.TheImpl.ghosts g.row.S g.S.Site g.S.Site-dict in
    let m = g.met.S.Site in
    let e = c.in-Ok.ensures in
    let r = c.args.running in
    let b = c.begin_dump.new.running in
    record {
      usable = e.beside.stays.sound;
      copied = begun_copied d g.S.Site (λ tells. tells) (λ s tells. m.may_stay s.site tells) r b c.args.copy c.requires.sound c.requires.plan e.beside.stays e.beside.unchanged e.beside.passes.next c.begin_dump.ensures.file mark c.requires.above c.requires.below e.written e.shut;
      up = begun_up d g.S.Site (λ tells. tells) (λ s tells. m.may_stay s.site tells) r b c.args.copy c.requires.sound c.requires.plan e.beside.stays e.beside.unchanged e.beside.passes.next c.begin_dump.ensures.file mark;
    }
