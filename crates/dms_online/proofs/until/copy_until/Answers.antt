use Rattle.std.proofs.Common.{List, sym, subst, arith}
use Rattle.dms_history.specs.declared.event.FileCount.{FileCount}
use Rattle.dms_dump.specs.Head.{head_bytes}
use Rattle.dms_wal.specs.Database.{running_held}
use Rattle.dms_online.specs.Going.{GoesOn, IsNamed}
use Rattle.dms_online.specs.Plans.{head_of}
use Rattle.dms_online.specs.contracts.dump_site.DumpSiteSite as contracts
use Rattle.dms_online.proofs.Copied.{copied_more}
use Rattle.dms_online.proofs.Somewhat.{all_named}
use Rattle.dms_online.proofs.until.copy_until.Goals as goal

pub copy_some-requires-clause-behind : goal.copy_some-requires-clause-behind
copy_some-requires-clause-behind g c = omega (arith, c.requires.copied.plan.front)

pub copy_some-requires-clause-place : goal.copy_some-requires-clause-place
copy_some-requires-clause-place g c = omega (arith, c.requires.copied.plan.room, c.requires.most)

pub returns-in-Ok-clause-copied : goal.returns-in-Ok-clause-copied
returns-in-Ok-clause-copied g c quiet =
    let d = contracts.TheImpl.ghosts g.row.S g.S.Site g.S.Site-dict in
    let copy = c.args.copy.now in
    let e = c.in-Ok.ensures in
    copied_more d g.S.Site (λ tells. tells) c.args.running.now c.copy_some.new.running copy c.requires.copied c.args.end c.requires.most c.copy_some.ensures.dump e.beside.stays e.beside.passes.next
    (λ tells room from.
    subst (λ (cs : List FileCount). GoesOn (running_held d c.args.running.now) (g.S.Site.files c.args.running.now.log.site.site c.args.running.now.log.site.file) copy.front copy.point cs copy.done (head_bytes (head_of copy copy.point)) → GoesOn (running_held d c.copy_some.new.running) (g.S.Site.files c.copy_some.new.running.log.site.site c.args.running.now.log.site.file) copy.front copy.point cs c.args.end (head_bytes (head_of copy copy.point)))
    c.deref.ensures.value
    (e.goes tells room copy.point (head_bytes (head_of copy copy.point))
    (λ i less. subst (λ (cs : List FileCount). IsNamed cs i) (sym c.deref.ensures.value) (all_named copy.counts.items i (omega (arith, less, c.requires.most, c.requires.copied.plan.total))))
    (quiet tells room)) from)
