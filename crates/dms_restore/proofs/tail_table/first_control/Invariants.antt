use Rattle.std.proofs.Common.{◌≡◌, IsTrue}
use Rattle.dms_audfile.specs.Reads.{OnlyReads}
use Rattle.dms_audfile.specs.EntryReading.{IsCurrent}
use Rattle.dms_restore.proofs.tail_table.first_control.Given as goal

abbrev pub invariant-loop-at : goal.invariant-loop-at
invariant-loop-at g l = record {
  current : IsTrue g.S.Site.tells → IsCurrent l.reader (g.S.Site.files l.fn.site);
  reads : OnlyReads g.S.Site.tells (g.S.Site.files l.fn.site) (g.S.Site.files l.site) (g.S.Site.said l.fn.site) (g.S.Site.said l.site) (g.S.Site.clock l.fn.site) (g.S.Site.clock l.site) (g.S.Site.disk_faults l.fn.site) (g.S.Site.disk_faults l.site) (g.S.Site.say_faults l.fn.site) (g.S.Site.say_faults l.site);
  same : g.S.Site.same_site l.fn.site l.site;
  disk : g.S.Site.disk_faults l.site ≡ g.S.Site.disk_faults l.fn.site;
}
