use Rattle.std.proofs.Common.{◌≡◌, IsTrue, ℕ, take}
use Rattle.dms_history.specs.Pick.{reached_count}
use Rattle.dms_audfile.specs.Reads.{OnlyReads}
use Rattle.dms_restore.specs.Counts.{count_of}
use Rattle.dms_restore.specs.Counts.{AllAtMost}
use Rattle.dms_restore.specs.LiveEntries.{events_at}
use Rattle.dms_opening.proofs.point_counts.count_all.Given as goal

abbrev pub invariant-loop-entry : goal.invariant-loop-entry
invariant-loop-entry g l = record {
  small : AllAtMost l.fn.counts → AllAtMost l.counts;
  counts : IsTrue g.S.Site.tells → (f : ℕ) → count_of l.counts f ≡ reached_count f (count_of l.fn.counts f) (events_at (g.S.Site.files l.fn.site) (take l.entry-index l.live));
  reads : OnlyReads g.S.Site.tells (g.S.Site.files l.fn.site) (g.S.Site.files l.site) (g.S.Site.said l.fn.site) (g.S.Site.said l.site) (g.S.Site.clock l.fn.site) (g.S.Site.clock l.site) (g.S.Site.disk_faults l.fn.site) (g.S.Site.disk_faults l.site) (g.S.Site.say_faults l.fn.site) (g.S.Site.say_faults l.site);
  same : g.S.Site.same_site l.fn.site l.site;
  disk : g.S.Site.disk_faults l.site ≡ g.S.Site.disk_faults l.fn.site;
}
