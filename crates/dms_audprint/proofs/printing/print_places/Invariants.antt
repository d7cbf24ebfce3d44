use Rattle.std.proofs.Common.{◌≡◌, ◌++◌, take, IsTrue}
use Rattle.dms_moments.specs.Moments.{Steps}
use Rattle.dms_audfile.specs.EntryReading.{IsCurrent}
use Rattle.dms_audprint.specs.Printing.{lines_at, PrintsSome}
use Rattle.dms_audprint.proofs.printing.print_places.Given as goal

abbrev pub invariant-loop-place : goal.invariant-loop-place
invariant-loop-place g l = record {
  current : IsTrue g.S.Site.tells → IsCurrent l.reader (g.S.Site.files l.fn.site);
  said : IsTrue g.S.Site.tells → IsTrue g.S.Site.tells_said → g.S.Site.said l.site ≡ g.S.Site.said l.fn.site ++ lines_at (g.S.Site.files l.fn.site) (take l.place-index l.places);
  files : IsTrue g.S.Site.tells → g.S.Site.files l.site ≡ g.S.Site.files l.fn.site;
  moments : Steps PrintsSome (g.S.Site.clock l.fn.site) (g.S.Site.clock l.site);
  same_site : g.S.Site.same_site l.fn.site l.site;
  disk : g.S.Site.disk_faults l.site ≡ g.S.Site.disk_faults l.fn.site;
  say : g.S.Site.say_faults l.site ≡ g.S.Site.say_faults l.fn.site;
}
