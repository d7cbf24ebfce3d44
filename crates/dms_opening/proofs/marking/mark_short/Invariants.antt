use Rattle.std.proofs.Common.{ℕ, ◌+◌, ◌<◌, ◌≤◌, ◌≡◌, IsTrue}
use Rattle.dms_moments.specs.Moments.{Steps}
use Rattle.dms_site.specs.Files.{stored_of}
use Rattle.dms_running.specs.Restoring.{Rewritten, Rewrites}
use Rattle.dms_opening.specs.Marking.{mark, StoodWhole}
use Rattle.dms_opening.specs.Short.{IsShort}
use Rattle.dms_opening.proofs.marking.mark_short.Given as goal

abbrev pub invariant-loop-number : goal.invariant-loop-number
invariant-loop-number g l = record {
  marked : IsTrue g.S.Site.tells → (f b : ℕ) → f < 30001 + l.number → IsShort (g.S.Site.files l.fn.site) l.counts l.table f b → stored_of (g.S.Site.files l.site) f b ≡ mark;
  untouched : IsTrue g.S.Site.tells → (f : ℕ) → 30001 + l.number ≤ f → g.S.Site.files l.site f ≡ g.S.Site.files l.fn.site f;
  written : IsTrue g.S.Site.tells → Rewritten StoodWhole (g.S.Site.files l.fn.site) (g.S.Site.files l.site);
  moments : IsTrue g.S.Site.tells → Steps (Rewrites StoodWhole) (g.S.Site.clock l.fn.site) (g.S.Site.clock l.site);
  said : g.S.Site.said l.site ≡ g.S.Site.said l.fn.site;
  same : g.S.Site.same_site l.fn.site l.site;
  clean : g.S.Site.disk_faults l.site ≡ g.S.Site.disk_faults l.fn.site;
  say_faults : g.S.Site.say_faults l.site ≡ g.S.Site.say_faults l.fn.site;
}
