use Rattle.std.proofs.Common.{ℕ, ◌+◌, ◌<◌, ◌≡◌, IsTrue}
use Rattle.dms_moments.specs.Moments.{Steps}
use Rattle.dms_site.specs.Files.{Same}
use Rattle.dms_opening.specs.Short.{IsShort}
use Rattle.dms_opening.proofs.short.first_short.Given as goal

abbrev pub invariant-loop-number : goal.invariant-loop-number
invariant-loop-number g l = record {
  none : IsTrue g.S.Site.tells → (f b : ℕ) → f < 30001 + l.number → IsShort (g.S.Site.files l.fn.site) l.counts l.table f b → ⊥;
  files : IsTrue g.S.Site.tells → g.S.Site.files l.site ≡ g.S.Site.files l.fn.site;
  said : g.S.Site.said l.site ≡ g.S.Site.said l.fn.site;
  same : g.S.Site.same_site l.fn.site l.site;
  moments : Steps Same (g.S.Site.clock l.fn.site) (g.S.Site.clock l.site);
  clean : g.S.Site.disk_faults l.site ≡ g.S.Site.disk_faults l.fn.site;
  say_faults : g.S.Site.say_faults l.site ≡ g.S.Site.say_faults l.fn.site;
}
