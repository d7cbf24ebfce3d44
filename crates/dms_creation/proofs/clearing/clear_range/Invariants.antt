use Rattle.std.proofs.Common.{◌≡◌, ◌+◌, ◌<◌, ◌≤◌, ◌⊎◌, ℕ, [], IsTrue}
use Rattle.dms_moments.specs.Moments.{Steps}
use Rattle.dms_creation.specs.Clearing.{KeepsOutside}
use Rattle.dms_creation.proofs.clearing.clear_range.Given as goal

abbrev pub invariant-loop-top : goal.invariant-loop-top
invariant-loop-top g l = record {
  low : l.low ≤ l.top + 1;
  high : l.top ≤ l.high;
  cleared : IsTrue g.S.Site.tells → (h : ℕ) → l.low ≤ h → l.top < h → h ≤ l.high → g.S.Site.files l.site h ≡ [];
  others : IsTrue g.S.Site.tells → (h : ℕ) → (h < l.low) ⊎ (l.high < h) → g.S.Site.files l.site h ≡ g.S.Site.files l.fn.site h;
  moments : Steps (KeepsOutside l.low l.high) (g.S.Site.clock l.fn.site) (g.S.Site.clock l.site);
  said : g.S.Site.said l.site ≡ g.S.Site.said l.fn.site;
  same_site : g.S.Site.same_site l.fn.site l.site;
  disk : g.S.Site.disk_faults l.site ≡ g.S.Site.disk_faults l.fn.site;
  say : g.S.Site.say_faults l.site ≡ g.S.Site.say_faults l.fn.site;
}

abbrev pub decreases-loop-top : goal.decreases-loop-top
decreases-loop-top g l = l.top
