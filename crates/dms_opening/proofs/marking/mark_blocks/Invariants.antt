use Rattle.std.proofs.Common.{ℕ, ◌<◌, ◌≤◌, ◌≡◌, IsTrue}
use Rattle.dms_moments.specs.Moments.{Steps}
use Rattle.dms_site.specs.Files.{stored_of}
use Rattle.dms_running.specs.Restoring.{Rewritten, Rewrites}
use Rattle.dms_opening.specs.Marking.{mark, IsBefore}
use Rattle.dms_opening.proofs.marking.mark_blocks.Given as goal

abbrev pub invariant-loop-block : goal.invariant-loop-block
invariant-loop-block g l = record {
  low : l.from ≤ l.block;
  marked : IsTrue g.S.Site.tells → (b : ℕ) → l.from ≤ b → b < l.block → stored_of (g.S.Site.files l.site) l.file b ≡ mark;
  written : IsTrue g.S.Site.tells → Rewritten (IsBefore l.file l.from) (g.S.Site.files l.fn.site) (g.S.Site.files l.site);
  moments : IsTrue g.S.Site.tells → Steps (Rewrites (IsBefore l.file l.from)) (g.S.Site.clock l.fn.site) (g.S.Site.clock l.site);
  others : IsTrue g.S.Site.tells → (h : ℕ) → (h ≡ l.file → ⊥) → g.S.Site.files l.site h ≡ g.S.Site.files l.fn.site h;
  said : g.S.Site.said l.site ≡ g.S.Site.said l.fn.site;
  same : g.S.Site.same_site l.fn.site l.site;
  clean : g.S.Site.disk_faults l.site ≡ g.S.Site.disk_faults l.fn.site;
  say_faults : g.S.Site.say_faults l.site ≡ g.S.Site.say_faults l.fn.site;
}
