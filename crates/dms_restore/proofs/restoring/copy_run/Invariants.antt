use Rattle.std.proofs.Common.{◌≡◌, ◌≤◌, ℕ, Bool, IsTrue, List, ◌++◌}
use Rattle.dms_moments.specs.Moments.{Steps}
use Rattle.dms_site.specs.Files.{Files}
use Rattle.dms_running.specs.Restoring.{Rewritten, Rewrites}
use Rattle.dms_restore.specs.declared.told.Told.{Told}
use Rattle.dms_restore.specs.Table.{Kept, AreFree, AreWhole, Holds, SameLow, KeepsNone, blocks_in}
use Rattle.dms_restore.proofs.restoring.copy_run.Given as goal

abbrev pub invariant-loop-number : goal.invariant-loop-number
invariant-loop-number g l = record {
  moments : (keeps : ℕ → ℕ → Bool) → IsTrue g.S.Site.tells → AreFree (Kept keeps) (blocks_in l.run l.run.blocks) → Steps (Rewrites (Kept keeps)) (g.S.Site.clock l.fn.site) (g.S.Site.clock l.site);
  written : (keeps : ℕ → ℕ → Bool) → IsTrue g.S.Site.tells → AreFree (Kept keeps) (blocks_in l.run l.run.blocks) → Rewritten (Kept keeps) (g.S.Site.files l.fn.site) (g.S.Site.files l.site);
  done : (start : Files) (ts : List Told) → IsTrue g.S.Site.tells → SameLow start (g.S.Site.files l.fn.site) → AreWhole start ts → AreWhole start (blocks_in l.run l.run.blocks) → Holds start ts (g.S.Site.files l.fn.site) → Holds start (ts ++ blocks_in l.run l.number) (g.S.Site.files l.site);
  left : IsTrue g.S.Site.tells → Steps (Rewrites KeepsNone) (g.S.Site.clock l.fn.site) (g.S.Site.clock l.site);
  others : IsTrue g.S.Site.tells → (h : ℕ) → h ≤ 30000 → g.S.Site.files l.site h ≡ g.S.Site.files l.fn.site h;
  said : g.S.Site.said l.site ≡ g.S.Site.said l.fn.site;
  same : g.S.Site.same_site l.fn.site l.site;
  disk : g.S.Site.disk_faults l.site ≡ g.S.Site.disk_faults l.fn.site;
  say_faults : g.S.Site.say_faults l.site ≡ g.S.Site.say_faults l.fn.site;
}
