use Rattle.std.proofs.Common.{◌≡◌, ◌≤◌, ℕ, Bool, IsTrue, take}
use Rattle.dms_moments.specs.Moments.{Steps}
use Rattle.dms_running.specs.Restoring.{Rewritten, Rewrites}
use Rattle.dms_restore.specs.Table.{Kept, AreFree, AreWhole, Holds, KeepsNone, all_in}
use Rattle.dms_restore.proofs.restoring.copy_runs.Given as goal

abbrev pub invariant-loop-run : goal.invariant-loop-run
invariant-loop-run g l = record {
  moments : (keeps : ℕ → ℕ → Bool) → IsTrue g.S.Site.tells → AreFree (Kept keeps) (all_in l.runs) → Steps (Rewrites (Kept keeps)) (g.S.Site.clock l.fn.site) (g.S.Site.clock l.site);
  written : (keeps : ℕ → ℕ → Bool) → IsTrue g.S.Site.tells → AreFree (Kept keeps) (all_in l.runs) → Rewritten (Kept keeps) (g.S.Site.files l.fn.site) (g.S.Site.files l.site);
  done : IsTrue g.S.Site.tells → AreWhole (g.S.Site.files l.fn.site) (all_in l.runs) → Holds (g.S.Site.files l.fn.site) (all_in (take l.run-index l.runs)) (g.S.Site.files l.site);
  left : IsTrue g.S.Site.tells → Steps (Rewrites KeepsNone) (g.S.Site.clock l.fn.site) (g.S.Site.clock l.site);
  others : IsTrue g.S.Site.tells → (h : ℕ) → h ≤ 30000 → g.S.Site.files l.site h ≡ g.S.Site.files l.fn.site h;
  said : g.S.Site.said l.site ≡ g.S.Site.said l.fn.site;
  same : g.S.Site.same_site l.fn.site l.site;
  disk : g.S.Site.disk_faults l.site ≡ g.S.Site.disk_faults l.fn.site;
  say_faults : g.S.Site.say_faults l.site ≡ g.S.Site.say_faults l.fn.site;
}
