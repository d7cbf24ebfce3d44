use Rattle.std.proofs.Common.{◌≡◌, ℕ, false, take}
use Rattle.dms_site.specs.Files.{Files}
use Rattle.dms_history.specs.Entries.{named_by}
use Rattle.dms_restore.specs.LiveEntries.{logged_live}
use Rattle.dms_restore.specs.Named.{Noted, is_marked, IsBare}
use Rattle.dms_restore.proofs.Noting.{undone_other}
use Rattle.dms_restore.proofs.marking.mark_undo.Given as goal

abbrev pub invariant-loop-entry : goal.invariant-loop-entry
invariant-loop-entry l = record {
  bare : IsBare l.spots;
  stays : (f b : ℕ) → is_marked l.spots f b ≡ false → is_marked l.fn.spots f b ≡ false;
  undoes : (files : Files) (f b : ℕ) (n : Noted) → is_marked l.spots f b ≡ false → undone_other (named_by l.rows f b) f b n (logged_live files (take l.entry-index l.undo)) ≡ n;
}
