use Rattle.std.proofs.Common.{◌≡◌, ℕ, false, take}
use Rattle.dms_site.specs.Files.{Files}
use Rattle.dms_restore.specs.Chosen.{place_from}
use Rattle.dms_restore.specs.Named.{noted_front, is_marked, IsBare}
use Rattle.dms_restore.proofs.marking.mark_redo.Given as goal

abbrev pub invariant-loop-i : goal.invariant-loop-i
invariant-loop-i l = record {
  bare : IsBare l.spots;
  names : (files : Files) (f b : ℕ) → is_marked l.spots f b ≡ false → (noted_front files (place_from l.rows l.of_rows l.of_others f b) (take l.i l.redo) f b).named ≡ false;
}
