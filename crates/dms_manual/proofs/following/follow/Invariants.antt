use Rattle.std.proofs.Common.{ℕ, ◌≤◌, take}
use Rattle.dms_desc.specs.Shape.{as_described}
use Rattle.dms_model.specs.Db.{Db}
use Rattle.dms_manual.specs.Following.{AllMovesStand, MadeChanges, MovedUpto, NoOtherMoves, most_changes_among}
use Rattle.dms_manual.specs.Naming.{AreManual, has_manual}
use Rattle.dms_manual.proofs.following.follow.Given as goal

abbrev pub invariant-loop-s : goal.invariant-loop-s
invariant-loop-s g l =
    ((n : ℕ) → g.L.Lists.usable l.initial.lists n → g.L.Lists.usable l.lists n)
    × (MadeChanges (λ n. g.L.Lists.calm (has_manual (as_described l.desc).structures l.set) n l.initial.lists l.lists)
    (λ n. (db : Db) → AllMovesStand (as_described l.desc) db l.set l.number l.old l.new → AreManual (as_described l.desc) db l.set (g.L.Lists.listed l.initial.lists)
    → n ≤ most_changes_among (as_described l.desc) db l.set l.number (take l.s-index (as_described l.desc).structures)))
    × (NoOtherMoves (as_described l.desc) l.set (g.L.Lists.listed l.initial.lists) (g.L.Lists.listed l.lists))
    × ((db : Db) → AllMovesStand (as_described l.desc) db l.set l.number l.old l.new → AreManual (as_described l.desc) db l.set (g.L.Lists.listed l.initial.lists) → MovedUpto (as_described l.desc) db l.set l.number l.new l.s-index (g.L.Lists.listed l.lists))
