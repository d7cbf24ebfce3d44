use Rattle.std.proofs.Common.{ℕ, ◌≡◌}
use Rattle.dms_desc.specs.Shape.{as_described}
use Rattle.dms_model.specs.Db.{Db}
use Rattle.dms_manual.specs.Naming.{AreManual, ManualStands, NoneUpto, has_manual}
use Rattle.dms_manual.proofs.naming.is_entered.Given as goal

abbrev pub invariant-loop-s : goal.invariant-loop-s
invariant-loop-s g l =
    ((n : ℕ) → g.L.Lists.usable l.initial.lists n → g.L.Lists.usable l.lists n)
    × (g.L.Lists.calm (has_manual (as_described l.desc).structures l.set) l.s-index l.initial.lists l.lists)
    × (g.L.Lists.listed l.lists ≡ g.L.Lists.listed l.initial.lists)
    × ((db : Db) → ManualStands (as_described l.desc) db l.set l.number → AreManual (as_described l.desc) db l.set (g.L.Lists.listed l.initial.lists) → NoneUpto (as_described l.desc) db l.set l.number l.s-index)
