use Rattle.std.proofs.Common.{ℕ, ◌*◌}
use Rattle.std.specs.Option.{option_copied}
use Rattle.dms_desc.specs.Shape.{as_described}
use Rattle.dms_model.specs.Db.{Db}
use Rattle.dms_sets.specs.Changes.{has_number}
use Rattle.dms_sets.specs.Told.{AreListed, ChangeStands, Upto}
use Rattle.dms_sets.proofs.sets.change.Given as goal

abbrev pub invariant-loop-s : goal.invariant-loop-s
invariant-loop-s g l =
    ((n : ℕ) → g.L.Lists.usable l.initial.lists n → g.L.Lists.usable l.lists n)
    × (g.L.Lists.calm (has_number (as_described l.desc).structures l.set) (2 * l.s-index) l.initial.lists l.lists)
    × ((db : Db) → ChangeStands (as_described l.desc) db l.set l.number (option_copied l.old) (option_copied l.new) → AreListed (as_described l.desc) db (g.L.Lists.listed l.initial.lists)
    → Upto (as_described l.desc) db l.set l.number (option_copied l.old) (option_copied l.new) l.s-index (g.L.Lists.listed l.lists))
