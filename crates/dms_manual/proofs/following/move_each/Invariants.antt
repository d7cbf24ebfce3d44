use Rattle.std.proofs.Common.{ℕ, ◌*◌, drop}
use Rattle.std.specs.Prelude.{◌==◌}
use Rattle.dms_desc.specs.Shape.{shape_of}
use Rattle.dms_model.specs.Db.{Db}
use Rattle.dms_sets.specs.Changes.{OtherListsStay, list_of_set}
use Rattle.dms_manual.specs.Followed.{MovedSome}
use Rattle.dms_manual.specs.Following.{MovesStand}
use Rattle.dms_manual.proofs.following.move_each.Given as goal

abbrev pub invariant-loop-entry : goal.invariant-loop-entry
invariant-loop-entry g l =
    ((n : ℕ) → g.L.Lists.usable l.initial.lists n → g.L.Lists.usable l.lists n)
    × (g.L.Lists.calm (λ m. m == l.s.number) (2 * l.entry-index) l.initial.lists l.lists)
    × (OtherListsStay (shape_of l.s) (g.L.Lists.listed l.initial.lists) (g.L.Lists.listed l.lists))
    × ((db : Db) → MovesStand l.kinds (shape_of l.s) db l.number l.old l.new → MovedSome l.kinds (shape_of l.s) db l.number l.old l.new l.found (list_of_set (g.L.Lists.listed l.initial.lists) l.kinds (shape_of l.s))
    → MovedSome l.kinds (shape_of l.s) db l.number l.old l.new (drop l.entry-index l.found) (list_of_set (g.L.Lists.listed l.lists) l.kinds (shape_of l.s)))
