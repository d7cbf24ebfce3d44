use Rattle.std.proofs.Common.{List, None, map, subst}
use Rattle.dms_desc.specs.Shape.{as_described, shape_of}
use Rattle.dms_desc.specs.declared.structure.Structure.{Structure}
use Rattle.dms_model.specs.Db.{Records}
use Rattle.dms_plain.specs.Listed.{AreLists}
use Rattle.dms_plain.specs.Rows.{records_in, restore}
use Rattle.dms_plain.proofs.Following.{alone, removed_alone}
use Rattle.dms_plain.proofs.lists.follow_removal.Goals as goal

pub returns-then-places-eq1 : goal.returns-then-places-eq1
returns-then-places-eq1 c =
    let d = as_described c.args.desc.now in
    let set = c.args.set in
    let number = c.args.number in
    let rows = c.args.rows.now in
    let ls = c.follow.new.lists.items in
    let none = alone d set number rows c.args.places.now c.requires.places c.if-places-eq1.true in
    subst (λ (m : Records). AreLists d.structures ls m) (removed_alone d set number rows c.requires.in_order none)
    (subst (λ (xs : List Structure). AreLists (map shape_of xs) ls (restore (set, number) None (records_in rows))) c.as_slice.ensures c.follow.ensures)
