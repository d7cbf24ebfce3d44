use Rattle.std.proofs.Common.{◌∙◌, ◌<◌, sym, ap, length, arith}
use Rattle.std.proofs.lemmas.Bool.Decides.{nat_tests}
use Rattle.dms_shapes.specs.Leafage.{ends_below}
use Rattle.dms_shapes.specs.WalkLaws.{last_at, last_none}
use Rattle.dms_shapes.proofs.leafage.ends_below.Goals as goal

pub returns-then-is_empty : goal.returns-then-is_empty
returns-then-is_empty c = sym (ap (ends_below c.args.fence.now) (last_none c.args.entries.now (grind (arith, nat_tests, c.is_empty.ensures, c.if-is_empty.true))))

pub returns : goal.returns
returns c =
    let some : 0 < length c.args.entries.now = grind (arith, nat_tests, c.is_empty.ensures, c.if-is_empty.false) in
    c.stands_below.ensures ∙ ap (ends_below c.args.fence.now) (last_at c.args.entries.now _ (omega (arith, some)))
