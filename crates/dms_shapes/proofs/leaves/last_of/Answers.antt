use Rattle.std.proofs.Common.{◌∙◌, ◌<◌, sym, length, arith}
use Rattle.std.proofs.lemmas.Bool.Decides.{nat_tests}
use Rattle.std.proofs.lemmas.Result.{IfOk-weaker}
use Rattle.dms_shapes.specs.WalkLaws.{last_at, last_none}
use Rattle.dms_shapes.proofs.leaves.last_of.Goals as goal

pub returns-then-is_empty : goal.returns-then-is_empty
returns-then-is_empty c = sym (last_none c.args.entries.now (grind (arith, nat_tests, c.is_empty.ensures, c.if-is_empty.true)))

pub returns : goal.returns
returns c =
    let some : 0 < length c.args.entries.now = grind (arith, nat_tests, c.is_empty.ensures, c.if-is_empty.false) in
    IfOk-weaker c.entry_at.result _ _ (λ o h. h ∙ last_at c.args.entries.now _ (omega (arith, some))) c.entry_at.ensures
