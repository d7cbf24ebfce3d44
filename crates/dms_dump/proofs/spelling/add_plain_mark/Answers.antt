use Rattle.std.proofs.Common.{ℕ, ◌≡◌, ◌≢◌, ◌++◌, List, ap, ◌∙◌, take, arith, rules}
use Rattle.std.proofs.lemmas.Bool.Decides.{nat_tests}
use Rattle.std.specs.Int.{w64, to_be_bytes}
use Rattle.dms_dump.proofs.Spelled.{mark_else}
use Rattle.dms_dump.proofs.spelling.add_plain_mark.Goals as goal

pub returns-else-tag-eq0-clause-added : goal.returns-else-tag-eq0-clause-added
returns-else-tag-eq0-clause-added c =
    let some : c.args.tag ≢ 0 = grind (arith, nat_tests, c.if-tag-eq0.false) in
    let second : take c.add_bytes-else-tag-eq0.result c.add_bytes-else-tag-eq0.new.into ≡ take c.add_bytes-next.result c.add_bytes-next.new.into ++ to_be_bytes w64 c.args.tag = search rules in
    second ∙ ap (λ (l : List ℕ). l ++ to_be_bytes w64 c.args.tag) c.add_bytes-next.ensures.added ∙ mark_else c.args.tag (take c.args.at c.args.into.now) some
