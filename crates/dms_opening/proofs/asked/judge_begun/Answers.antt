use Rattle.std.proofs.Common.{◌≡◌, length, rules, ◌∙◌, ap, min, take, ◌++◌}
use Rattle.dms_opening.proofs.AskedFor.{none_begun, some_begun}
use Rattle.dms_opening.proofs.asked.judge_begun.Goals as goal

pub returns-in-None : goal.returns-in-None
returns-in-None c files entries t = none_begun files entries c.args.history.now c.args.first c.args.look c.in-None.is t

pub returns : goal.returns
returns c files entries t =
    let many : c.len.result ≡ length c.args.history.now.live.items = search rules in
    some_begun files entries c.args.history.now c.deref-3.result.now c.in-Some.at c.min-kept.result c.args.first c.args.look c.judge_restore.result c.in-Some.is (c.min-kept.ensures ∙ ap (λ k. min c.in-Some.at.kept k) many)
    (c.deref-3.ensures.value ∙ c.in_ok-before.ensures ∙ (λ i. take c.min-kept.result (c.deref.ensures.value i) ++ c.deref-2.ensures.value i))
    (c.judge_restore.ensures files) t
