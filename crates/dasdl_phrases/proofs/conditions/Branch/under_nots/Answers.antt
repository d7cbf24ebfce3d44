use Rattle.std.proofs.Common.{sym, ◌∙◌, ap}
use Rattle.dasdl_phrases.specs.TreeCodes.{WrittenTree}
use Rattle.dasdl_phrases.specs.TreeCodes.WrittenTree.{Turned}
use Rattle.dasdl_phrases.proofs.Nots.{negated-one}
use Rattle.dasdl_phrases.proofs.conditions.Branch.under_nots.Goals as goal

pub loop-not-preserved : goal.loop-not-preserved
loop-not-preserved c = c.in_ok-branch.ensures ∙ ap (λ (t : WrittenTree). Turned t) c.loop-not.invariant ∙ sym (negated-one c.loop-not._not c.args.self)
