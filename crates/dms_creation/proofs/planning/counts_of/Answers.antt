use Rattle.std.proofs.Common.{◌+◌, ◌++◌, ◌∙◌, ap, refl, List, ℕ}
use Rattle.dms_creation.proofs.Parts.{counts_more}
use Rattle.dms_creation.proofs.planning.counts_of.Goals as goal

pub loop-number-preserved : goal.loop-number-preserved
loop-number-preserved c =
    counts_more c.loop-number.number (30001 + c.loop-number.number) c.loop-number.counts c.extend.new.self _ c.loop-number.invariant refl
    (c.in_ok-extend.ensures.ok ∙ ap (λ (l : List ℕ). c.loop-number.counts ++ l) c.to_be_bytes.ensures) c.in_ok-extend-2.ensures.ok
