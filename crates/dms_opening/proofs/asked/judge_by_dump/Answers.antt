use Rattle.std.proofs.Common.{◌∙◌}
use Rattle.dms_opening.specs.Asked.{or_next}
use Rattle.dms_opening.proofs.asked.judge_by_dump.Goals as goal

pub returns : goal.returns
returns c files =
    c.or_next-2.ensures ∙ (λ i. or_next (c.judge_file.ensures i) ((c.or_next.ensures ∙ (λ j. or_next (c.refuse_point.ensures files j) (c.judge_dump_point.ensures files j))) i))
