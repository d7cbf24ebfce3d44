use Rattle.std.proofs.Common.{◌∙◌}
use Rattle.dms_memcalls.proofs.Grown.{alike_same, nothing_seen}
use Rattle.dms_memcalls.proofs.story.Story.new.Goals as goal

pub invariant_of-result : goal.invariant_of-result
invariant_of-result c = record { alike = alike_same _ _ (c.new.ensures ∙ nothing_seen _ c.new-2.ensures.items) }
