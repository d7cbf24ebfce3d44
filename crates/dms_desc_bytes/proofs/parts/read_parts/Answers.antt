use Rattle.std.proofs.Common.{◌+◌}
use Rattle.dms_desc_bytes.specs.Reading.{list_at, part_at}
use Rattle.dms_desc_bytes.proofs.Several.{one_more, all_read}
use Rattle.dms_desc_bytes.proofs.parts.read_parts.Goals as goal

pub loop-more-preserved : goal.loop-more-preserved
loop-more-preserved c = one_more (λ k. part_at) c.loop-more.parts c.push.new.self c.read_part.result (c.loop-more._more + 1) c.byte-count.result c.loop-more._more c.loop-more.input c.read_part.new.input (list_at part_at c.args.input.now) c.loop-more-test.true c.loop-more.invariant c.read_part.ensures c.in_ok-push.ensures.ok

pub returns : goal.returns
returns c = all_read (λ k. part_at) c.loop-more.parts (c.loop-more._more + 1) c.byte-count.result c.loop-more._more c.loop-more.input (list_at part_at c.args.input.now) c.loop-more-test.false c.loop-more.invariant
