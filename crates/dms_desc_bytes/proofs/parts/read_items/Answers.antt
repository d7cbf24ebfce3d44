use Rattle.std.proofs.Common.{◌+◌}
use Rattle.dms_desc_bytes.specs.Reading.{list_at, item_at}
use Rattle.dms_desc_bytes.proofs.Several.{one_more, all_read}
use Rattle.dms_desc_bytes.proofs.parts.read_items.Goals as goal

pub loop-more-preserved : goal.loop-more-preserved
loop-more-preserved c = one_more (λ k. item_at) c.loop-more.items c.push.new.self c.in_ok-read_item.field-0 (c.loop-more._more + 1) c.byte-count.result c.loop-more._more c.loop-more.input c.read_item.new.input (list_at item_at c.args.input.now) c.loop-more-test.true c.loop-more.invariant c.in_ok-read_item.ensures c.in_ok-push.ensures.ok

pub returns : goal.returns
returns c = all_read (λ k. item_at) c.loop-more.items (c.loop-more._more + 1) c.byte-count.result c.loop-more._more c.loop-more.input (list_at item_at c.args.input.now) c.loop-more-test.false c.loop-more.invariant
