use Rattle.std.proofs.Common.{List, sym, ◌∙◌, ap, arith}
use Rattle.dms_history.specs.Ranges.{Logged}
use Rattle.dms_history.specs.Lists.{has}
use Rattle.dms_opening.specs.Judged.{is_described_logged}
use Rattle.dms_history.proofs.Cuts.{first_at_index}
use Rattle.dms_restore.specs.LiveEntries.{logged_at}
use Rattle.dms_restore.proofs.Spots.{no_entry, has_no_more, logged_all}
use Rattle.dms_opening.proofs.judging.has_described.Goals as goal

pub loop-entry-preserved : goal.loop-entry-preserved
loop-entry-preserved c files =
    has_no_more files is_described_logged c.args.live.now c.loop-entry.entry-index c.loop-entry-test.true (c.loop-entry.invariant files) (sym (c.is_described.ensures files) ∙ c.if-is_described.false)

pub returns-then-is_described : goal.returns-then-is_described
returns-then-is_described c files =
    sym (first_at_index (logged_at files) is_described_logged c.args.live.now c.loop-entry.entry-index no_entry c.loop-entry-test.true (c.loop-entry.invariant files) (sym (c.is_described.ensures files) ∙ c.if-is_described.true)).0

pub returns : goal.returns
returns c files =
    sym (c.loop-entry.invariant files) ∙ ap (λ (l : List Logged). has is_described_logged l) (logged_all files c.args.live.now c.loop-entry.entry-index (omega (arith, c.loop-entry-test.false)))
