use Rattle.std.proofs.Common.{◌≡◌, ◌∙◌, sym, ap, length, rules}
use Rattle.dms_history.specs.declared.event.FileCount.{FileCount}
use Rattle.dms_restore.specs.Counts.{file_counts}
use Rattle.dms_dumping.proofs.Counted.{listed_few, listed_rise}
use Rattle.dms_dumping.proofs.writing.write_ready.Goals as goal

pub write_opened-ended-requires-clause-few : goal.write_opened-ended-requires-clause-few
write_opened-ended-requires-clause-few g c =
    let same : c.deref.result.now ≡ c.args.ready.counts.items = search rules in
    listed_few c.args.ready.opened.counts.items c.requires.table c.deref.result.now (same ∙ c.requires.counts)

pub write_opened-ended-requires-clause-rising : goal.write_opened-ended-requires-clause-rising
write_opened-ended-requires-clause-rising g c =
    let same : c.deref.result.now ≡ c.args.ready.counts.items = search rules in
    listed_rise c.args.ready.opened.counts.items c.requires.table c.deref.result.now (same ∙ c.requires.counts)
