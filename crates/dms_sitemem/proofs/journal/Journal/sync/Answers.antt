use Rattle.dms_sitemem.specs.Replay.{state_of}
use Rattle.dms_sitemem.specs.Honest.{sync_leads}
use Rattle.dms_sitemem.proofs.Kept.{more_steps, sync_only}
use Rattle.dms_sitemem.proofs.journal.Journal.sync.Goals as goal

pub returns-clause-durable : goal.returns-clause-durable
returns-clause-durable c done = sync_only _ _ _ _ c.in_ok-keep.ensures.kept c.args.self.now.files_same done

pub returns-clause-moments : goal.returns-clause-moments
returns-clause-moments c = more_steps _ _ _ _ c.in_ok-keep.ensures.kept (sync_leads (state_of c.args.self.now.events.items) c.succeeds-done.result)
