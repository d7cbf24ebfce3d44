use Rattle.dms_sitemem.specs.Replay.{state_of}
use Rattle.dms_sitemem.specs.Honest.{look_leads}
use Rattle.dms_sitemem.proofs.Kept.{more_steps}
use Rattle.dms_sitemem.proofs.journal.Journal.look.Goals as goal

pub returns-clause-moments : goal.returns-clause-moments
returns-clause-moments c = more_steps _ _ _ _ c.in_ok-keep.ensures.kept (look_leads (state_of c.args.self.now.events.items) c.succeeds-done.result)
