use Rattle.dms_sitemem.proofs.Crashes.{SyncedTo}
use Rattle.dms_sitemem.proofs.crash.last_sync.Given as goal

abbrev pub invariant-loop-place : goal.invariant-loop-place
invariant-loop-place l = SyncedTo l.events l.place l.synced
