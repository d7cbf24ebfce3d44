use Rattle.dms_memcalls.specs.Views.{view}
use Rattle.dms_memcalls.specs.Outcomes.{seen_now}
use Rattle.dms_memcalls.proofs.Struck.{Came}
use Rattle.dms_memcalls.proofs.crash.begin_story.Given as goal

abbrev pub invariant-loop-file : goal.invariant-loop-file
invariant-loop-file l = Came (view l.disk) l.file (seen_now l.story.events.items)
