use Rattle.std.proofs.Common.{refl}
use Rattle.dms_calls.specs.World.{Unchanged}
use Rattle.dms_memcalls.specs.Steady.{steps_grew}
use Rattle.dms_memcalls.proofs.Grown.{grew_seen}
use Rattle.dms_memcalls.proofs.mem_calls.MemCalls.look.Goals as goal

pub returns-clause-seen : goal.returns-clause-seen
returns-clause-seen c = grew_seen _ _ _ c.keep_disk.ensures.grew refl

pub returns-clause-moments : goal.returns-clause-moments
returns-clause-moments c = steps_grew _ _ _ Unchanged c.keep_disk.ensures.grew (λ w. refl) (λ v w is. is)
