use Rattle.std.proofs.Common.{refl}
use Rattle.std.proofs.lemmas.Result.{on_ok_weaker}
use Rattle.dms_calls.specs.World.{Unchanged}
use Rattle.dms_memcalls.specs.Steady.{steps_grew, names_stable}
use Rattle.dms_memcalls.proofs.Grown.{grew_world}
use Rattle.dms_memcalls.proofs.mem_calls.MemCallsCalls.fsync_folder.Goals as goal

pub returns-clause-stable : goal.returns-clause-stable
returns-clause-stable c = on_ok_weaker c.keep_disk.result (λ kept. names_stable _ _ _ kept.1 kept.0) c.keep_disk.ensures.kept

pub returns-clause-world : goal.returns-clause-world
returns-clause-world c = grew_world _ _ _ c.keep_disk.ensures.grew refl

pub returns-clause-moments : goal.returns-clause-moments
returns-clause-moments c = steps_grew _ _ _ Unchanged c.keep_disk.ensures.grew (λ w. refl) (λ v w is. is.0)
