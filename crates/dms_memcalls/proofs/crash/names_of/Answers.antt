use Rattle.dms_sitemem.specs.Slots.{files_of}
use Rattle.dms_memcalls.proofs.Grown.{names_on}
use Rattle.dms_memcalls.proofs.crash.names_of.Goals as goal

pub loop-file-preserved : goal.loop-file-preserved
loop-file-preserved c = names_on _ _ (files_of c.args.disk.now.names.files) c.loop-file.file _ c.loop-file.invariant c.in_ok-set.ensures.set c.bytes.ensures
