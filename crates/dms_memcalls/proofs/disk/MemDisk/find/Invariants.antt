use Rattle.std.proofs.Common.{◌≡◌, None}
use Rattle.dms_sitemem.specs.Slots.{files_of}
use Rattle.dms_memcalls.specs.Names.{leads}
use Rattle.dms_memcalls.proofs.disk.MemDisk.find.Given as goal

abbrev pub invariant-loop-file : goal.invariant-loop-file
invariant-loop-file l = leads l.file (files_of l.self.names.files) l.name ≡ None
