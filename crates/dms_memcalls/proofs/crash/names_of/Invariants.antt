use Rattle.std.proofs.Common.{◌≡◌, ◌<◌, ℕ}
use Rattle.dms_sitemem.specs.Slots.{files_of}
use Rattle.dms_memcalls.proofs.crash.names_of.Given as goal

abbrev pub invariant-loop-file : goal.invariant-loop-file
invariant-loop-file l = (k : ℕ) → k < l.file → files_of l.names.files k ≡ files_of l.disk.names.files k
