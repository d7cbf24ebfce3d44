use Rattle.std.proofs.Common.{◌≡◌, take}
use Rattle.dms_sitemem.specs.Slots.{files_of}
use Rattle.dms_sitemem.specs.Replay.{state_of}
use Rattle.dms_sitemem.proofs.crash.replay.Given as goal

abbrev pub invariant-loop-place : goal.invariant-loop-place
invariant-loop-place l = record {
  files : files_of l.image.files ≡ (state_of (take l.place l.events)).files;
  said : l.image.said.items ≡ (state_of (take l.place l.events)).said;
}
