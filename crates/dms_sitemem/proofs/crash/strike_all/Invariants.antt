use Rattle.std.proofs.Common.{◌≡◌, ◌≤◌, take}
use Rattle.dms_sitemem.specs.Slots.{files_of}
use Rattle.dms_sitemem.specs.Replay.{state_of}
use Rattle.dms_sitemem.specs.Picks.{picked_after}
use Rattle.dms_sitemem.proofs.crash.strike_all.Given as goal

abbrev pub invariant-loop-place : goal.invariant-loop-place
invariant-loop-place l = record {
  from : l.from ≤ l.place;
  files : files_of l.image.files ≡ (picked_after l.pick (take l.place l.events)).files;
  seed : l.seed ≡ (picked_after l.pick (take l.place l.events)).seed;
  said : l.image.said.items ≡ (state_of (take l.place l.events)).said;
}
