use Rattle.std.proofs.Common.{◌≡◌, ◌||◌, drop}
use Rattle.dms_history.specs.Entries.{is_begin}
use Rattle.dms_follow.specs.Following.{is_control_entry}
use Rattle.dms_remote.specs.Kinds.{is_first, any_of}
use Rattle.dms_remote.proofs.kinds.kinds_in.Given as goal

abbrev pub invariant-loop-place : goal.invariant-loop-place
invariant-loop-place l = record {
  control : (l.control || any_of is_control_entry l.block (drop l.place-index l.places)) ≡ any_of is_control_entry l.block l.places;
  first : (l.first || any_of is_first l.block (drop l.place-index l.places)) ≡ any_of is_first l.block l.places;
  begin : (l.begin || any_of is_begin l.block (drop l.place-index l.places)) ≡ any_of is_begin l.block l.places;
}
