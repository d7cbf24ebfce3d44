use Rattle.std.proofs.Common.{◌≡◌, ◌+◌}
use Rattle.dms_remote.proofs.Noted.{NotesFirst}
use Rattle.dms_remote.proofs.noting.note_block.Given as goal

abbrev pub invariant-loop-place : goal.invariant-loop-place
invariant-loop-place l = record {
  before : l.before ≡ l.at + l.place-index;
  notes : NotesFirst l.block l.places l.at l.place-index l.fn.trace l.trace;
}
