use Rattle.std.proofs.Common.{◌≡◌, ◌+◌, length}
use Rattle.dms_model.specs.Valid.{AreRising}
use Rattle.dms_plain.specs.Moves.{before_moves}
use Rattle.dms_plain.proofs.manual.move_all_back.Given as goal

abbrev pub invariant-loop-turn : goal.invariant-loop-turn
invariant-loop-turn l = record {
  rising : AreRising l.kept.items;
  same : before_moves l.moves.items l.kept.items ≡ before_moves l.fn.moves.items l.fn.kept.items;
  count : length l.moves.items + l._turn ≡ length l.fn.moves.items;
}
