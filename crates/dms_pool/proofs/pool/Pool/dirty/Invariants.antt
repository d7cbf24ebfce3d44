use Rattle.std.proofs.Common.{◌≡◌}
use Rattle.dms_pool.proofs.Washed.{first_dirty}
use Rattle.dms_pool.proofs.pool.Pool.dirty.Given as goal

abbrev pub invariant-loop-key : goal.invariant-loop-key
invariant-loop-key l = record {
  can_next : (goal.iterator-loop-key).can_next l.key-iterator;
  is_finite : (goal.iterator-loop-key).is_finite l.key-iterator;
  same : first_dirty l.key-iterator ≡ first_dirty l.self.frames.entries;
}
