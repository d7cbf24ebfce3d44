use Rattle.std.proofs.Common.{◌≡◌, ◌+◌, ◌*◌, ◌≤◌, drop}
use Rattle.dms_key.specs.KeyBytes.{key_width}
use Rattle.dms_key.proofs.keys.max_key.Given as goal

abbrev pub invariant-loop-part : goal.invariant-loop-part
invariant-loop-part l = record {
  left : l.width + key_width l.items (drop l.part-index l.parts) ≡ key_width l.items l.parts;
  small : l.width ≤ 256 * l.part-index;
}
