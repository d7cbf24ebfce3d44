use Rattle.std.proofs.Common.{◌≡◌, ◌+◌, drop}
use Rattle.dms_key.specs.KeyBytes.{key_width}
use Rattle.dms_manual.proofs.widths.entry_width.Given as goal

abbrev pub invariant-loop-part : goal.invariant-loop-part
invariant-loop-part l = l.width + key_width l.kinds (drop l.part-index l.parts) ≡ 8 + key_width l.kinds l.parts
