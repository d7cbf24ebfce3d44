use Rattle.std.proofs.Common.{◌≡◌, ◌++◌, drop}
use Rattle.dms_key.specs.KeyBytes.{key_bytes}
use Rattle.dms_key.proofs.keys.key_bytes.Given as goal

abbrev pub invariant-loop-part : goal.invariant-loop-part
invariant-loop-part l = l.out ++ key_bytes l.items (drop l.part-index l.parts) l.rest ≡ key_bytes l.items l.parts l.values
