use Rattle.std.proofs.Common.{◌≡◌, ◌-◌}
use Rattle.dms_audfile.proofs.HeldImages.{in_blocks}
use Rattle.dms_audfile.proofs.holding.group_holds.Given as goal

abbrev pub invariant-loop-i : goal.invariant-loop-i
invariant-loop-i l = in_blocks l.file l.block (l.full - l.i) l.i l.group ≡ in_blocks l.file l.block l.full 0 l.group
