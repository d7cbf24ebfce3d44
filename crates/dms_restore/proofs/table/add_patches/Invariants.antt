use Rattle.std.proofs.Common.{◌≡◌, ◌++◌, map, take}
use Rattle.dms_restore.specs.Named.{patch_of}
use Rattle.dms_restore.specs.Table.{AreBlocks}
use Rattle.dms_restore.proofs.table.add_patches.Given as goal

abbrev pub invariant-loop-patch : goal.invariant-loop-patch
invariant-loop-patch l = record {
  blocks : AreBlocks l.table.items;
  added : l.table.items ≡ l.fn.table.items ++ map (patch_of l.file l.block) (take l.patch-index l.patches);
}
