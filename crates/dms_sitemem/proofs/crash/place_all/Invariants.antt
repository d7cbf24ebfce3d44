use Rattle.std.proofs.Common.{◌≡◌}
use Rattle.std.specs.BTreeMap.{btree_map_len}
use Rattle.dms_sitemem.specs.Slots.{files_of}
use Rattle.dms_sitemem.proofs.Placed.{PlacedFiles}
use Rattle.dms_sitemem.proofs.crash.place_all.Given as goal

abbrev pub invariant-loop-file : goal.invariant-loop-file
invariant-loop-file l = record {
  placed : PlacedFiles (files_of l.fn.files) (files_of l.journal.image.files) l.left;
  said : l.journal.image.said.items ≡ l.fn.journal.image.said.items;
  made : l.journal.made ≡ l.fn.journal.made;
  plan : l.journal.plan ≡ l.fn.journal.plan;
}

abbrev pub decreases-loop-file : goal.decreases-loop-file
decreases-loop-file l = btree_map_len l.left
