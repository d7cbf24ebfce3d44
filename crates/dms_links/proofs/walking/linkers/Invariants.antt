use Rattle.std.proofs.Common.{◌≡◌, ◌++◌, ℕ, drop, take, Ok}
use Rattle.std.specs.Prelude.{IsTrue}
use Rattle.dms_block.specs.View.{ReadsOverlay, overlay_content, under}
use Rattle.dms_desc.specs.Shape.{as_described}
use Rattle.dms_links.specs.Linking.{linking_in, walked_most}
use Rattle.dms_links.proofs.walking.linkers.Given as goal

abbrev pub invariant-loop-s : goal.invariant-loop-s
invariant-loop-s g l = record {
  reads : ReadsOverlay {T = ℕ} (walked_most l.set (take l.s-index (as_described l.desc).structures)) (Ok 0) l.fn.over l.over;
  faults : (under l.over).faults ≡ (under l.fn.over).faults;
  on : IsTrue (under l.fn.over).told → l.found.items ++ linking_in l.set l.number (overlay_content l.fn.over) (drop l.s-index (as_described l.desc).structures) ≡ linking_in l.set l.number (overlay_content l.fn.over) (as_described l.desc).structures;
}
