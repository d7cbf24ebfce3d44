use Rattle.std.proofs.Common.{◌≡◌, ◌<◌, ◌≤◌, ◌*◌, List, IsTrue}
use Rattle.std.specs.Option.{option_copied}
use Rattle.std.specs.declared.result.Result.TheVariants.{Ok}
use Rattle.dms_block.specs.View.{ReadsOverlay, seen_counts, under}
use Rattle.dms_chain.specs.Linked.{BlockChain, front}
use Rattle.dms_chain.specs.ListBlocks.{leaf_in}
use Rattle.dms_chain.specs.ListIn.{Leaf}
use Rattle.dms_chain.specs.Seen.{look}
use Rattle.dms_ordlist.specs.Walks.{Passed}
use Rattle.dms_ordlist.proofs.walking.walk.Given as goal

abbrev pub invariant-loop-turn : goal.invariant-loop-turn
invariant-loop-turn g l = record {
  reads : ReadsOverlay {T = Unit {0}} l._turn (Ok tt) l.fn.over l.over;
  faults : (under l.over).faults ≡ (under l.fn.over).faults;
  some : 0 < l.at;
  before : l.before < seen_counts l.fn.over l.file;
  few : l.total ≤ 1017 * l._turn;
  passed : IsTrue (under l.fn.over).told → (ls : List Leaf) → BlockChain (leaf_in l.width) (look l.fn.over l.file) ls 0 → front ls 0 ≡ l.first → Passed (option_copied l.tail) l.width (look l.fn.over l.file) ls l._turn l.at l.total l.ending.items;
}
