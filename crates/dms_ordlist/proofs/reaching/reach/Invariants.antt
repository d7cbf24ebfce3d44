use Rattle.std.proofs.Common.{◌≡◌, ◌<◌, List, IsTrue}
use Rattle.std.specs.Prelude.{IfSome}
use Rattle.std.specs.declared.result.Result.TheVariants.{Ok}
use Rattle.dms_block.specs.View.{ReadsOverlay, seen_counts, under}
use Rattle.dms_chain.specs.Linked.{BlockChain, front}
use Rattle.dms_chain.specs.ListBlocks.{leaf_in}
use Rattle.dms_chain.specs.ListIn.{Leaf}
use Rattle.dms_ordlist.specs.Places.{SpotHolds, Walked}
use Rattle.dms_chain.specs.Seen.{look}
use Rattle.dms_ordlist.proofs.reaching.reach.Given as goal

abbrev pub invariant-loop-turn : goal.invariant-loop-turn
invariant-loop-turn g l = record {
  reads : ReadsOverlay {T = Unit {0}} l._turn (Ok tt) l.fn.over l.over;
  faults : (under l.over).faults ≡ (under l.fn.over).faults;
  some : 0 < l.at;
  before : IfSome l.before (SpotHolds l.width (seen_counts l.fn.over l.file));
  walked : IsTrue (under l.fn.over).told → (ls : List Leaf) → BlockChain (leaf_in l.width) (look l.fn.over l.file) ls 0 → front ls 0 ≡ l.first → Walked l.bytes ls l.before l._turn l.at;
}
