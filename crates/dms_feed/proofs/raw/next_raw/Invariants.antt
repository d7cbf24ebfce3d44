use Rattle.std.proofs.Common.{◌≡◌, List, ℕ}
use Rattle.dms_feed.specs.Feeds.{Remains}
use Rattle.dms_feed.proofs.Reading.{Reads}
use Rattle.dms_feed.proofs.raw.next_raw.Given as goal

abbrev pub invariant-loop-turn : goal.invariant-loop-turn
invariant-loop-turn g l =
    let left = g.I.Source.left in
    record {
      same : g.I.Source.same_source l.fn.source l.source;
      clean : g.I.Source.faults l.source ≡ g.I.Source.faults l.fn.source;
      reads : (all : List ℕ) → Remains l.fn.feed (left l.fn.source) all → (rest : List ℕ) × Remains l.feed (left l.source) rest × Reads l.cap l.kept l.turn rest all;
    }
