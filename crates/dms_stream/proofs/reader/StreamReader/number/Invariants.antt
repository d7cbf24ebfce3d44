use Rattle.std.proofs.Common.{ℕ, ◌≡◌, ◌≤◌, List}
use Rattle.dms_feed.specs.Feeds.{Remains}
use Rattle.dms_stream.proofs.Steps.{NumberOn}
use Rattle.dms_stream.proofs.reader.StreamReader.number.Given as goal

abbrev pub invariant-loop-done : goal.invariant-loop-done
invariant-loop-done g l =
    let left = g.I.Source.left in
    record {
      same : g.I.Source.same_source l.fn.source l.source;
      clean : g.I.Source.faults l.source ≡ g.I.Source.faults l.fn.source;
      few : l.self.taken ≤ 2147483648;
      small : l.got ≤ l.high;
      reads : (all : List ℕ) → Remains l.fn.self.feed (left l.fn.source) all → NumberOn l.fn.bytes l.fn.low l.fn.high l.fn.self.taken l.done l.got l.self.taken l.self.feed (left l.source) all;
    }
