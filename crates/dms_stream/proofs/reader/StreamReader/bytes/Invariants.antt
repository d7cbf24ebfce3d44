use Rattle.std.proofs.Common.{ℕ, ◌≡◌, ◌≤◌, List, length}
use Rattle.dms_feed.specs.Feeds.{Remains}
use Rattle.dms_stream.proofs.Steps.{BytesOn}
use Rattle.dms_stream.proofs.reader.StreamReader.bytes.Given as goal

abbrev pub invariant-loop-place : goal.invariant-loop-place
invariant-loop-place g l =
    let left = g.I.Source.left in
    record {
      same : g.I.Source.same_source l.fn.source l.source;
      clean : g.I.Source.faults l.source ≡ g.I.Source.faults l.fn.source;
      few : l.self.taken ≤ 2147483648;
      size : length l.into ≡ length l.fn.into;
      reads : (all : List ℕ) → Remains l.fn.self.feed (left l.fn.source) all → BytesOn l.fn.self.taken l.place l.into l.self.taken l.self.feed (left l.source) all;
    }
