use Rattle.std.proofs.Common.{◌≡◌, List, ℕ}
use Rattle.dms_feed.specs.Feeds.{Remains}
use Rattle.dms_top.proofs.Taken.{TextReaches}
use Rattle.dms_top.proofs.schema.schema_text.Given as goal

abbrev pub invariant-loop-line : goal.invariant-loop-line
invariant-loop-line g l = record {
  same : g.I.Source.same_source l.fn.source l.source;
  clean : g.I.Source.faults l.source ≡ g.I.Source.faults l.fn.source;
  reaches : (all : List ℕ) → Remains l.fn.feed (g.I.Source.left l.fn.source) all → TextReaches l._line l.text all l.feed (g.I.Source.left l.source);
}
