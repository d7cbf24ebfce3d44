use Rattle.std.proofs.Common.{◌≡◌, Some, List, ℕ}
use Rattle.dms_utility.proofs.Taken.{InputTaken}
use Rattle.dms_utility.proofs.text.statement_text.Given as goal

abbrev pub invariant-loop-turn : goal.invariant-loop-turn
invariant-loop-turn g l = record {
  same : g.I.Source.same_source l.fn.source l.source;
  clean : g.I.Source.faults l.source ≡ g.I.Source.faults l.fn.source;
  taken : (all : List ℕ) → g.I.Source.left l.fn.source ≡ Some all → InputTaken l._turn l.text all l.feed (g.I.Source.left l.source);
}
