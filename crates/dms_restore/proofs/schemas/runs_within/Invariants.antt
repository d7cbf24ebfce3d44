use Rattle.std.proofs.Common.{◌≡◌, ◌≤◌, ◌<◌, ℕ, take, None}
use Rattle.dms_restore.specs.SchemaSpans.{span_told}
use Rattle.dms_restore.proofs.schemas.runs_within.Given as goal

abbrev pub invariant-loop-i : goal.invariant-loop-i
invariant-loop-i l = record {
  within : l.within ≤ l.i;
  told : (k : ℕ) → k < l.kept → span_told (take l.within l.runs) k None ≡ span_told (take l.i l.runs) k None;
}
