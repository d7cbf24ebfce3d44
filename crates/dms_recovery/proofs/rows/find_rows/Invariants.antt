use Rattle.std.specs.Prelude.{◌||◌}
use Rattle.std.proofs.Common.{ℕ, ◌≡◌, ◌≤◌, true, length, drop, map}
use Rattle.dms_desc.specs.Shape.{shape_of}
use Rattle.dms_history.specs.Entries.{named_by}
use Rattle.dms_audrec.specs.Spelling.{ArePairsSmall, row_file, row_number, rows_rise}
use Rattle.dms_recovery.specs.Rows.{first_missing, named_blocks}
use Rattle.dms_recovery.proofs.rows.find_rows.Given as goal

-- the rows before are there, and the blocks of all are those of what was found and of the rest
abbrev pub invariant-loop-row : goal.invariant-loop-row
invariant-loop-row l = record {
  there : first_missing (map shape_of l.structures) l.counts (drop l.row-index l.named) ≡ first_missing (map shape_of l.structures) l.counts l.named;
  rising : rows_rise 0 l.rows.items ≡ true;
  small : ArePairsSmall row_file row_number l.rows.items;
  few : length l.rows.items ≤ l.row-index;
  same : (f b : ℕ) → (named_by l.rows.items f b || named_blocks (map shape_of l.structures) (drop l.row-index l.named) f b) ≡ named_blocks (map shape_of l.structures) l.named f b;
}
