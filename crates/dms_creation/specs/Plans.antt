-- What is taken into memory before a database is made.
use Rattle.std.specs.Prelude.{ℕ, ◌≤◌, ◌≡◌, ◌≢◌, List, length, slice_index}
use Rattle.dms_desc.specs.Shape.{Described}
use Rattle.dms_desc_bytes.specs.Spelling.{spelling}
use Rattle.dms_audrec.specs.Spelling.{pair_bytes, count_file, count_blocks}
use Rattle.dms_creation.specs.declared.planning.Plan.{Plan}
use Rattle.dms_creation.specs.FirstEntries.{zero_counts}

-- it is what the database of this description needs
pub record IsPlanOf (plan : Plan) (d : Described) : Type 0 where
  pub bytes : plan.bytes ≡ spelling d
  pub total : plan.end.total ≡ d.blocks
  pub counts : plan.counts ≡ pair_bytes count_file count_blocks (zero_counts (length d.structures) 1)

-- a description file that has the gate of a database, which isn't open
pub record HasShutDatabaseGate (file : List ℕ) : Type 0 where
  pub long : 2 ≤ length file
  pub shut : slice_index file 1 ≢ 1
