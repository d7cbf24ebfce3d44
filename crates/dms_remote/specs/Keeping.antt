-- What is kept of a block of a source: a restore by a dump is kept as a rollback, since a copy has blocks of its own and no dump of its source.
use Rattle.std.specs.Prelude.{ℕ, List, Option, Some, None}
use Rattle.dms_history.specs.Entries.{Kind, by_halt_load, by_back_out, by_roll_back, by_rebuild, by_reconstruct, Entry, schema_part, image, byte_range, quiet_point, control_point, begin_restore}
use Rattle.dms_audrec.specs.Spelling.{spelling}
use Rattle.dms_audfile.specs.AuditTrail.{entry_from}
use Rattle.dms_audfile.specs.Unsealed.{block_with}

-- the point of a restore by a dump
abbrev pub point_by : ℕ → Kind → Option ℕ
point_by n by_halt_load = None
point_by n by_back_out = None
point_by n by_roll_back = None
point_by n (by_rebuild d) = Some n
point_by n (by_reconstruct d rows) = Some n

-- the point of the restore by a dump that an entry begins
abbrev pub dump_point : Entry → Option ℕ
dump_point (schema_part part parts bytes) = None
dump_point (image f b before after) = None
dump_point (byte_range f b place bytes) = None
dump_point (quiet_point n) = None
dump_point (control_point n next counts) = None
dump_point (begin_restore n kind) = point_by n kind

abbrev pub point_of : Option Entry → Option ℕ
point_of None = None
point_of (Some e) = dump_point e

-- a block as it is, or one that begins a rollback to a point, and nothing more
abbrev pub kept_with : Option ℕ → List ℕ → List ℕ
kept_with None block = block
kept_with (Some n) block = block_with (spelling (begin_restore n by_roll_back))

abbrev pub kept_block : List ℕ → List ℕ
kept_block block = kept_with (point_of (entry_from 2 block)) block
