-- What a stop within a statement leaves, as states that files stand for, and what stands at its end.
use Rattle.std.specs.Prelude.{ℕ, ◌≡◌, ◌⊎◌, Bool, List, Option, Some, None}
use Rattle.dms_desc.specs.Shape.{Described}
use Rattle.dms_model.specs.Db.{Db}
use Rattle.dms_moments.specs.Moments.{Runs}
use Rattle.dms_site.specs.Files.{Files, Left, Only}
use Rattle.dms_site.specs.declared.site.Site.{Ghosts}
use Rattle.dms_history.specs.Entries.{Entry}
use Rattle.dms_history.specs.EntryEvents.{history_of}
use Rattle.dms_history.specs.History.{last_point}
use Rattle.dms_audfile.specs.ScanLaws.{IsFoundWith}
use Rattle.dms_statements.specs.declared.statement.NamedRow.{NamedRow}
use Rattle.dms_recovery.specs.Rows.{named_blocks}
use Rattle.dms_run.specs.State.{StateAt, StateOf}
use Rattle.dms_statelaws.specs.Dumps.{SameBesideBlocks, SameBesideNamed, HasCopiedDump, HasDumpAt}
use Rattle.dms_statelaws.specs.Standing.{StandsFrom, HoldsStill}
use Rattle.dms_statelaws.specs.Pending.{GoesFirst}

-- this is the last point of files
pub record HasLast (files : Files) (n : ℕ) : Type 0 where
  pub entries : List Entry
  pub finds : IsFoundWith entries files
  pub last : last_point (history_of entries) ≡ Some n

-- the point that a statement names, or the last one where it names none
abbrev pub IsChosen : Files → Option ℕ → ℕ → Type 0
IsChosen files None n = HasLast files n
IsChosen files (Some m) n = n ≡ m

-- A stop leaves files that stand for the state of entry, or for that of point m.
abbrev pub LeavesEither : Files → ℕ → Described → Db → ℕ → Described → Db → Left → Type 0
LeavesEither files n desc db m desc' db' x = StandsFrom files n desc db x.files ⊎ StandsFrom files m desc' db' x.files

-- A stop leaves files to which nothing was done, or that stand for the state of that database at point m.
abbrev pub LeavesRestored : Files → Files → ℕ → Described → Db → Left → Type 0
LeavesRestored files u m desc db x = HoldsStill files x.files ⊎ StandsFrom u m desc db x.files

-- So it does; or, where a restore is pending over that database, it leaves files in which that one alone was being ended, or was ended, and which stand for
-- the state of the database with the named blocks as they count in it.
abbrev pub LeavesMended : (ℕ → ℕ → Bool) → Files → Files → ℕ → Described → Db → Left → Type 0
LeavesMended named files u n desc db x = LeavesRestored files u n desc db x ⊎ GoesFirst named u n desc db x.files

-- A database with a state at the chosen point, from which dump d was copied, and that differs from the files in structure files alone.
pub record RebuiltState (files u : Files) (d : ℕ) (chosen : Option ℕ) (m : ℕ) (desc : Described) (db : Db) : Type 0 where
  pub same : SameBesideBlocks files u
  pub has : HasCopiedDump u d
  pub is_chosen : IsChosen u chosen m
  pub state : StateAt u m desc db

-- A database with a state, from which dump d was copied, and that differs from the files in the blocks of the named rows alone; a restore may be pending over it.
pub record MendedState (files u : Files) (d : ℕ) (rows : List NamedRow) (n : ℕ) (desc : Described) (db : Db) : Type 0 where
  pub same : SameBesideNamed (named_blocks desc.structures rows) files u
  pub has : HasCopiedDump u d
  pub state : StateOf u n desc db

module _ {S : Type 0} (g : Ghosts S) where
  -- The files stand for that database's state at point m, and a stop leaves no other files.
  abbrev pub EndsAs : Files → ℕ → Described → Db → S → Type 0
  EndsAs u m desc db new = StandsFrom u m desc db (g.files new) × Only (g.files new) (g.clock new)

  -- DUMP: at every moment the files stand for the state of entry.
  abbrev pub DumpStands : S → S → Type 0
  DumpStands old new = (n : ℕ) (desc : Described) (db : Db) → StateOf (g.files old) n desc db → Runs (g.clock old) (g.clock new) (λ x. StandsFrom (g.files old) n desc db x.files)

  -- DUMP TO d: once it is done dump d is true, at the last point, and a stop leaves no other files.
  abbrev pub DumpEnds : S → S → ℕ → Type 0
  DumpEnds old new d = (n : ℕ) (desc : Described) (db : Db) → StateOf (g.files old) n desc db → HasDumpAt (g.files new) d n × Only (g.files new) (g.clock new)

  -- ROLLBACK TO m: at every moment the files stand for the state of entry, or for that of point m.
  abbrev pub RollbackStands : S → S → ℕ → Type 0
  RollbackStands old new m = (n : ℕ) (desc : Described) (db : Db) (desc' : Described) (db' : Db) → StateOf (g.files old) n desc db → StateAt (g.files old) m desc' db'
      → Runs (g.clock old) (g.clock new) (LeavesEither (g.files old) n desc db m desc' db')

  -- ROLLBACK TO m: once it is done they stand for that of point m.
  abbrev pub RollbackEnds : S → S → ℕ → Type 0
  RollbackEnds old new m = (desc' : Described) (db' : Db) → StateAt (g.files old) m desc' db' → EndsAs (g.files old) m desc' db' new

  -- REBUILD FROM d: of each such database, at every moment nothing was done, or the files stand for its state at the chosen point.
  abbrev pub RebuildStands : S → S → ℕ → Option ℕ → Type 0
  RebuildStands old new d chosen = (u : Files) (m : ℕ) (desc : Described) (db : Db) → RebuiltState (g.files old) u d chosen m desc db → Runs (g.clock old) (g.clock new) (LeavesRestored (g.files old) u m desc db)

  -- REBUILD FROM d: once it is done they stand for that.
  abbrev pub RebuildEnds : S → S → ℕ → Option ℕ → Type 0
  RebuildEnds old new d chosen = (u : Files) (m : ℕ) (desc : Described) (db : Db) → RebuiltState (g.files old) u d chosen m desc db → EndsAs u m desc db new

  -- RECONSTRUCT rows FROM d: of each such database, at every moment nothing was done, or the files stand for its state; or, where a restore is pending over
  -- it, that one alone was being ended, or was ended, and with the named rows as they count the files stand for its state.
  abbrev pub ReconstructStands : S → S → ℕ → List NamedRow → Type 0
  ReconstructStands old new d rows = (u : Files) (n : ℕ) (desc : Described) (db : Db) → MendedState (g.files old) u d rows n desc db → Runs (g.clock old) (g.clock new) (LeavesMended (named_blocks desc.structures rows) (g.files old) u n desc db)

  -- RECONSTRUCT rows FROM d: once it is done they stand for that.
  abbrev pub ReconstructEnds : S → S → ℕ → List NamedRow → Type 0
  ReconstructEnds old new d rows = (u : Files) (n : ℕ) (desc : Described) (db : Db) → MendedState (g.files old) u d rows n desc db → EndsAs u n desc db new
