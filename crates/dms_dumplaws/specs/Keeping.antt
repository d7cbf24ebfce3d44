-- What a run and each statement make of the dumps of a database.
use Rattle.std.specs.Prelude.{ℕ, ◌+◌, ◌≤◌, ◌≡◌, ◌≢◌, ◌⊎◌, IsTrue, List, Option}
use Rattle.dms_desc.specs.Shape.{Described}
use Rattle.dms_model.specs.Db.{Db}
use Rattle.dms_moments.specs.Moments.{Now, Runs}
use Rattle.dms_site.specs.declared.site.Site.{Ghosts}
use Rattle.dms_site.specs.declared.source.Source as source
use Rattle.dms_site.specs.Files.{Files, Left}
use Rattle.dms_audfile.specs.Header.{tag_said}
use Rattle.dms_restore.specs.Dumped.{dumps_of}
use Rattle.dms_recovery.specs.Rows.{named_blocks}
use Rattle.dms_run.specs.State.{StateAt, StateOf}
use Rattle.dms_statelaws.specs.Dumps.{HasCopiedDump}
use Rattle.dms_statelaws.specs.DumpsStay.{DumpStays}
use Rattle.dms_statelaws.specs.Pending.{GoesFirst}
use Rattle.dms_statelaws.specs.Standing.{HoldsStill}
use Rattle.dms_statelaws.specs.Statements.{MendedState, RebuiltState}
use Rattle.dms_statements.specs.declared.statement.NamedRow.{NamedRow}
use Rattle.dms_status.specs.declared.status.Status.{Status}
use Rattle.dms_run.specs.Opens.{DatabaseState}
use Rattle.dms_runtop.specs.Command.{OverDatabase}
use Rattle.dms_runtop.specs.RunDoes.{RunDoes}
use Rattle.dms_dumping.specs.DumpDoes.{DumpDoes, OfState}
use Rattle.dms_goback.specs.RebuildDoes.{RebuildDoes}
use Rattle.dms_goback.specs.ReconstructDoes.{ReconstructDoes}
use Rattle.dms_goback.specs.RollbackDoes.{RollbackDoes}

module _ {S : Type 0} (g : Ghosts S) where
  -- Dump d was copied from a database with files u, and nothing of it was pending: each stop left its file as it is in u, and a trail with the tag of the dump.
  pub record HasDurableDump (u : Files) (d : ℕ) (a : S) : Type 0 where
    pub has : HasCopiedDump u d
    pub file : (x : Left) → Now (g.clock a) x → x.files (20000 + d) ≡ u (20000 + d)
    pub tag : (x : Left) → Now (g.clock a) x → tag_said (x.files has.finds.trail.first) ≡ has.head.tag

  -- `run` over files that stand for a state: at every moment a stop leaves each such dump a dump of the database.
  abbrev pub RunKeepsDumps : {I : Type 0} → source.Ghosts I → S → S → Type 0
  RunKeepsDumps {I} i old new =
      (state : Option DatabaseState) (from to : I) (status : Status) → RunDoes g i state old new from to status
      → OverDatabase g state old (i.left from) (λ s next all. (d : ℕ) → HasDurableDump (g.files old) d old → Runs (g.clock old) (g.clock new) (λ x. DumpStays d (g.files old) x.files))

  -- So does `DUMP TO e` each other one.
  abbrev pub DumpKeepsDumps : S → S → Type 0
  DumpKeepsDumps old new =
      (e : ℕ) (status : Status) → DumpDoes g e old new status
      → OfState g old (λ s. (d : ℕ) → d ≢ e → HasDurableDump (g.files old) d old → Runs (g.clock old) (g.clock new) (λ x. DumpStays d (g.files old) x.files))

  -- So does `ROLLBACK TO m` each one that ends at point m or before it.
  abbrev pub RollbackKeepsDumps : S → S → Type 0
  RollbackKeepsDumps old new =
      (m : ℕ) (status : Status) → RollbackDoes g m old new status → IsTrue g.tells → (n : ℕ) (desc : Described) (db : Db) (desc' : Described) (db' : Db) → StateOf (g.files old) n desc db → StateAt (g.files old) m desc' db'
      → (d : ℕ) → (dumps_of (g.files old) d).end ≤ m → HasDurableDump (g.files old) d old → Runs (g.clock old) (g.clock new) (λ x. DumpStays d (g.files old) x.files)

  -- `REBUILD` to point m, of each database that differs from the files in structure files alone: at every moment nothing was done, or a stop leaves each dump of
  -- that database a dump of it, which ends at m or before it.
  abbrev pub RebuildKeepsDumps : S → S → Type 0
  RebuildKeepsDumps old new =
      (e : ℕ) (chosen : Option ℕ) (status : Status) → RebuildDoes g e chosen old new status → IsTrue g.tells → (u : Files) (m : ℕ) (desc : Described) (db : Db) → RebuiltState (g.files old) u e chosen m desc db
      → (d : ℕ) → (dumps_of u d).end ≤ m → HasDurableDump u d old → Runs (g.clock old) (g.clock new) (λ x. HoldsStill (g.files old) x.files ⊎ DumpStays d u x.files)

  -- `RECONSTRUCT`, of each database that differs from the files in the named rows alone: so it is of all dumps of that database; or a restore that was pending goes
  -- first.
  abbrev pub ReconstructKeepsDumps : S → S → Type 0
  ReconstructKeepsDumps old new =
      (e : ℕ) (rows : List NamedRow) (status : Status) → ReconstructDoes g e rows old new status → IsTrue g.tells → (u : Files) (n : ℕ) (desc : Described) (db : Db) → MendedState (g.files old) u e rows n desc db
      → (d : ℕ) → HasDurableDump u d old
      → Runs (g.clock old) (g.clock new) (λ x. (HoldsStill (g.files old) x.files ⊎ GoesFirst (named_blocks desc.structures rows) u n desc db x.files) ⊎ DumpStays d u x.files)
