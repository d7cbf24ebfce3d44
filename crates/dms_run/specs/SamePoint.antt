-- A point that two databases have in common.
use Rattle.std.specs.Prelude.{ℕ, ◌≡◌, List}
use Rattle.dms_desc.specs.Shape.{Described}
use Rattle.dms_site.specs.Files.{Files, stored_of}
use Rattle.dms_model.specs.Db.{Db}
use Rattle.dms_history.specs.Entries.{Entry}
use Rattle.dms_history.specs.EntryEvents.{history_of, live_of}
use Rattle.dms_history.specs.Events.{AllBlocks}
use Rattle.dms_history.specs.Here.{here}
use Rattle.dms_history.specs.Pick.{blocks_at}
use Rattle.dms_history.specs.Places.{IsLive}
use Rattle.dms_history.specs.SchemaAt.{schema_at}
use Rattle.dms_audfile.specs.ScanLaws.{IsFoundWith}
use Rattle.dms_restore.specs.Dumped.{dumps_of}
use Rattle.dms_run.specs.State.{StateAt}

-- a point is live in files
pub record LivesIn (files : Files) (n : ℕ) : Type 0 where
  pub entries : List Entry
  pub finds : IsFoundWith entries files
  pub lives : IsLive (live_of entries) n

-- the content at point n of files with these entries
abbrev pub content_in : Files → List Entry → ℕ → AllBlocks
content_in files entries n = blocks_at (live_of entries) (here (dumps_of files) (history_of entries) (stored_of files)) n

-- Point n is live in both, whose trails begin with the same audit file, under the same Schema, and with the same content.
pub record SamePoint (old new : Files) (n : ℕ) : Type 0 where
  pub then : LivesIn old n
  pub now : LivesIn new n
  pub first_same : now.finds.trail.first ≡ then.finds.trail.first
  pub schema_same : schema_at now.entries n ≡ schema_at then.entries n
  pub content_same : content_in new now.entries n ≡ content_in old then.entries n

-- So files that stand for a state stand, at such a point, for the state that the others had there.
abbrev pub StatesStay : Type 0
StatesStay = (old new : Files) (n : ℕ) (desc : Described) (db : Db) (m : ℕ) (d : Described) (other : Db) → SamePoint old new n → StateAt old n desc db → StateAt new m d other → StateAt new n desc db
