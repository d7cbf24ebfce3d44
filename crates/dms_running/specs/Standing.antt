-- Entries, dumps and blocks of a database.
use Rattle.std.specs.Prelude.{◌≡◌, Bool, true, List, None}
use Rattle.dms_site.specs.Files.{Files, stored_of}
use Rattle.dms_history.specs.Events.{AllBlocks, Stored}
use Rattle.dms_history.specs.Lists.{has}
use Rattle.dms_history.specs.Places.{is_described}
use Rattle.dms_history.specs.Base.{from_control}
use Rattle.dms_history.specs.Pick.{Dumps}
use Rattle.dms_history.specs.Entries.{Entry}
use Rattle.dms_history.specs.EntryEvents.{history_of, live_of}
use Rattle.dms_history.specs.Kept.{Kept}
use Rattle.dms_history.specs.Sizes.{AllSized, ImagesSized}
use Rattle.dms_running.specs.FromDumps.{DumpsInOrder}
use Rattle.dms_running.specs.Telling.{Telling}

-- All that a database keeps between two calls is kept over a base, a Control directly behind a whole Schema is live, and each block
-- of the base and each image has 1,024 bytes.
pub record Stands (first : Bool) (entries : List Entry) (dumps : Dumps) (base : AllBlocks) (stored : Stored) : Type 0 where
  pub kept : Kept first entries dumps base stored
  pub described : has is_described (live_of entries) ≡ true
  pub base_sized : AllSized base
  pub images_sized : ImagesSized (from_control (live_of entries))

-- It stands, and no restore is pending.
pub record MayRun (first : Bool) (entries : List Entry) (dumps : Dumps) (base : AllBlocks) (stored : Stored) : Type 0 where
  pub stands : Stands first entries dumps base stored
  pub none : (history_of entries).pending ≡ None

-- Files hold a database, be a restore pending or not: scanning finds its entries, all stands, and the dump of a restore that is pending is in order.
pub record IsWhole (t : Telling) (files : Files) : Type 0 where
  pub found : t.found files
  pub base : AllBlocks
  pub stands : Stands t.first (t.entries files) (t.dumps files) base (stored_of files)
  pub order : DumpsInOrder (t.dump_found files) (t.dumps files) (history_of (t.entries files)).pending
