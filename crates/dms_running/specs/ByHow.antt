-- What a restore of any kind writes, and what it keeps.
use Rattle.std.specs.Prelude.{ℕ, ◌<◌, ◌≡◌, if◌then◌else◌, true, List, length, Option, Some, None}
use Rattle.dms_site.specs.Files.{Files, stored_of}
use Rattle.dms_history.specs.Events.{BlockBytes, Stored, How, halt_load, back_out, roll_back, rebuild, reconstruct, Event}
use Rattle.dms_history.specs.Pick.{Dumps, count_at, dump_pick}
use Rattle.dms_history.specs.Here.{restore_pick}
use Rattle.dms_history.specs.Restores.{takes_stored}
use Rattle.dms_history.specs.Told.{told_block}

-- What a restore to point m writes as a block, or none where it takes it from what is stored: what the audit tells of it; by a dump the last
-- after-image between the dump's point and m, else the dump's block.
unfoldable pub told_by : How → Dumps → List Event → ℕ → ℕ → ℕ → Option BlockBytes
told_by halt_load dumps live m f b = told_block live m f b
told_by back_out dumps live m f b = told_block live m f b
told_by roll_back dumps live m f b = told_block live m f b
told_by (rebuild d) dumps live m f b = Some (dump_pick live (dumps d) m f b)
told_by (reconstruct d named) dumps live m f b = if named f b then Some (dump_pick live (dumps d) m f b) else told_block live m f b

-- The block is there at the point, and the restore takes it from what is stored: it never writes it.
abbrev pub IsKeptBy : How → List Event → ℕ → ℕ → ℕ → Type 0
IsKeptBy how live m f b = (b < count_at live m f) × (takes_stored how live m f b ≡ true)

-- block b of the file stands as the restore is to write it, where it writes it
abbrev pub StandsAsToldBy : How → Dumps → List Event → ℕ → Files → ℕ → ℕ → Type 0
StandsAsToldBy how dumps live m files f b = (x : BlockBytes) → told_by how dumps live m f b ≡ Some x → length x ≡ 1024 → stored_of files f b ≡ x

-- Law: a restore leaves as a block what it writes, and else what is stored.
pub record TellsBy (how : How) (dumps : Dumps) (live : List Event) (m f b : ℕ) : Type 0 where
  pub told : (stored : Stored) (x : BlockBytes) → told_by how dumps live m f b ≡ Some x → restore_pick how dumps live m stored f b ≡ x
  pub kept : (stored : Stored) → told_by how dumps live m f b ≡ None → restore_pick how dumps live m stored f b ≡ stored f b
  pub unwritten : told_by how dumps live m f b ≡ None → takes_stored how live m f b ≡ true
  pub written : takes_stored how live m f b ≡ true → told_by how dumps live m f b ≡ None

abbrev pub EachToldBy : Type 0
EachToldBy = (how : How) (dumps : Dumps) (live : List Event) (m f b : ℕ) → TellsBy how dumps live m f b
