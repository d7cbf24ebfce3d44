-- What the audit tells, as a list of events.
use Rattle.std.specs.Prelude.{ℕ, Bool, List, [], Option, slice_index_or}

-- the bytes of one block of a structure file
abbrev pub BlockBytes : Type 0
BlockBytes = List ℕ

-- the blocks of each structure file, by the file's number
abbrev pub AllBlocks : Type 0
AllBlocks = ℕ → List BlockBytes

-- block b of structure file f, as something holds it
abbrev pub Stored : Type 0
Stored = ℕ → ℕ → BlockBytes

-- how many blocks each structure file has, by the file's number
abbrev pub Counts : Type 0
Counts = ℕ → ℕ

-- How a restore goes: by the audit alone (halt/load, back-out, rollback), by a dump on all blocks (rebuild, with the dump's number),
-- or by a dump on the named blocks and by the audit on the others (reconstruct, with the dump's number and which blocks of which file are named).
pub data How : Type 0 where
  halt_load : How
  back_out : How
  roll_back : How
  rebuild : ℕ → How
  reconstruct : ℕ → (ℕ → ℕ → Bool) → How

-- change f b before after: block b of file f got a new content; before is none where the block is new.
-- quiet n: quiet point n, where no program is in transaction state.
-- control n next counts described: control point n, when every block up to it had been written. next is the next number,
--   counts says how many blocks each file has, and described says that it stands directly after a whole Schema.
-- begin n how: a restore to point n begins.
pub data Event : Type 0 where
  change : ℕ → ℕ → Option BlockBytes → BlockBytes → Event
  quiet : ℕ → Event
  control : ℕ → ℕ → Counts → Bool → Event
  begin : ℕ → How → Event

-- block b of file f in a content, no bytes where it isn't there
abbrev pub block_in : AllBlocks → ℕ → ℕ → BlockBytes
block_in content f b = slice_index_or (content f) b []
