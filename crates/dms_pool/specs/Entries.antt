-- The frames of a pool, the most recently used first.
use Rattle.std.specs.Prelude.{◌<◌, ◌≤◌, ◌==◌, ◌&&◌, Bool, List, length, map}
use Rattle.std.specs.List.{IsDistinct}
use Rattle.std.specs.Map.{keys_of}
use Rattle.dms_block.specs.declared.block.BlockId.{BlockId}
use Rattle.dms_pool.specs.declared.frame.BufferFrame.{BufferFrame}
use Rattle.dms_pool.specs.declared.frame.FrameKey.{FrameKey}
use Rattle.lru.specs.LruCache.{LruCache}

abbrev pub Entries : Type 0
Entries = List (FrameKey × BufferFrame)

abbrev pub key_of : BlockId → FrameKey
key_of id = record { file = id.file; block = id.block }

abbrev pub id_of : FrameKey → BlockId
id_of key = record { file = key.file; block = key.block }

abbrev pub is_id : BlockId → BlockId → Bool
is_id a b = (a.file == b.file) && (a.block == b.block)

abbrev pub is_key : BlockId → FrameKey → Bool
is_key id key = is_id id (id_of key)

abbrev pub same_key : FrameKey → FrameKey → Bool
same_key a b = is_key (id_of a) b

abbrev pub ids_of : Entries → List BlockId
ids_of = map (λ e. id_of e.0)

-- no block is held twice, and no more than so many are held
abbrev pub IsSoundPool : LruCache FrameKey BufferFrame → Type 0
IsSoundPool frames = IsDistinct same_key (keys_of frames.entries) × (length frames.entries ≤ frames.cap) × (0 < frames.cap)
