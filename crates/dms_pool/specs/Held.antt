-- What a pool holds of each block, and the order in which blocks were used.
use Rattle.std.specs.Prelude.{ℕ, ◌∷◌, ◌++◌, [], Bool, false, List, filter, length, not, reverse}
use Rattle.std.specs.declared.option.Option.{Option}
use Rattle.std.specs.Option.{option_map_or}
use Rattle.std.specs.Map.{lookup}
use Rattle.dms_block.specs.declared.block.Block.{Block}
use Rattle.dms_block.specs.declared.block.BlockId.{BlockId}
use Rattle.dms_pool.specs.declared.frame.BufferFrame.{BufferFrame}
use Rattle.dms_pool.specs.declared.pool.Pool.{Pool}
use Rattle.dms_pool.specs.Entries.{ids_of, is_id, is_key}

-- the frame of a block, where it is held
abbrev pub frame_of : BlockId → Pool → Option BufferFrame
frame_of id pool = lookup (is_key id) pool.frames.entries

-- the blocks that are held, from the least recently used on
abbrev pub order : Pool → List BlockId
order pool = reverse (ids_of pool.frames.entries)

-- how many blocks may be held
abbrev pub most : Pool → ℕ
most pool = pool.frames.cap

-- the order after a block was used: it stands last
abbrev pub move_to_last : BlockId → List BlockId → List BlockId
move_to_last id ids = filter (λ x. not (is_id id x)) ids ++ id ∷ []

-- the block is held, and is to be written
abbrev pub is_dirty : BlockId → Pool → Bool
is_dirty id pool = option_map_or (λ f. f.dirty) (frame_of id pool) false

-- how many of the blocks that are held are to be written
abbrev pub to_write : Pool → ℕ
to_write pool = length (filter (λ id. is_dirty id pool) (order pool))

abbrev pub as_frame : Block → Bool → BufferFrame
as_frame block dirty = record { block = block; dirty = dirty }

-- a frame that was written
abbrev pub clean_frame : BufferFrame → BufferFrame
clean_frame f = as_frame f.block false
