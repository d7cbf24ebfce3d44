-- What the calls on a pool leave.
use Rattle.std.specs.Prelude.{ℕ, ◌≡◌, ◌∷◌, ◌||◌, [], Some, None, if◌then◌else◌, is_some, length, nat_lt, option_map, true}
use Rattle.dms_block.specs.declared.block.BlockId.{BlockId}
use Rattle.dms_pool.specs.declared.frame.BufferFrame.{BufferFrame}
use Rattle.dms_pool.specs.declared.pool.Pool.{Pool}
use Rattle.dms_pool.specs.Entries.{is_id}
use Rattle.dms_pool.specs.Held.{frame_of, most, order, move_to_last, clean_frame}

-- one more block can be held, or this one is
abbrev pub HasFrameFor : BlockId → Pool → Type 0
HasFrameFor id pool = (nat_lt (length (order pool)) (most pool) || is_some (frame_of id pool)) ≡ true

-- everything stays
abbrev pub SamePool : Pool → Pool → Type 0
SamePool old new = new.frames ≡ old.frames

-- no block is held, and n may be
pub record IsEmpty (n : ℕ) (pool : Pool) : Type 0 where
  pub holds : (x : BlockId) → frame_of x pool ≡ None
  pub uses : order pool ≡ []
  pub bound : most pool ≡ n

-- a block was asked for: where it is held, this was a use of it
pub record FrameUsed (id : BlockId) (old new : Pool) : Type 0 where
  pub holds : (x : BlockId) → frame_of x new ≡ frame_of x old
  pub uses : order new ≡ (if is_some (frame_of id old) then move_to_last id (order old) else order old)
  pub bound : most new ≡ most old

-- this block has this frame now, and was used
pub record PutsFrame (id : BlockId) (f : BufferFrame) (old new : Pool) : Type 0 where
  pub holds : (x : BlockId) → frame_of x new ≡ (if is_id x id then Some f else frame_of x old)
  pub uses : order new ≡ move_to_last id (order old)
  pub bound : most new ≡ most old

-- the least recently used block, which had this frame, is given up
pub record GivesUp (id : BlockId) (f : BufferFrame) (old new : Pool) : Type 0 where
  pub was : frame_of id old ≡ Some f
  pub holds : (x : BlockId) → frame_of x new ≡ (if is_id x id then None else frame_of x old)
  pub uses : order old ≡ id ∷ order new
  pub bound : most new ≡ most old

-- this block, if it is held, isn't to be written any more
pub record Cleans (id : BlockId) (old new : Pool) : Type 0 where
  pub holds : (x : BlockId) → frame_of x new ≡ (if is_id x id then option_map clean_frame (frame_of x old) else frame_of x old)
  pub uses : order new ≡ order old
  pub bound : most new ≡ most old
