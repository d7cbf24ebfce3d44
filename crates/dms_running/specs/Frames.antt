-- How the frames of a pool, the structure files and the content of a running database go together.
use Rattle.std.specs.Prelude.{ℕ, ◌<◌, ◌≡◌, if◌then◌else◌, Bool, true, false, length, Option, Some}
use Rattle.dms_site.specs.Files.{stored_of}
use Rattle.dms_history.specs.Events.{BlockBytes, block_in}
use Rattle.dms_history.specs.Images.{is_at}
use Rattle.dms_running.specs.Telling.{Telling}
use Rattle.dms_running.specs.Running.{State, content_now, IsChanged}

-- the bytes of a block, and whether they are to be written
pub record Frame : Type 0 where
  pub block : BlockBytes
  pub dirty : Bool

-- the frame of each block that is held
abbrev pub Frames : Type 0
Frames = ℕ → ℕ → Option Frame

-- another frame, or none, for one block
abbrev pub with_frame : Frames → ℕ → ℕ → Option Frame → Frames
with_frame frames f b o g c = if is_at f b g c then o else frames g c

-- What holds of the frame of one block: it has the block as the content has it. A block that isn't held, or that isn't to be written,
-- stands in its file as the content has it; one that is to be written has a change since the last Control.
pub record HoldsOne (t : Telling) (s : State) (f b : ℕ) (o : Option Frame) : Type 0 where
  pub held : (x : Frame) → o ≡ Some x → (b < length (content_now t s f)) × (x.block ≡ block_in (content_now t s) f b)
  pub stands : b < length (content_now t s f) → ((x : Frame) → o ≡ Some x → x.dirty ≡ false) → stored_of s.files f b ≡ block_in (content_now t s) f b
  pub changed : (x : Frame) → o ≡ Some x → x.dirty ≡ true → IsChanged t s f b

-- the frames go with the files and the content
abbrev pub FramesHold : Telling → State → Frames → Type 0
FramesHold t s frames = (f b : ℕ) → HoldsOne t s f b (frames f b)
