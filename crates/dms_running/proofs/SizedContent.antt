-- The content has whole blocks.
use Rattle.std.proofs.Common.{Bool, List}
use Rattle.dms_history.specs.Events.{AllBlocks, Stored}
use Rattle.dms_history.specs.Base.{from_control}
use Rattle.dms_history.specs.Pick.{Dumps}
use Rattle.dms_history.specs.Entries.{Entry}
use Rattle.dms_history.specs.EntryEvents.{live_of}
use Rattle.dms_history.specs.Kept.{content_told}
use Rattle.dms_history.specs.Sizes.{AllSized}
use Rattle.dms_history.proofs.Sizing.{sized_replay}
use Rattle.dms_running.specs.Standing.{Stands}

-- the content has whole blocks
pub stands_sized : (first : Bool) (es : List Entry) (d : Dumps) (base : AllBlocks) (st : Stored) → Stands first es d base st → AllSized (content_told es base)
stands_sized first es d base st s = sized_replay (from_control (live_of es)) base s.kept.steady.sound.chain s.base_sized s.images_sized
