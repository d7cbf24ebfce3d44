-- What a database keeps between two calls.
use Rattle.std.specs.Prelude.{ℕ, ◌≡◌, Bool, true, List, [], length}
use Rattle.dms_history.specs.Events.{AllBlocks, Stored}
use Rattle.dms_history.specs.Replay.{replay}
use Rattle.dms_history.specs.Pick.{Dumps}
use Rattle.dms_history.specs.Base.{opening, from_control, OpenedFrom}
use Rattle.dms_history.specs.Agrees.{Numbered}
use Rattle.dms_history.specs.Restores.{Steady}
use Rattle.dms_history.specs.Ranges.{live_logged}
use Rattle.dms_history.specs.LawsOfRanges.{HasImages}
use Rattle.dms_history.specs.Entries.{Entry}
use Rattle.dms_history.specs.EntryEvents.{events_in, history_of, live_of, next_of, BeginsAlone}

-- the content that entries tell over a base: the base is the content at the first live Control
abbrev pub content_told : List Entry → AllBlocks → AllBlocks
content_told entries base = replay (from_control (live_of entries)) base

-- All that a database keeps between two calls. first: its trail begins with audit file 1. base: the content at the first live Control.
pub record Kept (first : Bool) (entries : List Entry) (dumps : Dumps) (base : AllBlocks) (stored : Stored) : Type 0 where
  -- The live entries tell over the base what counts as each block that doesn't change after the last Control, and a pending restore is
  -- to leave what they tell.
  pub steady : Steady dumps (history_of entries) base stored
  -- The changes before the first live Control lead to the base.
  pub opened : OpenedFrom (opening (live_of entries)) base
  -- The numbers of live Quiets and Controls never fall, and are below the next number.
  pub numbered : Numbered (live_of entries) (next_of entries)
  -- Only Schema parts stand after a Begin up to the next Begin or Control.
  pub alone : BeginsAlone (events_in entries)
  -- Every live Range that isn't left out has an Image of its block before it: after the last live Control before the Range, or
  -- anywhere from the front where there is no such Control.
  pub images : HasImages (live_logged [] (events_in entries))
  -- Where the trail begins with audit file 1, the base is empty.
  pub empty : first ≡ true → (f : ℕ) → length (base f) ≡ 0
