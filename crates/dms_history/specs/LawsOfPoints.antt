-- Laws: what the entries give back at a point.
use Rattle.std.specs.Prelude.{ℕ, ◌<◌, ◌≡◌, List, ◌++◌, length, None, IsTrue}
use Rattle.dms_history.specs.Events.{AllBlocks, Stored, Event, block_in}
use Rattle.dms_history.specs.Replay.{Chain, replay}
use Rattle.dms_history.specs.Lists.{has, until_first}
use Rattle.dms_history.specs.Places.{is_control, is_point, IsLive}
use Rattle.dms_history.specs.Images.{last_after, choice}
use Rattle.dms_history.specs.Pick.{blocks_at}
use Rattle.dms_history.specs.Base.{from_control, Sound}
use Rattle.dms_history.specs.Points.{HasPoint}

-- Where each block without a change stands as it did at the start, redo and undo give back the content between two lists of changes.
abbrev pub ChoiceGivesContent : Type 0
ChoiceGivesContent = (earlier later : List Event) (start : AllBlocks) (stored : Stored) → Chain (earlier ++ later) start
    → ((f b : ℕ) → b < length (start f) → last_after f b (earlier ++ later) ≡ None → stored f b ≡ block_in start f b)
    → (f b : ℕ) → b < length (replay earlier start f) → choice earlier later stored f b ≡ block_in (replay earlier start) f b

-- Each point with a Control at or before its place has the content that the entries up to its place give.
abbrev pub EachPoint : Type 0
EachPoint = (entries : List Event) (base : AllBlocks) (stored : Stored) (n : ℕ) → Sound entries base stored
    → IsTrue (has (is_point n) entries) → IsTrue (has is_control (until_first (is_point n) entries))
    → blocks_at entries stored n ≡ replay (until_first (is_point n) entries) base

-- Each live point has the content that the entries from the first Control up to its place give, whatever stands before that Control.
abbrev pub EachLivePoint : Type 0
EachLivePoint = (live : List Event) (base : AllBlocks) (here : Stored) (n : ℕ) → Sound (from_control live) base here → IsLive live n
    → blocks_at live here n ≡ replay (until_first (is_point n) (from_control live)) base

-- What stands before the first Control never counts for a live point.
abbrev pub OpeningNeverCounts : Type 0
OpeningNeverCounts = (live : List Event) (here : Stored) (n : ℕ) → IsLive live n
    → HasPoint (from_control live) here n (blocks_at live here n)
