-- Laws: what stands agrees, and what a database that may run becomes by one entry more or by other blocks.
use Rattle.std.specs.Prelude.{ℕ, ◌+◌, ◌-◌, ◌^◌, ◌<◌, ◌≤◌, ◌≡◌, Bool, true, List, [], ◌∷◌, ◌++◌, length, Option, Some, None}
use Rattle.dms_history.specs.Events.{BlockBytes, AllBlocks, Stored, block_in}
use Rattle.dms_history.specs.Ranges.{patch_bytes, is_control_logged, is_image, live_logged}
use Rattle.dms_history.specs.Replay.{TellsBefore, with_block}
use Rattle.dms_history.specs.Lists.{has, after_last}
use Rattle.dms_history.specs.Places.{is_control, is_described, IsLive}
use Rattle.dms_history.specs.History.{Pending, last_point}
use Rattle.dms_history.specs.Images.{last_after}
use Rattle.dms_history.specs.Base.{from_control}
use Rattle.dms_history.specs.Pick.{Dumps}
use Rattle.dms_history.specs.Entries.{Kind, Entry, image, byte_range, quiet_point, begin_restore, how_of}
use Rattle.dms_history.specs.EntryEvents.{events_in, history_of, live_of, next_of, Agrees}
use Rattle.dms_history.specs.Kept.{content_told, Kept}
use Rattle.dms_history.specs.Sizes.{AllSized, ImagesSized}
use Rattle.dms_running.specs.Standing.{Stands, MayRun}
use Rattle.dms_running.specs.Points.{points_told}
use Rattle.dms_running.specs.Begun.{ByAudit}

-- What stands agrees: entries with the dumps and blocks.
abbrev pub StandsAgrees : Type 0
StandsAgrees = (first : Bool) (es : List Entry) (dumps : Dumps) (base : AllBlocks) (stored : Stored) → Stands first es dumps base stored → Agrees first es dumps stored

-- Entries that agree with the dumps and blocks stand, where a Control directly behind a whole Schema is live, the point of a restore that may
-- be pending is live, each image has 1,024 bytes, and so has each block of the content, whatever base it is told over.
abbrev pub AgreesStands : Type 0
AgreesStands = (first : Bool) (es : List Entry) (dumps : Dumps) (stored : Stored) → Agrees first es dumps stored → has is_described (live_of es) ≡ true
    → ((p : Pending) → (history_of es).pending ≡ Some p → IsLive (live_of es) p.point) → ImagesSized (from_control (live_of es))
    → ((base : AllBlocks) → Kept first es dumps base stored → AllSized (content_told es base)) → (base : AllBlocks) × Stands first es dumps base stored

-- An Image that tells what stood before it: it may still run, and the content has the block.
abbrev pub RunsImage : Type 0
RunsImage = (first : Bool) (es : List Entry) (dumps : Dumps) (base : AllBlocks) (stored : Stored) (f b : ℕ) (before : Option BlockBytes) (after : BlockBytes) → MayRun first es dumps base stored
    → TellsBefore b before (content_told es base f) → length after ≡ 1024
    → MayRun first (es ++ image f b before after ∷ []) dumps base stored × (content_told (es ++ image f b before after ∷ []) base ≡ with_block (content_told es base) f b after)

-- A Range of a block with an Image itself since the last Control: it may still run, and the content has its bytes.
abbrev pub RunsRange : Type 0
RunsRange = (first : Bool) (es : List Entry) (dumps : Dumps) (base : AllBlocks) (stored : Stored) (f b place : ℕ) (bytes : List ℕ) → MayRun first es dumps base stored
    → has (is_image f b) (after_last is_control_logged (live_logged [] (events_in es))) ≡ true → place + length bytes ≤ 1024
    → MayRun first (es ++ byte_range f b place bytes ∷ []) dumps base stored
    × (content_told (es ++ byte_range f b place bytes ∷ []) base ≡ with_block (content_told es base) f b (patch_bytes place bytes (block_in (content_told es base) f b)))

-- A quiet point with a number that is free: it may still run, and the content is the same.
abbrev pub RunsQuiet : Type 0
RunsQuiet = (first : Bool) (es : List Entry) (dumps : Dumps) (base : AllBlocks) (stored : Stored) (n : ℕ) → MayRun first es dumps base stored → next_of es ≤ n → n < 2 ^ 64 - 1
    → MayRun first (es ++ quiet_point n ∷ []) dumps base stored × (content_told (es ++ quiet_point n ∷ []) base ≡ content_told es base)

-- Blocks are written early, torn or whole: it may still run, where each block of the content without a change since the last Control stays.
abbrev pub RunsWrites : Type 0
RunsWrites = (first : Bool) (es : List Entry) (dumps : Dumps) (base : AllBlocks) (stored written : Stored) → MayRun first es dumps base stored
    → ((f b : ℕ) → b < length (content_told es base f) → last_after f b (after_last is_control (from_control (live_of es))) ≡ None → written f b ≡ stored f b)
    → MayRun first es dumps base written

-- A Begin of a restore by the audit to the last point: all points stay, and so does the next number.
abbrev pub BeginKeepsAll : Type 0
BeginKeepsAll = (first : Bool) (es : List Entry) (dumps : Dumps) (base : AllBlocks) (stored : Stored) (m : ℕ) (kind : Kind) → MayRun first es dumps base stored → ByAudit (how_of kind)
    → IsLive (live_of es) m → last_point (history_of es) ≡ Some m
    → Stands first (es ++ begin_restore m kind ∷ []) dumps base stored
    × (points_told dumps (es ++ begin_restore m kind ∷ []) stored ≡ points_told dumps es stored) × (next_of (es ++ begin_restore m kind ∷ []) ≡ next_of es)
