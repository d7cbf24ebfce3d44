-- Laws: what a database keeps between two calls goes on over each entry that it seals and each block that it writes.
use Rattle.std.specs.Prelude.{ℕ, ◌-◌, ◌^◌, ◌<◌, ◌≤◌, ◌≡◌, Bool, true, List, [], ◌∷◌, ◌++◌, take, length, Option, Some, None}
use Rattle.dms_history.specs.Events.{BlockBytes, AllBlocks, Stored, block_in}
use Rattle.dms_history.specs.Replay.{TellsBefore, with_block}
use Rattle.dms_history.specs.Lists.{has, after_last}
use Rattle.dms_history.specs.Places.{is_control, is_point, IsLive}
use Rattle.dms_history.specs.History.{Pending, last_point}
use Rattle.dms_history.specs.Images.{last_after}
use Rattle.dms_history.specs.Pick.{Dumps, count_at}
use Rattle.dms_history.specs.Here.{here}
use Rattle.dms_history.specs.Base.{from_control}
use Rattle.dms_history.specs.Restores.{Ready, takes_stored}
use Rattle.dms_history.specs.Ranges.{patch_bytes, is_control_logged, is_image, live_logged}
use Rattle.dms_history.specs.declared.event.FileCount.{FileCount}
use Rattle.dms_history.specs.Entries.{Kind, Entry, schema_part, image, byte_range, quiet_point, control_point, begin_restore, counts_in, how_of}
use Rattle.dms_history.specs.Schemas.{schema_entries}
use Rattle.dms_history.specs.EntryEvents.{events_in, history_of, live_of, next_of, Agrees}
use Rattle.dms_history.specs.Kept.{content_told, Kept}

-- No restore is pending, and there is a live Control: the database may run.
pub record IsIdle (entries : List Entry) : Type 0 where
  pub none : (history_of entries).pending ≡ None
  pub controlled : has is_control (live_of entries) ≡ true

-- It is kept, and the content is this one.
pub record KeptTelling (first : Bool) (entries : List Entry) (dumps : Dumps) (base : AllBlocks) (stored : Stored) (content : AllBlocks) : Type 0 where
  pub kept : Kept first entries dumps base stored
  pub tells : content_told entries base ≡ content

-- A new database: a whole Schema and its Control, whatever the files hold.
abbrev pub KeptFirst : Type 0
KeptFirst = (one : List ℕ) (rest : List (List ℕ)) (dumps : Dumps) (stored : Stored)
    → Kept true (schema_entries (one ∷ rest) ++ control_point 0 1 [] ∷ []) dumps (λ f. []) stored

-- An Image that tells what stood before it: the content has the block.
abbrev pub KeptImage : Type 0
KeptImage = (first : Bool) (entries : List Entry) (dumps : Dumps) (base : AllBlocks) (stored : Stored) (f b : ℕ) (before : Option BlockBytes) (after : BlockBytes) → Kept first entries dumps base stored
    → IsIdle entries → TellsBefore b before (content_told entries base f)
    → KeptTelling first (entries ++ image f b before after ∷ []) dumps base stored (with_block (content_told entries base) f b after)

-- A Range of a block with an Image itself since the last Control: the content has its bytes.
abbrev pub KeptRange : Type 0
KeptRange = (first : Bool) (entries : List Entry) (dumps : Dumps) (base : AllBlocks) (stored : Stored) (f b place : ℕ) (bytes : List ℕ) → Kept first entries dumps base stored
    → IsIdle entries → has (is_image f b) (after_last is_control_logged (live_logged [] (events_in entries))) ≡ true
    → KeptTelling first (entries ++ byte_range f b place bytes ∷ []) dumps base stored
    (with_block (content_told entries base) f b (patch_bytes place bytes (block_in (content_told entries base) f b)))

-- A Quiet with a number that is free.
abbrev pub KeptQuiet : Type 0
KeptQuiet = (first : Bool) (entries : List Entry) (dumps : Dumps) (base : AllBlocks) (stored : Stored) (n : ℕ) → Kept first entries dumps base stored
    → IsIdle entries → next_of entries ≤ n → n < 2 ^ 64 - 1
    → KeptTelling first (entries ++ quiet_point n ∷ []) dumps base stored (content_told entries base)

-- A Schema part, over a pending restore too: no event is added.
abbrev pub KeptSchema : Type 0
KeptSchema = (first : Bool) (entries : List Entry) (dumps : Dumps) (base : AllBlocks) (stored : Stored) (part parts : ℕ) (bytes : List ℕ) → Kept first entries dumps base stored
    → Kept first (entries ++ schema_part part parts bytes ∷ []) dumps base stored

-- All blocks stand in the files as the content is, and a Control of the last point with its counts is sealed.
abbrev pub KeptControl : Type 0
KeptControl = (first : Bool) (entries : List Entry) (dumps : Dumps) (base : AllBlocks) (stored written : Stored) (n next : ℕ) (counts : List FileCount) → Kept first entries dumps base stored
    → IsIdle entries → last_point (history_of entries) ≡ Some n → has (is_point n) (live_of entries) ≡ true → next_of entries ≤ next
    → ((f : ℕ) → counts_in counts f ≡ length (content_told entries base f))
    → ((f b : ℕ) → b < length (content_told entries base f) → written f b ≡ block_in (content_told entries base) f b)
    → KeptTelling first (entries ++ control_point n next counts ∷ []) dumps base written (content_told entries base)

-- All blocks stand in the files as the content is, and a Control with a number that is free is sealed: it makes a point.
abbrev pub KeptLevel : Type 0
KeptLevel = (first : Bool) (entries : List Entry) (dumps : Dumps) (base : AllBlocks) (stored written : Stored) (n next : ℕ) (counts : List FileCount) → Kept first entries dumps base stored
    → IsIdle entries → next_of entries ≤ n → n < next → n < 2 ^ 64 - 1
    → ((f : ℕ) → counts_in counts f ≡ length (content_told entries base f))
    → ((f b : ℕ) → b < length (content_told entries base f) → written f b ≡ block_in (content_told entries base) f b)
    → KeptTelling first (entries ++ control_point n next counts ∷ []) dumps base written (content_told entries base)

-- A Begin: what counted is kept, and what is there now may be anything where the restore's rule doesn't look. The dumps may be others by now.
abbrev pub KeptBegin : Type 0
KeptBegin = (first : Bool) (entries : List Entry) (dumps others : Dumps) (base : AllBlocks) (right stored : Stored) (m : ℕ) (kind : Kind) → Kept first entries dumps base right
    → Ready (how_of kind) others (live_of entries) base (here dumps (history_of entries) right) stored m
    → Kept first (entries ++ begin_restore m kind ∷ []) others base stored

-- All blocks stand as the pending restore is to leave them, and its Control is sealed.
abbrev pub KeptEnds : Type 0
KeptEnds = (first : Bool) (entries : List Entry) (dumps : Dumps) (base : AllBlocks) (stored written : Stored) (p : Pending) (next : ℕ) (counts : List FileCount) → Kept first entries dumps base stored
    → (history_of entries).pending ≡ Some p → next_of entries ≤ next
    → ((f : ℕ) → counts_in counts f ≡ count_at p.entries p.point f)
    → ((f b : ℕ) → b < counts_in counts f → written f b ≡ here dumps (history_of entries) stored f b)
    → KeptTelling first (entries ++ control_point p.point next counts ∷ []) dumps base written (content_told entries base)

-- Blocks are written early, torn or whole: each block below its file's count without a change after the last Control stays.
abbrev pub KeptWrites : Type 0
KeptWrites = (first : Bool) (entries : List Entry) (dumps : Dumps) (base : AllBlocks) (stored written : Stored) → Kept first entries dumps base stored → (history_of entries).pending ≡ None
    → ((f b : ℕ) → b < length (content_told entries base f) → last_after f b (after_last is_control (from_control (live_of entries))) ≡ None → written f b ≡ stored f b)
    → Kept first entries dumps base written

-- It is kept with the blocks as they are written, and what counts as each block is what counted.
pub record KeptCounting (first : Bool) (entries : List Entry) (dumps : Dumps) (base : AllBlocks) (stored written : Stored) : Type 0 where
  pub kept : Kept first entries dumps base written
  pub counts : here dumps (history_of entries) written ≡ here dumps (history_of entries) stored

-- A pending restore writes no block below its file's count that it takes from what is stored: what counts stays as it is.
abbrev pub KeptRestores : Type 0
KeptRestores = (first : Bool) (entries : List Entry) (dumps : Dumps) (base : AllBlocks) (stored written : Stored) (p : Pending) → Kept first entries dumps base stored
    → (history_of entries).pending ≡ Some p
    → ((f b : ℕ) → b < count_at p.entries p.point f → takes_stored p.how p.entries p.point f b ≡ true → written f b ≡ stored f b)
    → KeptCounting first entries dumps base stored written

-- What is kept over any base agrees.
abbrev pub KeptAgrees : Type 0
KeptAgrees = (first : Bool) (entries : List Entry) (dumps : Dumps) (base : AllBlocks) (stored : Stored) → Kept first entries dumps base stored → Agrees first entries dumps stored

-- It is kept over some base.
pub record KeptOver (first : Bool) (entries : List Entry) (dumps : Dumps) (stored : Stored) : Type 0 where
  pub base : AllBlocks
  pub kept : Kept first entries dumps base stored

-- What agrees, with a live Control and with a live point of a restore that is pending, is kept over some base.
abbrev pub AgreesKept : Type 0
AgreesKept = (first : Bool) (entries : List Entry) (dumps : Dumps) (stored : Stored) → Agrees first entries dumps stored → has is_control (live_of entries) ≡ true
    → ((p : Pending) → (history_of entries).pending ≡ Some p → IsLive (live_of entries) p.point)
    → KeptOver first entries dumps stored

-- A Schema and its Control sealed in part or whole: what is kept before them and with them is kept with each first part of them.
abbrev pub KeptInParts : Type 0
KeptInParts = (first : Bool) (entries : List Entry) (dumps : Dumps) (base : AllBlocks) (stored : Stored) (some : ℕ) (one : List ℕ) (rest : List (List ℕ)) (e : Entry)
    → Kept first entries dumps base stored → Kept first (entries ++ (schema_entries (one ∷ rest) ++ e ∷ [])) dumps base stored
    → Kept first (entries ++ take some (schema_entries (one ∷ rest) ++ e ∷ [])) dumps base stored

-- A new database agrees, whatever the files and dumps hold.
abbrev pub FirstAgrees : Type 0
FirstAgrees = (one : List ℕ) (rest : List (List ℕ)) (dumps : Dumps) (stored : Stored) → Agrees true (schema_entries (one ∷ rest) ++ control_point 0 1 [] ∷ []) dumps stored
