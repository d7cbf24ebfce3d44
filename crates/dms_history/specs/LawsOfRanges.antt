-- Laws: entries with Ranges are a list of changes with whole images.
use Rattle.std.specs.Prelude.{ℕ, ◌+◌, ◌<◌, ◌≤◌, ◌≡◌, ◌⊎◌, Bool, true, false, List, [], ◌∷◌, ◌++◌, map, length, take, drop, slice_index_or, Some, None}
use Rattle.dms_history.specs.Events.{BlockBytes, AllBlocks, Stored, Counts, Event, change, control, block_in}
use Rattle.dms_history.specs.Replay.{replay, with_block}
use Rattle.dms_history.specs.Lists.{has, until_first, after_last}
use Rattle.dms_history.specs.Images.{last_after}
use Rattle.dms_history.specs.History.{History, after_event, history_from, history}
use Rattle.dms_history.specs.Base.{from_control, Sound}
use Rattle.dms_history.specs.Places.{is_control}
use Rattle.dms_history.specs.Pick.{Dumps}
use Rattle.dms_history.specs.Restores.{Steady}
use Rattle.dms_history.specs.Ranges.{Logged, event, range, patch_bytes, changes_of, all_changes, told_events, is_point_logged, is_control_logged, is_image, live_logged}

-- A list without Ranges stays as it is.
abbrev pub NoRanges : Type 0
NoRanges = (es : List Event) → all_changes (map event es) ≡ es

-- The live changes are the changes of the live entries.
abbrev pub LiveOfRanges : Type 0
LiveOfRanges = (xs : List Logged) → (history (told_events xs)).live ≡ all_changes (live_logged [] xs)

-- A Range is left out exactly where no Image itself of its block stands before it.
abbrev pub LeftOut : Type 0
LeftOut = (xs : List Logged) (f b : ℕ) → (has (is_image f b) xs ≡ false → last_after f b (all_changes xs) ≡ None) × (last_after f b (all_changes xs) ≡ None → has (is_image f b) xs ≡ false)

-- A sealed Range is a change like others: what it tells stood there, and the content is the old one with the bytes.
abbrev pub RangeChanges : Type 0
RangeChanges = (entries : List Event) (base : AllBlocks) (stored : Stored) (f b place : ℕ) (bytes : List ℕ) (old : BlockBytes) → Sound entries base stored → last_after f b entries ≡ Some old
    → Sound (entries ++ changes_of entries (range f b place bytes)) base stored
    × (replay (entries ++ changes_of entries (range f b place bytes)) base ≡ with_block (replay entries base) f b (patch_bytes place bytes (block_in (replay entries base) f b)))

-- The same over a whole history without a pending restore: a Range of a block with a change since the first Control.
pub record RangeSteady (dumps : Dumps) (h : History) (base : AllBlocks) (stored : Stored) (f b place : ℕ) (bytes : List ℕ) (old : BlockBytes) : Type 0 where
  pub is : history_from h (changes_of h.live (range f b place bytes)) ≡ after_event h (change f b (Some old) (patch_bytes place bytes old))
  pub steady : Steady dumps (after_event h (change f b (Some old) (patch_bytes place bytes old))) base stored
  pub content : replay (from_control (after_event h (change f b (Some old) (patch_bytes place bytes old))).live) base
      ≡ with_block (replay (from_control h.live) base) f b (patch_bytes place bytes (block_in (replay (from_control h.live) base) f b))

abbrev pub RangesSteady : Type 0
RangesSteady = (dumps : Dumps) (h : History) (base : AllBlocks) (stored : Stored) (f b place : ℕ) (bytes : List ℕ) (old : BlockBytes) → h.pending ≡ None → has is_control h.live ≡ true
    → Steady dumps h base stored → last_after f b (from_control h.live) ≡ Some old → RangeSteady dumps h base stored f b place bytes old

-- Every live Range that isn't left out has a live Image itself of its block before it: after the last live Control before the Range,
-- or anywhere from the front where there is no such Control.
pub record HasImages (live : List Logged) : Type 0 where
  pub images : (xs ys : List Logged) (f b place : ℕ) (bytes : List ℕ) → live ≡ xs ++ range f b place bytes ∷ ys
      → has (is_image f b) xs ≡ true ⊎ (has is_control_logged xs ≡ true) → has (is_image f b) (after_last is_control_logged xs) ≡ true

-- What stands before a Control, removed with old files or not, doesn't change what follows.
abbrev pub RangesSplit : Type 0
RangesSplit = (xs ys : List Logged) (n next : ℕ) (counts : Counts) (described : Bool) → HasImages (xs ++ event (control n next counts described) ∷ ys)
    → all_changes (xs ++ event (control n next counts described) ∷ ys) ≡ all_changes xs ++ all_changes (event (control n next counts described) ∷ ys)

abbrev pub is_range : Logged → Bool
is_range (event e) = false
is_range (range f b place bytes) = true

-- An entry that isn't a Range, a Range of a block with an Image itself since the last Control, and a cut keep it so.
pub record ImagesOn (live : List Logged) : Type 0 where
  pub others : (x : Logged) → is_range x ≡ false → HasImages (live ++ x ∷ [])
  pub ranges : (f b place : ℕ) (bytes : List ℕ) → has (is_image f b) (after_last is_control_logged live) ≡ true → HasImages (live ++ range f b place bytes ∷ [])
  pub cuts : (n : ℕ) → HasImages (until_first (is_point_logged n) live)

abbrev pub ImagesGoOn : Type 0
ImagesGoOn = (live : List Logged) → HasImages live → ImagesOn live

-- A patched block is as long as it was, and the bytes between the first and the last that differ patch one block to the other.
abbrev pub RangeFits : Type 0
RangeFits = (place n : ℕ) (old new : BlockBytes) → place + n ≤ length old → length new ≡ length old
    → ((i : ℕ) → i < place → slice_index_or new i 0 ≡ slice_index_or old i 0) → ((i : ℕ) → place + n ≤ i → i < length old → slice_index_or new i 0 ≡ slice_index_or old i 0)
    → (patch_bytes place (take n (drop place new)) old ≡ new) × ((bytes : List ℕ) → place + length bytes ≤ length old → length (patch_bytes place bytes old) ≡ length old)
