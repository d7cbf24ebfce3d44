-- Laws: entries, their events, and one more entry that is sealed.
use Rattle.std.specs.Prelude.{ℕ, ◌+◌, ◌*◌, ◌≤◌, ◌<◌, ◌≡◌, ◌≢◌, ◌↔◌, true, false, List, [], ◌∷◌, ◌++◌, Option, Some, None, ◌⊎◌, take}
use Rattle.dms_history.specs.Events.{BlockBytes, Event, change, quiet, control, begin}
use Rattle.dms_history.specs.Images.{last_after}
use Rattle.dms_history.specs.History.{after_event, history, History, history_from}
use Rattle.dms_history.specs.Ranges.{patch_bytes, live_logged}
use Rattle.dms_history.specs.declared.event.FileCount.{FileCount}
use Rattle.dms_history.specs.Entries.{Kind, Entry, schema_part, image, byte_range, quiet_point, control_point, begin_restore, counts_in, how_of, is_in_row}
use Rattle.dms_history.specs.Schemas.{no_parts, parts_from, is_whole, schema_entries}
use Rattle.dms_history.specs.EntryEvents.{events_in, events, live_entries, BeginsAlone}
use Rattle.dms_history.specs.Agrees.{BeginsAloneEvents}

-- Behind some earlier entries stands a whole Schema: its parts 1 to the last, one directly after another.
pub record EndsWithSchema (entries : List Entry) : Type 0 where
  pub earlier : List Entry
  pub first : List ℕ
  pub rest : List (List ℕ)
  pub is : entries ≡ earlier ++ schema_entries (first ∷ rest)

-- The entries end with a whole Schema exactly where its parts 1 to the last stand there one directly after another.
abbrev pub WholeSchemas : Type 0
WholeSchemas = (entries : List Entry) → (is_whole (parts_from no_parts entries) ≡ true) ↔ EndsWithSchema entries

-- The live events are those of the live entries: which Controls stand directly after a whole Schema is the same in both.
abbrev pub LiveOfEntries : Type 0
LiveOfEntries = (entries : List Entry) → events_in (live_entries entries) ≡ live_logged [] (events_in entries)

-- A block is in row r of its file where its number divided by 16 is r, and no row names a block of another file.
pub record RowOfBlock (f b r : ℕ) : Type 0 where
  pub from_first : is_in_row f b (record { file = f; row = r }) ≡ true → 16 * r ≤ b
  pub to_last : is_in_row f b (record { file = f; row = r }) ≡ true → b < 16 * r + 16
  pub within : 16 * r ≤ b → b < 16 * r + 16 → is_in_row f b (record { file = f; row = r }) ≡ true
  pub elsewhere : (k : ℕ) → k ≢ f → is_in_row f b (record { file = k; row = r }) ≡ false

abbrev pub RowsOfBlocks : Type 0
RowsOfBlocks = (f b r : ℕ) → RowOfBlock f b r

-- ---- one more entry

abbrev pub SchemaSealed : Type 0
SchemaSealed = (entries : List Entry) (part parts : ℕ) (bytes : List ℕ) → events (entries ++ schema_part part parts bytes ∷ []) ≡ events entries

abbrev pub ImageSealed : Type 0
ImageSealed = (entries : List Entry) (f b : ℕ) (before : Option BlockBytes) (after : BlockBytes)
    → events (entries ++ image f b before after ∷ []) ≡ events entries ++ change f b before after ∷ []

-- A Range is a change of the block as it was last logged; where it wasn't, the Range is left out.
abbrev pub RangeSealed : Type 0
RangeSealed = (entries : List Entry) (f b place : ℕ) (bytes : List ℕ)
    → ((old : BlockBytes) → last_after f b (history (events entries)).live ≡ Some old
    → events (entries ++ byte_range f b place bytes ∷ []) ≡ events entries ++ change f b (Some old) (patch_bytes place bytes old) ∷ [])
    × (last_after f b (history (events entries)).live ≡ None → events (entries ++ byte_range f b place bytes ∷ []) ≡ events entries)

abbrev pub QuietSealed : Type 0
QuietSealed = (entries : List Entry) (n : ℕ) → events (entries ++ quiet_point n ∷ []) ≡ events entries ++ quiet n ∷ []

-- a whole Schema and its Control
abbrev pub ControlSealed : Type 0
ControlSealed = (entries : List Entry) (first : List ℕ) (rest : List (List ℕ)) (n next : ℕ) (counts : List FileCount)
    → events (entries ++ (schema_entries (first ∷ rest) ++ control_point n next counts ∷ [])) ≡ events entries ++ control n next (counts_in counts) true ∷ []

abbrev pub BeginSealed : Type 0
BeginSealed = (entries : List Entry) (n : ℕ) (kind : Kind) → events (entries ++ begin_restore n kind ∷ []) ≡ events entries ++ begin n (how_of kind) ∷ []

abbrev pub IsSchemaPart : Entry → Type 0
IsSchemaPart (schema_part part parts bytes) = Unit {0}
IsSchemaPart (image f b before after) = ⊥
IsSchemaPart (byte_range f b place bytes) = ⊥
IsSchemaPart (quiet_point n) = ⊥
IsSchemaPart (control_point n next counts) = ⊥
IsSchemaPart (begin_restore n kind) = ⊥

abbrev pub AllSchemaParts : List Entry → Type 0
AllSchemaParts [] = Unit {0}
AllSchemaParts (e ∷ es) = IsSchemaPart e × AllSchemaParts es

-- Schema parts say nothing, whole or not.
abbrev pub PartsSayNothing : Type 0
PartsSayNothing = (entries parts : List Entry) → AllSchemaParts parts → (events_in (entries ++ parts) ≡ events_in entries) × (events (entries ++ parts) ≡ events entries)

-- The first so many of a Schema and its Control: Schema parts alone, or all.
abbrev pub SchemaInParts : Type 0
SchemaInParts = (some : ℕ) (first : List ℕ) (rest : List (List ℕ)) (e : Entry)
    → AllSchemaParts (take some (schema_entries (first ∷ rest) ++ e ∷ [])) ⊎ (take some (schema_entries (first ∷ rest) ++ e ∷ []) ≡ schema_entries (first ∷ rest) ++ e ∷ [])

-- A history goes on by parts.
abbrev pub HistoryAppends : Type 0
HistoryAppends = (h : History) (one two : List Event) → history_from h (one ++ two) ≡ history_from (history_from h one) two

-- One more event is one more step of the history.
abbrev pub OneMoreEvent : Type 0
OneMoreEvent = (es : List Event) (e : Event) → history (es ++ e ∷ []) ≡ after_event (history es) e

-- What may stand after a Begin among the entries may stand there among their events.
abbrev pub EntriesAlone : Type 0
EntriesAlone = (entries : List Entry) → BeginsAlone (events_in entries) → BeginsAloneEvents (events entries)
