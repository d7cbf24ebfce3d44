-- The Schema at a point.
use Rattle.std.specs.Prelude.{ℕ, ◌==◌, if◌then◌else◌, List, [], ◌∷◌, ◌++◌, Option, Some, None}
use Rattle.dms_history.specs.Lists.{until_first}
use Rattle.dms_history.specs.Entries.{Entry, schema_part, image, byte_range, quiet_point, control_point, begin_restore}
use Rattle.dms_history.specs.Schemas.{Parts, no_parts, after_entry, is_whole}
use Rattle.dms_history.specs.EntryEvents.{is_place, live_entries}

-- how much of a Schema the entries end with, and its bytes where they end with a part of one
pub record SchemaRead : Type 0 where
  pub parts : Parts
  pub bytes : List ℕ

abbrev pub no_schema : SchemaRead
no_schema = record { parts = no_parts; bytes = [] }

abbrev pub after_schema : SchemaRead → Entry → SchemaRead
after_schema r (schema_part part parts bytes) = record { parts = after_entry r.parts (schema_part part parts bytes); bytes = if part == 1 then bytes else r.bytes ++ bytes }
after_schema r (image f b before after) = no_schema
after_schema r (byte_range f b place bytes) = no_schema
after_schema r (quiet_point n) = no_schema
after_schema r (control_point n next counts) = no_schema
after_schema r (begin_restore n kind) = no_schema

-- the bytes of the last whole Schema, where one is whole by then
abbrev pub last_schema : SchemaRead → Option (List ℕ) → List Entry → Option (List ℕ)
last_schema r found [] = found
last_schema r found (e ∷ es) = last_schema (after_schema r e) (if is_whole (after_schema r e).parts then Some (after_schema r e).bytes else found) es

-- the bytes of the last whole Schema among some entries
abbrev pub schema_of : List Entry → Option (List ℕ)
schema_of entries = last_schema no_schema None entries

-- The Schema at a point: the bytes of the last whole live Schema before the place of the point.
unfoldable pub schema_at : List Entry → ℕ → Option (List ℕ)
schema_at entries n = schema_of (until_first (is_place n) (live_entries entries))

-- the bytes of all parts
abbrev pub join_parts : List (List ℕ) → List ℕ
join_parts [] = []
join_parts (bytes ∷ rest) = bytes ++ join_parts rest
