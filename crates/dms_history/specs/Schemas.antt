-- Whole Schemas among the entries.
use Rattle.std.specs.Prelude.{ℕ, ◌+◌, ◌==◌, ◌&&◌, nat_lt, if◌then◌else◌, Bool, List, [], ◌∷◌, length}
use Rattle.dms_history.specs.Entries.{Entry, schema_part, image, byte_range, quiet_point, control_point, begin_restore}

-- How much of a Schema the entries end with: its parts 1 to `read` of `all`, one directly after another. Nothing of one is 0 of 0.
pub record Parts : Type 0 where
  pub read : ℕ
  pub all : ℕ

abbrev pub no_parts : Parts
no_parts = record { read = 0; all = 0 }

-- Part 1 begins a Schema; a part goes on with it that is the next one of as many parts; each other entry ends it.
abbrev pub after_entry : Parts → Entry → Parts
after_entry p (schema_part part parts bytes) =
    if part == 1 then record { read = 1; all = parts }
    else if (part == p.read + 1) && (parts == p.all) then record { read = part; all = parts } else no_parts
after_entry p (image f b before after) = no_parts
after_entry p (byte_range f b place bytes) = no_parts
after_entry p (quiet_point n) = no_parts
after_entry p (control_point n next counts) = no_parts
after_entry p (begin_restore n kind) = no_parts

abbrev pub parts_from : Parts → List Entry → Parts
parts_from p [] = p
parts_from p (e ∷ es) = parts_from (after_entry p e) es

-- all parts have been read
abbrev pub is_whole : Parts → Bool
is_whole p = nat_lt 0 p.read && (p.read == p.all)

-- a Schema in parts from number k on, of so many
abbrev pub parts_of_schema : ℕ → ℕ → List (List ℕ) → List Entry
parts_of_schema k all [] = []
parts_of_schema k all (bytes ∷ rest) = schema_part k all bytes ∷ parts_of_schema (k + 1) all rest

-- a whole Schema: parts 1 to the last, one directly after another
abbrev pub schema_entries : List (List ℕ) → List Entry
schema_entries bodies = parts_of_schema 1 (length bodies) bodies
