-- Laws: the Schema at a point.
use Rattle.std.specs.Prelude.{ℕ, ◌≡◌, true, false, List, [], ◌∷◌, ◌++◌, Some}
use Rattle.dms_history.specs.Lists.{has, until_first}
use Rattle.dms_history.specs.Places.{IsLive}
use Rattle.dms_history.specs.declared.event.FileCount.{FileCount}
use Rattle.dms_history.specs.Entries.{Kind, Entry, quiet_point, control_point, begin_restore, is_begin}
use Rattle.dms_history.specs.Schemas.{no_parts, parts_from, is_whole, schema_entries}
use Rattle.dms_history.specs.EntryEvents.{is_place, live_entries, live_of}
use Rattle.dms_history.specs.SchemaAt.{schema_of, schema_at, join_parts}

-- A whole Schema that the entries end with is the last one, and its bytes are those of its parts; an entry that makes none whole leaves the last one.
pub record ReadsSchema (entries : List Entry) : Type 0 where
  pub whole : (first : List ℕ) (rest : List (List ℕ)) → schema_of (entries ++ schema_entries (first ∷ rest)) ≡ Some (join_parts (first ∷ rest))
  pub stays : (e : Entry) → is_whole (parts_from no_parts (entries ++ e ∷ [])) ≡ false → schema_of (entries ++ e ∷ []) ≡ schema_of entries

abbrev pub EachSchema : Type 0
EachSchema = (entries : List Entry) → ReadsSchema entries

-- The Schema at a point that has its place stays, whatever is appended, and wherever a Begin cuts behind that place.
abbrev pub SchemaStays : Type 0
SchemaStays = (entries : List Entry) (n : ℕ)
    → ((e : Entry) → is_begin e ≡ false → has (is_place n) (live_entries entries) ≡ true → schema_at (entries ++ e ∷ []) n ≡ schema_at entries n)
    × ((m : ℕ) (kind : Kind) → has (is_place n) (until_first (is_place m) (live_entries entries)) ≡ true → schema_at (entries ++ begin_restore m kind ∷ []) n ≡ schema_at entries n)

-- A new point gets the last live Schema.
abbrev pub SchemaOfNew : Type 0
SchemaOfNew = (entries : List Entry) (n : ℕ) → has (is_place n) (live_entries entries) ≡ false
    → (schema_at (entries ++ quiet_point n ∷ []) n ≡ schema_of (live_entries entries))
    × ((next : ℕ) (counts : List FileCount) → schema_at (entries ++ control_point n next counts ∷ []) n ≡ schema_of (live_entries entries))

-- Each live point has a Schema.
abbrev pub LiveHasSchema : Type 0
LiveHasSchema = (entries : List Entry) (n : ℕ) → IsLive (live_of entries) n → (bytes : List ℕ) × (schema_at entries n ≡ Some bytes)
