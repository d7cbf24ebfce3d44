-- What the entries of a block are, by the places at which they begin.
use Rattle.std.specs.Prelude.{ℕ, ◌≡◌, ◌≤◌, ◌==◌, ◌||◌, Bool, false, List, [], ◌∷◌, length, Option, Some, None}
use Rattle.dms_history.specs.Lists.{has}
use Rattle.dms_history.specs.Entries.{Entry, schema_part, image, byte_range, quiet_point, control_point, begin_restore}
use Rattle.dms_audfile.specs.AuditTrail.{entry_from}
use Rattle.dms_audfile.specs.Blocks.{block_entries}
use Rattle.dms_audfile.specs.Scanning.{places_of}
use Rattle.dms_audfile.specs.Tails.{ReadsPlaces}
use Rattle.dms_audfile.specs.TrailEntries.{entries_in}
use Rattle.dms_audfile.specs.declared.place.EntryPlace.{EntryPlace}

-- a Control of point 0
abbrev pub is_first : Entry → Bool
is_first (schema_part part parts bytes) = false
is_first (image f b before after) = false
is_first (byte_range f b place bytes) = false
is_first (quiet_point n) = false
is_first (control_point n next counts) = n == 0
is_first (begin_restore n kind) = false

abbrev pub is_of : (Entry → Bool) → Option Entry → Bool
is_of kind None = false
is_of kind (Some e) = kind e

-- one of the entries that begin at these places of a block is of the kind
abbrev pub any_of : (Entry → Bool) → List ℕ → List EntryPlace → Bool
any_of kind block [] = false
any_of kind block (p ∷ ps) = is_of kind (entry_from p.offset block) || any_of kind block ps

-- Law: where they are the places of its entries, one of its entries is.
abbrev pub EntriesAreOf : Type 0
EntriesAreOf = (kind : Entry → Bool) (block : List ℕ) (f n : ℕ) (places : List EntryPlace) → length block ≡ 4096 → 10001 ≤ f → 1 ≤ n → n ≤ 512 → ReadsPlaces (places_of f n (block_entries block)) places
    → any_of kind block places ≡ has kind (entries_in (block ∷ []))
