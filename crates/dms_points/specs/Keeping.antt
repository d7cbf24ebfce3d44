-- How the points of a trail are kept, entry by entry.
use Rattle.std.specs.Prelude.{ℕ, ◌+◌, ◌^◌, ◌-◌, ◌==◌, ◌||◌, ◌&&◌, nat_lt, min, max, if◌then◌else◌, Bool, false, List, [], ◌∷◌, ◌++◌, take, slice_index_or, Option, Some, None, option_map}
use Rattle.dms_history.specs.Entries.{Entry, schema_part, image, byte_range, quiet_point, control_point, begin_restore}
use Rattle.dms_history.specs.Schemas.{Parts, no_parts, is_whole}
use Rattle.dms_points.specs.declared.keeping.PlaceAt.{PlaceAt}
use Rattle.dms_points.specs.declared.keeping.PointTrace.{PointTrace}

-- what is kept
pub record Kept : Type 0 where
  pub places : List PlaceAt
  pub need : Option ℕ
  pub parts : Parts
  pub begun : ℕ
  pub least : ℕ
  pub greatest : ℕ

abbrev pub kept : PointTrace → Kept
kept t = record { places = t.places.items; need = t.need; parts = record { read = t.read; all = t.all }; begun = t.begun; least = t.least; greatest = t.greatest }

abbrev pub no_entry : Kept
no_entry = record { places = []; need = None; parts = no_parts; begun = 0; least = 2 ^ 64 - 1; greatest = 0 }

-- how many places stand before that of a point
abbrev pub place_among : List PlaceAt → ℕ → Option ℕ
place_among [] n = None
place_among (p ∷ ps) n = if p.number == n then Some 0 else option_map (λ i. i + 1) (place_among ps n)

-- the last place is that of a point
abbrev pub is_last : List PlaceAt → ℕ → Bool
is_last [] n = false
is_last (p ∷ []) n = p.number == n
is_last (p ∷ (q ∷ ps)) n = is_last (q ∷ ps) n

abbrev pub forget : Kept → Kept
forget k = record { places = k.places; need = k.need; parts = no_parts; begun = k.begun; least = k.least; greatest = k.greatest }

-- with a part of a Schema that stands in an audit file
abbrev pub after_part : Kept → ℕ → ℕ → ℕ → Kept
after_part k file part parts =
    if part == 1 then record { places = k.places; need = k.need; parts = record { read = 1; all = parts }; begun = file; least = k.least; greatest = k.greatest }
    else if (part == k.parts.read + 1) && (parts == k.parts.all)
    then record { places = k.places; need = k.need; parts = record { read = part; all = parts }; begun = k.begun; least = k.least; greatest = k.greatest }
    else forget k

-- with this number among those that were seen
abbrev pub seen : Kept → ℕ → Kept
seen k n = record { places = k.places; need = k.need; parts = k.parts; begun = k.begun; least = min k.least n; greatest = max k.greatest n }

-- with one place more, with the Schema before it
abbrev pub placed : Kept → ℕ → Kept
placed k n = record { places = k.places ++ (record { number = n; need = k.need }) ∷ []; need = k.need; parts = k.parts; begun = k.begun; least = k.least; greatest = k.greatest }

-- with no place
abbrev pub emptied : Kept → Kept
emptied k = record { places = []; need = k.need; parts = k.parts; begun = k.begun; least = k.least; greatest = k.greatest }

-- With the number of a Quiet or a Control. Where the last place has it nothing is new; a number above or below all that were seen has a place behind the others.
-- Another number is in no trail that commands wrote: where it comes no place before it counts.
abbrev pub after_number : Kept → ℕ → Kept
after_number k n =
    if is_last k.places n then k
    else if nat_lt k.greatest n || nat_lt n k.least then placed (seen k n) n
    else emptied (seen k n)

-- with the Schema that is whole now, where one is
abbrev pub described : Kept → Kept
described k =
    if is_whole k.parts then record { places = k.places; need = Some k.begun; parts = k.parts; begun = k.begun; least = k.least; greatest = k.greatest } else k

abbrev pub after_control : Kept → ℕ → Kept
after_control k n = after_number (described k) n

-- what a Begin keeps: up to the place of its point, and the Schema there
abbrev pub cut_at : Kept → Option ℕ → Kept
cut_at k None = record { places = []; need = None; parts = no_parts; begun = k.begun; least = k.least; greatest = k.greatest }
cut_at k (Some i) = forget (record {
  places = take (i + 1) k.places;
  need = (slice_index_or k.places i (record { number = 0; need = None })).need;
  parts = k.parts;
  begun = k.begun;
  least = k.least;
  greatest = k.greatest;
})

abbrev pub after_begin : Kept → ℕ → Kept
after_begin k n = cut_at k (place_among k.places n)

-- with one more entry, which stands in an audit file
abbrev pub after : Kept → ℕ → Entry → Kept
after k file (schema_part part parts bytes) = after_part k file part parts
after k file (image f b before bytes) = forget k
after k file (byte_range f b place bytes) = forget k
after k file (quiet_point n) = forget (after_number k n)
after k file (control_point n next counts) = forget (after_control k n)
after k file (begin_restore n kind) = after_begin k n
