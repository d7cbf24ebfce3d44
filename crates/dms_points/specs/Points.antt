-- The points of a trail that are kept.
use Rattle.std.specs.Prelude.{ℕ, ◌≡◌, List, [], ◌∷◌, map, Some}
use Rattle.dms_history.specs.Entries.{Entry}
use Rattle.dms_history.specs.EntryEvents.{live_of}
use Rattle.dms_history.specs.Places.{IsLive}
use Rattle.dms_points.specs.declared.keeping.PlaceAt.{PlaceAt}
use Rattle.dms_points.specs.Keeping.{Kept, no_entry, after}

-- an entry with the number of the audit file in which it stands
pub record Filed : Type 0 where
  pub file : ℕ
  pub entry : Entry

abbrev pub entry_of : Filed → Entry
entry_of x = x.entry

abbrev pub kept_from : Kept → List Filed → Kept
kept_from k [] = k
kept_from k (x ∷ xs) = kept_from (after k x.file x.entry) xs

-- what is kept of a trail
abbrev pub kept_of : List Filed → Kept
kept_of xs = kept_from no_entry xs

-- each of these places that has a Schema is that of a live point of the entries
abbrev pub AllLive : List Entry → List PlaceAt → Type 0
AllLive es [] = Unit {0}
AllLive es (p ∷ ps) = ((s : ℕ) → p.need ≡ Some s → IsLive (live_of es) p.number) × AllLive es ps

-- So it is of the places that are kept of a trail.
abbrev pub KeepsLive : Type 0
KeepsLive = (xs : List Filed) → AllLive (map entry_of xs) (kept_of xs).places
