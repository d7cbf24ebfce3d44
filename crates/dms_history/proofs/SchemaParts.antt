-- A Schema and its Control, in parts.
use Rattle.std.proofs.Common.{ℕ, zero, suc, ◌+◌, ◌≡◌, ◌⊎◌, inl, inr, List, [], ◌∷◌, ◌++◌, length, take, refl, ◌∙◌, ap}
use Rattle.dms_history.specs.Ranges.{Logged, told_events}
use Rattle.dms_history.specs.Entries.{Entry, schema_part, image, byte_range, quiet_point, control_point, begin_restore}
use Rattle.dms_history.specs.Schemas.{Parts, no_parts, after_entry, parts_from, parts_of_schema, schema_entries}
use Rattle.dms_history.specs.EntryEvents.{logged_from, events_in}
use Rattle.dms_history.specs.LawsOfEntries.{AllSchemaParts, PartsSayNothing, SchemaInParts}
use Rattle.dms_history.proofs.Order.{append_none}
use Rattle.dms_history.proofs.Schemas.{logged_append}

all_parts : (k all : ℕ) (bodies : List (List ℕ)) → AllSchemaParts (parts_of_schema k all bodies)
all_parts k all [] = tt
all_parts k all (bytes ∷ rest) = (tt, all_parts (k + 1) all rest)

nothing_said : (ps : List Entry) (p : Parts) → AllSchemaParts ps → logged_from p ps ≡ []
nothing_said [] p all = refl
nothing_said (schema_part part parts bytes ∷ ps) p all = nothing_said ps (after_entry p (schema_part part parts bytes)) all.1
nothing_said (image f b before after ∷ ps) p all = absurd all.0
nothing_said (byte_range f b place bytes ∷ ps) p all = absurd all.0
nothing_said (quiet_point n ∷ ps) p all = absurd all.0
nothing_said (control_point n next counts ∷ ps) p all = absurd all.0
nothing_said (begin_restore n kind ∷ ps) p all = absurd all.0

pub parts_say_nothing : PartsSayNothing
parts_say_nothing es ps all =
    let same : events_in (es ++ ps) ≡ events_in es = logged_append es ps no_parts ∙ ap (λ (l : List Logged). events_in es ++ l) (nothing_said ps (parts_from no_parts es) all) ∙ append_none (events_in es) in
    (same, ap told_events same)

pub take_nothing : (k : ℕ) (l : List Entry) → l ≡ [] → take k l ≡ []
take_nothing zero l is = refl
take_nothing (suc k) [] is = refl
take_nothing (suc k) (e ∷ es) is = absurd cc

cut : (k : ℕ) (ps : List Entry) (e : Entry) → AllSchemaParts ps → AllSchemaParts (take k (ps ++ e ∷ [])) ⊎ (take k (ps ++ e ∷ []) ≡ ps ++ e ∷ [])
cut zero ps e all = inl tt
cut (suc k) [] e all = inr (ap (λ (l : List Entry). e ∷ l) (take_nothing k [] refl))
cut (suc k) (p ∷ ps) e all = elim (cut k ps e all.1) [
  | inl some ↦ inl (all.0, some)
  | inr whole ↦ inr (ap (λ (l : List Entry). p ∷ l) whole)
]

pub schema_in_parts : SchemaInParts
schema_in_parts some first rest e = cut some (schema_entries (first ∷ rest)) e (all_parts 1 (length (first ∷ rest)) (first ∷ rest))
